use Rattle.reactive.proofs.Theorems.{has_order}
use Rattle.reactive.proofs.every_module_has_an_order.Goals as goal

pub returns : goal.returns
returns c = has_order
