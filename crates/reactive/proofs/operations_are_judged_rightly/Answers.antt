use Rattle.reactive.proofs.Judged.{operations_judged}
use Rattle.reactive.proofs.operations_are_judged_rightly.Goals as goal

pub returns : goal.returns
returns c = operations_judged
