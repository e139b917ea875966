use Rattle.reactive.proofs.Theorems.{hidden_modules}
use Rattle.reactive.proofs.hidden_modules_are_modules.Goals as goal

pub returns : goal.returns
returns c = hidden_modules
