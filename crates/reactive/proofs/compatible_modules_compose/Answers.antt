use Rattle.reactive.proofs.Theorems.{compatible_compose}
use Rattle.reactive.proofs.compatible_modules_compose.Goals as goal

pub returns : goal.returns
returns c = compatible_compose
