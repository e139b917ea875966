use Rattle.reactive.proofs.Theorems.{renamed_modules}
use Rattle.reactive.proofs.renamed_modules_are_modules.Goals as goal

pub returns : goal.returns
returns c = renamed_modules
