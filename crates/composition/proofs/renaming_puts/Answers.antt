use Rattle.composition.proofs.Putting.{puts}
use Rattle.composition.proofs.renaming_puts.Goals as goal

pub returns : goal.returns
returns c = puts
