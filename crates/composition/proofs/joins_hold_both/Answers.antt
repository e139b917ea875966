use Rattle.composition.proofs.Joining.{contents}
use Rattle.composition.proofs.joins_hold_both.Goals as goal

pub returns : goal.returns
returns c = contents
