use Rattle.composition.proofs.Reordering.{swaps}
use Rattle.composition.proofs.joins_commute.Goals as goal

pub returns : goal.returns
returns c = swaps
