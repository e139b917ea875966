use Rattle.composition.proofs.Reordering.{regroups}
use Rattle.composition.proofs.joins_associate.Goals as goal

pub returns : goal.returns
returns c = regroups
