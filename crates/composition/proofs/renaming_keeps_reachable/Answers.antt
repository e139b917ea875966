use Rattle.composition.proofs.Renaming.{renamed_corresponds}
use Rattle.composition.proofs.renaming_keeps_reachable.Goals as goal

pub returns : goal.returns
returns c = renamed_corresponds
