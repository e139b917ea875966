use Rattle.composition.proofs.Renaming.{renamed_back}
use Rattle.composition.proofs.renaming_back.Goals as goal

pub returns : goal.returns
returns c = renamed_back
