use Rattle.composition.proofs.Renaming.{yields_renamed}
use Rattle.composition.proofs.rounds_of_renamed.Goals as goal

pub returns : goal.returns
returns c = yields_renamed
