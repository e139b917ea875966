use Rattle.composition.proofs.Hiding.{yields_hidden}
use Rattle.composition.proofs.hiding_keeps_rounds.Goals as goal

pub returns : goal.returns
returns c = yields_hidden
