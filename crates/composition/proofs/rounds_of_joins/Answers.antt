use Rattle.composition.proofs.Joining.{yields_joined}
use Rattle.composition.proofs.rounds_of_joins.Goals as goal

pub returns : goal.returns
returns c = yields_joined
