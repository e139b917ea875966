use Rattle.composition.proofs.Joining.{states_joined}
use Rattle.composition.proofs.states_of_joins.Goals as goal

pub returns : goal.returns
returns c = states_joined
