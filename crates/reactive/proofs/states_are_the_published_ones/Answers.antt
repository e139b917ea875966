use Rattle.reactive.proofs.States.{states_are}
use Rattle.reactive.proofs.states_are_the_published_ones.Goals as goal

pub returns : goal.returns
returns c = states_are
