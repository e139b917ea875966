use Rattle.reactive.proofs.Reaching.{reachable_listed}
use Rattle.reactive.proofs.reachable_states_can_be_listed.Goals as goal

pub returns : goal.returns
returns c = reachable_listed
