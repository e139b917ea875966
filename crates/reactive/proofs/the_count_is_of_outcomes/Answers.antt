use Rattle.reactive.proofs.Outcomes.{count_of_outcomes}
use Rattle.reactive.proofs.the_count_is_of_outcomes.Goals as goal

pub returns : goal.returns
returns c = count_of_outcomes
