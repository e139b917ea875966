use Rattle.units.proofs.Outcomes.{reach_outcomes}
use Rattle.units.proofs.rounds_reach_every_outcome.Goals as goal

pub returns : goal.returns
returns c = reach_outcomes
