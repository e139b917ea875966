use Rattle.units.proofs.Outcomes.{end_in_outcomes}
use Rattle.units.proofs.rounds_end_only_in_outcomes.Goals as goal

pub returns : goal.returns
returns c = end_in_outcomes
