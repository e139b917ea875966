use Rattle.units.proofs.Theory.{runs_break}
use Rattle.units.proofs.accepted_runs_break.Goals as goal

pub returns : goal.returns
returns c = runs_break
