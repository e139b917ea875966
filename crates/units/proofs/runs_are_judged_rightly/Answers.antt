use Rattle.units.proofs.Theory.{runs_judged}
use Rattle.units.proofs.runs_are_judged_rightly.Goals as goal

pub returns : goal.returns
returns c = runs_judged
