use Rattle.language.proofs.Worked.{worked_levels}
use Rattle.language.proofs.worked_levels.Goals as goal

pub returns : goal.returns
returns c = worked_levels
