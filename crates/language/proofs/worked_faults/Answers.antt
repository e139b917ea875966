use Rattle.language.proofs.Worked.{worked_faults}
use Rattle.language.proofs.worked_faults.Goals as goal

pub returns : goal.returns
returns c = worked_faults
