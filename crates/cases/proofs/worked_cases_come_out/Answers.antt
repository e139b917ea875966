use Rattle.cases.proofs.Computed.{computed}
use Rattle.cases.proofs.worked_cases_come_out.Goals as goal

pub returns : goal.returns
returns c = computed.0
