use Rattle.cases.proofs.Computed.{computed}
use Rattle.cases.proofs.broken_need_not_survive_a_join.Goals as goal

pub returns : goal.returns
returns c = computed.1
