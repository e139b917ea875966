use Rattle.std.proofs.Common.{arith}
use Rattle.std.proofs.lemmas.Grind.{common_steps}
use Rattle.table.proofs.Told.{few_bytes, guard_is, no_guard}
use Rattle.table.proofs.table.Table.guard.Goals as goal

pub returns : goal.returns
returns c = grind (arith, common_steps, few_bytes, guard_is, no_guard)
