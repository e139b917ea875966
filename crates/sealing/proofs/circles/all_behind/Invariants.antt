use Rattle.std.proofs.Common.{◌≡◌, ℕ}
use Rattle.sealing.specs.Awaits.{direct}
use Rattle.model.specs.Sets.{has}
use Rattle.sealing.proofs.Through.{behind}
use Rattle.sealing.proofs.circles.all_behind.Given as goal

abbrev pub invariant-loop-others : goal.invariant-loop-others
invariant-loop-others l = (a : ℕ) → has l.behind a ≡ behind (direct l.table) l.table.atoms l.goal l._others a
