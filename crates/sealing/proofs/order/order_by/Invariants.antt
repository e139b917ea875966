use Rattle.std.proofs.Common.{◌≡◌, length}
use Rattle.model.specs.Sets.{has}
use Rattle.sealing.specs.Awaits.{direct}
use Rattle.sealing.specs.Orders.{ZerosFrom}
use Rattle.sealing.proofs.Pinned.{Pinned}
use Rattle.sealing.proofs.Placing.{Placed}
use Rattle.sealing.proofs.order.order_by.Given as goal

abbrev pub invariant-loop-place : goal.invariant-loop-place
invariant-loop-place l = record {
  long : length l.order ≡ 16;
  pinned : Pinned (direct l.table) l.table.atoms l.order (has l.placed) l.place;
  placed : Placed (direct l.table) l.table.atoms l.order (has l.placed) l.place;
  rest : ZerosFrom l.place l.order;
}
