use Rattle.std.proofs.Common.{◌≡◌, ◌-◌, None}
use Rattle.model.specs.States.{value}
use Rattle.sealing.specs.Search.{failure_at, witness_if, first_below, filling_with}
use Rattle.sealing.proofs.search.Search.+first_from.Given as goal

-- no lower value leads to any
abbrev pub invariant-loop-value : goal.invariant-loop-value
invariant-loop-value g l = first_below (filling_with (witness_if (failure_at l.self.query.failure (g.D.Drawing.meaning l.self.drawing.now).acts l.self.query)) (value l.self.query.ranges) l.next (63 - l.next) l.witness) l.value ≡ None

abbrev pub decreases-first_from : goal.decreases-first_from
decreases-first_from g l = 64 - l.place
