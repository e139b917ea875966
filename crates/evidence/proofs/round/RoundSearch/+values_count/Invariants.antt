use Rattle.std.proofs.Common.{◌≡◌, ◌-◌, Some}
use Rattle.units.specs.Evidence.{is_listed}
use Rattle.evidence.specs.Counts.{sum_below}
use Rattle.evidence.proofs.Steps.{value_count}
use Rattle.evidence.proofs.round.RoundSearch.+values_count.Given as goal

abbrev pub decreases-values_count : goal.decreases-values_count
decreases-values_count g l = 32 - l.name

-- the count under the values so far
abbrev pub invariant-loop-value : goal.invariant-loop-value
invariant-loop-value g l = sum_below (value_count (g.D.Drawing.meaning l.self.drawing.now) l.self.before (is_listed l.self.states.now) l.self.order.now l.name l.new) l.value ≡ Some l.count
