use Rattle.std.proofs.Common.{◌≡◌, ◌-◌, Some}
use Rattle.units.specs.Evidence.{is_listed}
use Rattle.evidence.specs.Counts.{sum_below}
use Rattle.evidence.proofs.Steps.{choice_count}
use Rattle.evidence.proofs.round.RoundSearch.+atoms_count.Given as goal

abbrev pub decreases-atoms_count : goal.decreases-atoms_count
decreases-atoms_count g l = 16 - l.place

-- the count under the choices so far
abbrev pub invariant-loop-choice : goal.invariant-loop-choice
invariant-loop-choice g l = sum_below (choice_count (g.D.Drawing.meaning l.self.drawing.now) l.self.before (is_listed l.self.states.now) l.self.order.now l.place l.new) l.choice ≡ Some l.count
