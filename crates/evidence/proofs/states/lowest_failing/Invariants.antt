use Rattle.std.proofs.Common.{◌≡◌, ℕ, Bool, not, List, None}
use Rattle.model.specs.Tests.{lowest}
use Rattle.units.specs.Evidence.{state_at}
use Rattle.evidence.specs.Judging.{Judges}
use Rattle.evidence.proofs.states.lowest_failing.Given as goal

-- no state so far fails
abbrev pub invariant-loop-index : goal.invariant-loop-index
invariant-loop-index g l = (p : List ℕ → Bool) → Judges (goal.F-post g l.test) p l.states → lowest (λ i. not (p (state_at l.states i))) l.index ≡ None
