use Rattle.std.proofs.Common.{◌≡◌, ◌+◌, not, None}
use Rattle.model.specs.States.{yields}
use Rattle.model.specs.Tests.{lowest}
use Rattle.model.specs.declared.Round.TheVariants.{Update}
use Rattle.units.specs.Evidence.{state_at}
use Rattle.evidence.proofs.run.lowest_unfollowed.Given as goal

-- each state so far is followed by the next
abbrev pub invariant-loop-index : goal.invariant-loop-index
invariant-loop-index g l = lowest (λ i. not (yields (g.D.Drawing.meaning l.drawing) Update (state_at l.states i) (state_at l.states (i + 1)))) l.index ≡ None
