use Rattle.std.proofs.Common.{◌≡◌, ◌≤◌, ℕ, Bool}
use Rattle.model.specs.Tests.{count, Answers}
use Rattle.model.proofs.below.count_below.Given as goal

-- those that pass so far are counted
abbrev pub invariant-loop-number : goal.invariant-loop-number
invariant-loop-number g l =
    (l.found ≤ l.number) × ((p : ℕ → Bool) → Answers (goal.F-post g l.test) p l.bound → l.found ≡ count p l.number)
