use Rattle.std.proofs.Common.{◌≡◌, ℕ, min}
use Rattle.sealing.specs.Factors.{Gives}
use Rattle.units.specs.Counting.{product}
use Rattle.sealing.proofs.products.product_below.Given as goal

-- the product so far
abbrev pub invariant-loop-number : goal.invariant-loop-number
invariant-loop-number g l = (f : ℕ → ℕ) → Gives (goal.F-post g l.factor) f l.bound → l.all ≡ min (product f l.number) l.most
