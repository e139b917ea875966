-- The exchange of two names.
use Rattle.std.specs.Prelude.{ℕ, cond, ◌==◌}

-- each of the two names for the other, and any other name for itself
abbrev pub exchange : ℕ → ℕ → ℕ → ℕ
exchange a b n = cond (n == a) b (cond (n == b) a n)
