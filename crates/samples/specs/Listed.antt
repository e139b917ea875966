-- Which numbers pass a test.
use Rattle.std.specs.Prelude.{ℕ, Bool, List, ◌==◌}
use Rattle.std.specs.List.{list_any}
use Rattle.model.specs.Tests.{every}
use mathlib.Core.Bool.{beq}

-- is the number one of these?
abbrev pub is_listed : List ℕ → ℕ → Bool
is_listed numbers n = list_any (λ m. m == n) numbers

-- of all numbers that fit a byte, does the test pass at those listed, and at no others?
abbrev pub passes_just : (ℕ → Bool) → List ℕ → Bool
passes_just test numbers = every (λ n. beq (test n) (is_listed numbers n)) 256
