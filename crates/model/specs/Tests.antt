-- Tests on all numbers below a bound.
use Rattle.std.specs.Prelude.{◌≡◌, ◌<◌, ℕ, zero, suc, ◌+◌, Bool, true, false, cond, not, ◌&&◌, ◌||◌, Some, None, Option}
use Rattle.std.specs.Option.{option_or}

-- p holds of each number below n
unfoldable pub every : (ℕ → Bool) → ℕ → Bool
every p zero = true
every p (suc n) = p n && every p n

-- p holds of some number below n
unfoldable pub some : (ℕ → Bool) → ℕ → Bool
some p zero = false
some p (suc n) = p n || some p n

-- q holds where p does
abbrev pub implies : Bool → Bool → Bool
implies p q = not p || q

-- the lowest number below n of which p holds, if any
unfoldable pub lowest : (ℕ → Bool) → ℕ → Option ℕ
lowest p zero = None
lowest p (suc n) = option_or (lowest p n) (cond (p n) (Some n) None)

-- how many numbers below n pass the test
unfoldable pub count : (ℕ → Bool) → ℕ → ℕ
count p zero = 0
count p (suc n) = count p n + cond (p n) 1 0

-- at each number below n, whatever is answered is what p says
abbrev pub Answers : (ℕ → Bool → Type 0) → (ℕ → Bool) → ℕ → Type 0
Answers answered p n = (k : ℕ) (b : Bool) → k < n → answered k b → b ≡ p k
