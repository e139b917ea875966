-- Rows of marks.
use Rattle.std.proofs.Common.{◌≡◌, ℕ, zero, suc, false, get_or, replicate, refl}

-- a row without a mark
pub unmarked : (k n : ℕ) → get_or (replicate k false) n false ≡ false
unmarked zero n = refl
unmarked (suc k) zero = refl
unmarked (suc k) (suc n) = unmarked k n
