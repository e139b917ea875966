-- Sets of names that stand for numbers of 32 bits.
use Rattle.std.proofs.Common.{◌≡◌, ℕ, ◌^◌, ◌<◌, ◌≤◌, ◌⊎◌, ◌&&◌, ltb, inl, inr, sym, ap, ◌∙◌}
use Rattle.std.proofs.lemmas.Bool.{lt-ltb, le-ltb, cases_lt}
use Rattle.language.specs.laws.Tables.{bit_high}
use Rattle.language.specs.Tables.{bit}

-- no bit of such a number past the 32 names is set
pub all_names : (w : ℕ) → w < 2 ^ 32 → (n : ℕ) → (ltb n 32 && bit w n) ≡ bit w n
all_names w small n = go (cases_lt n 32)
  where
    go : (n < 32) ⊎ (32 ≤ n) → (ltb n 32 && bit w n) ≡ bit w n
    go (inl l) = ap (λ b. b && bit w n) (lt-ltb n 32 l)
    go (inr l) = ap (λ b. b && bit w n) (le-ltb n 32 l) ∙ sym (bit_high w n small l)
