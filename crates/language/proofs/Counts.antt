-- How many numbers below a bound pass a test.
use Rattle.model.specs.Tests.{count}
use Rattle.std.proofs.Common.{◌≡◌, ℕ, zero, suc, ◌+◌, ◌<◌, ◌≤◌, Bool, true, false, cond, ◌⊎◌, ap, subst, inl, inr, zero-le, not-suc-le-zero, arith}
use Rattle.std.proofs.lemmas.Bool.{cond-true, cases_eq}

module _ (test : ℕ → Bool) where
  pub count_few : (n : ℕ) → count test n ≤ n
  unfolding count
  count_few zero = zero-le
  count_few (suc n) = go (test n) (count_few n)
    where
      go : (b : Bool) → count test n ≤ n → count test n + cond b 1 0 ≤ suc n
      go true h = omega arith
      go false h = omega arith

  -- fewer numbers pass below one that passes than below any higher one
  pub count_below : (n m : ℕ) → test n ≡ true → n < m → count test n < count test m
  unfolding count
  count_below n zero h l = absurd (not-suc-le-zero l)
  count_below n (suc m) h l = go (cases_eq n m) (λ below. count_below n m h below)
    where
      go : (n ≡ m) ⊎ (n ≡ m → ⊥) → (n < m → count test n < count test m) → count test n < count test m + cond (test m) 1 0
      go (inl e) f =
          let last : cond {A = ℕ} (test m) 1 0 ≡ 1 = cond-true {A = ℕ} (test m) 1 0 (subst (λ i. test i ≡ true) e h) in
          let same : count test n ≡ count test m = ap (count test) e in omega arith
      go (inr e) f = omega (arith, f (omega arith))
