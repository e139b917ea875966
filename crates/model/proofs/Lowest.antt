-- The lowest number that passes a test.
use Rattle.std.proofs.Common.{◌≡◌, ℕ, zero, suc, ◌<◌, ◌≤◌, Bool, true, false, cond, Some, None, Option, MatchOption, refl, sym, ap, ◌∙◌, subst, ⊎_elim, not-suc-le-zero, arith}
use Rattle.std.proofs.lemmas.Bool.{cases_eq, both_ways}
use Rattle.std.specs.Option.{option_or}
use Rattle.model.specs.Tests.{lowest, Answers}
use Rattle.model.proofs.Bounded.{lowest_at}

-- i passes, and no lower number does
pub record Lowest (p : ℕ → Bool) (n i : ℕ) : Type 0 where
  pub inside : i < n
  pub passes : p i ≡ true
  pub below : (j : ℕ) → j < i → p j ≡ false

-- no number below n passes
abbrev pub Clear : (ℕ → Bool) → ℕ → Type 0
Clear p n = (i : ℕ) → i < n → p i ≡ false

-- what each answer tells
abbrev pub Tells : (ℕ → Bool) → ℕ → Option ℕ → Type 0
Tells p n None = Clear p n
Tells p n (Some i) = Lowest p n i

module _ (p : ℕ → Bool) where
  clear_more : (n : ℕ) → Clear p n → p n ≡ false → Clear p (suc n)
  clear_more n c h i l = ⊎_elim (λ e. ap p e ∙ h) (λ e. c i (omega arith)) (cases_eq i n)

  tells_more : (n : ℕ) (o : Option ℕ) (b : Bool) → p n ≡ b → Tells p n o → Tells p (suc n) (option_or o (cond b (Some n) None))
  tells_more n None true e t = record { inside = omega arith; passes = e; below = t }
  tells_more n None false e t = clear_more n t e
  tells_more n (Some i) b e t = record { inside = omega (arith, t.inside); passes = t.passes; below = t.below }

  pub lowest_tells : (n : ℕ) → Tells p n (lowest p n)
  unfolding lowest
  lowest_tells zero = λ i l. absurd (not-suc-le-zero l)
  lowest_tells (suc n) = tells_more n (lowest p n) (p n) refl (lowest_tells n)

  pub lowest_clear : (n : ℕ) → lowest p n ≡ None → Clear p n
  lowest_clear n e = subst (Tells p n) e (lowest_tells n)

  pub lowest_found : (n i : ℕ) → lowest p n ≡ Some i → Lowest p n i
  lowest_found n i e = subst (Tells p n) e (lowest_tells n)

  pub clear_lowest : (n : ℕ) → Clear p n → lowest p n ≡ None
  clear_lowest n c = go (lowest p n) (lowest_tells n)
    where
      go : (o : Option ℕ) → Tells p n o → o ≡ None
      go None t = refl
      go (Some i) t = absurd (both_ways (p i) (c i t.inside) t.passes)

-- what a search in order finds is the lowest, where the answers are what p says
pub lowest_from : (answered : ℕ → Bool → Type 0) (p : ℕ → Bool) (n : ℕ) → Answers answered p n → (r : Option ℕ)
    → MatchOption r ((k : ℕ) → 0 ≤ k → k < n → answered k false) (λ i. (0 ≤ i) × (i < n) × answered i true × ((k : ℕ) → 0 ≤ k → k < i → answered k false))
    → r ≡ lowest p n
lowest_from answered p n h None none = sym (clear_lowest p n (λ k l. sym (h k false l (none k (omega arith) l))))
lowest_from answered p n h (Some i) found =
    sym (lowest_at p n i found.1 (clear_lowest p i (λ k l. sym (h k false (omega (arith, found.1)) (found.3 k (omega arith) l)))) (sym (h i true found.1 found.2)))
