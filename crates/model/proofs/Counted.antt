-- How many numbers below a bound pass a test.
use Rattle.std.proofs.Common.{◌≡◌, ℕ, zero, suc, ◌+◌, ◌<◌, ◌≤◌, Bool, true, false, cond, ◌⊎◌, refl, sym, ap, subst, ◌∙◌, inl, inr, ⊎_elim, not-suc-le-zero, arith}
use Rattle.std.proofs.lemmas.Bool.{cases_eq, cases_order, cases_Bool, both_ways, cond-true, cond-false}
use Rattle.model.specs.Tests.{some, count}
use Rattle.model.proofs.Bounded.{some_at}

worth_one : (b : Bool) → b ≡ true → ◌≡◌ {A = ℕ} (cond b 1 0) 1
worth_one b e = cond-true {A = ℕ} b 1 0 e

worth_none : (b : Bool) → b ≡ false → ◌≡◌ {A = ℕ} (cond b 1 0) 0
worth_none b e = cond-false {A = ℕ} b 1 0 e

module _ (p : ℕ → Bool) where
  pub some_clear : (n i : ℕ) → some p n ≡ false → i < n → p i ≡ false
  some_clear n i h l = ⊎_elim (λ e. absurd (both_ways (some p n) h (some_at p n i l e))) (λ e. e) (cases_Bool (p i))

  one_at_least : (n i : ℕ) → i < n → p i ≡ true → 1 ≤ count p n
  unfolding count
  one_at_least zero i l h = absurd (not-suc-le-zero l)
  one_at_least (suc n) i l h = go (cases_eq i n) (λ k. one_at_least n i k h)
    where
      go : (i ≡ n) ⊎ (i ≡ n → ⊥) → (i < n → 1 ≤ count p n) → 1 ≤ count p n + cond (p n) 1 0
      go (inl e) f = omega (arith, worth_one (p n) (ap p (sym e) ∙ h))
      go (inr e) f = omega (arith, f (omega arith))

  -- where some are counted, one passes
  pub some_counted : (n : ℕ) → 1 ≤ count p n → (i : ℕ) × (i < n) × (p i ≡ true)
  unfolding count
  some_counted zero h = absurd (omega arith)
  some_counted (suc n) h = go (cases_Bool (p n)) (some_counted n)
    where
      go : (p n ≡ true) ⊎ (p n ≡ false) → (1 ≤ count p n → (i : ℕ) × (i < n) × (p i ≡ true)) → (i : ℕ) × (i < suc n) × (p i ≡ true)
      go (inl e) f = (n, omega arith, e)
      go (inr e) f = let found = f (omega (arith, worth_none (p n) e)) in (found.0, omega (arith, found.1), found.2)

  two_at_least : (n i j : ℕ) → i < j → j < n → p i ≡ true → p j ≡ true → 2 ≤ count p n
  unfolding count
  two_at_least zero i j k l g h = absurd (not-suc-le-zero l)
  two_at_least (suc n) i j k l g h = go (cases_eq j n) (λ less. two_at_least n i j k less g h)
    where
      go : (j ≡ n) ⊎ (j ≡ n → ⊥) → (j < n → 2 ≤ count p n) → 2 ≤ count p n + cond (p n) 1 0
      go (inl e) f = omega (arith, worth_one (p n) (ap p (sym e) ∙ h), one_at_least n i (omega arith) g)
      go (inr e) f = omega (arith, f (omega arith))

  -- where one passes, no two do
  pub only_one : (n i j : ℕ) → count p n ≡ 1 → i < n → j < n → p i ≡ true → p j ≡ true → i ≡ j
  only_one n i j e k l g h = go (cases_eq i j)
    where
      go : (i ≡ j) ⊎ (i ≡ j → ⊥) → i ≡ j
      go (inl same) = same
      go (inr apart) = absurd (⊎_elim (λ less. let two = two_at_least n i j less l g h in omega arith) (λ more. let two = two_at_least n j i more k h g in omega arith) (either_less i j apart))
        where
          either_less : (i j : ℕ) → (i ≡ j → ⊥) → (i < j) ⊎ (j < i)
          either_less i j apart = ⊎_elim (λ e. absurd (apart e)) (λ d. d) (cases_order i j)

  pub none_counted : (n i : ℕ) → count p n ≡ 0 → i < n → p i ≡ false
  none_counted n i e l = ⊎_elim (λ h. let one = one_at_least n i l h in absurd (omega arith)) (λ h. h) (cases_Bool (p i))

  none_passing : (n : ℕ) → ((i : ℕ) → i < n → p i ≡ false) → count p n ≡ 0
  unfolding count
  none_passing zero h = refl
  none_passing (suc n) h = omega (arith, none_passing n (λ i l. h i (omega arith)), worth_none (p n) (h n (omega arith)))

  -- one that passes, and no other
  pub counted_once : (n i : ℕ) → i < n → p i ≡ true → ((j : ℕ) → j < n → p j ≡ true → j ≡ i) → count p n ≡ 1
  unfolding count
  counted_once zero i h e only = absurd (not-suc-le-zero h)
  counted_once (suc n) i h e only = go (counted_once n i) (cases_Bool (p n))
    where
      go : (i < n → p i ≡ true → ((j : ℕ) → j < n → p j ≡ true → j ≡ i) → count p n ≡ 1) → (p n ≡ true) ⊎ (p n ≡ false) → count p n + cond (p n) 1 0 ≡ 1
      go f (inl t) = omega (arith, worth_one (p n) t, none_passing n (λ j l. ⊎_elim (λ u. absurd (omega (arith, only j (omega arith) u, only n (omega arith) t))) (λ u. u) (cases_Bool (p j))))
      go f (inr t) = omega (arith, worth_none (p n) t, f (earlier t (cases_eq i n)) e (λ j l. only j (omega arith)))
        where
          earlier : p n ≡ false → (i ≡ n) ⊎ (i ≡ n → ⊥) → i < n
          earlier t (inl s) = absurd (both_ways (p n) t (subst (λ k. p k ≡ true) s e))
          earlier t (inr d) = omega arith

module _ (p q : ℕ → Bool) (under : (i : ℕ) → q i ≡ true → p i ≡ true) where
  step_under : (i : ℕ) → cond (q i) 1 0 ≤ cond (p i) 1 0
  step_under i = go (cases_Bool (q i))
    where
      go : (q i ≡ true) ⊎ (q i ≡ false) → cond (q i) 1 0 ≤ cond (p i) 1 0
      go (inl e) = omega (arith, worth_one (q i) e, worth_one (p i) (under i e))
      go (inr e) = omega (arith, worth_none (q i) e)

  no_more : (n : ℕ) → count q n ≤ count p n
  unfolding count
  no_more zero = omega arith
  no_more (suc n) = omega (arith, no_more n, step_under n)

  -- one passes the wider test alone, so fewer pass the other
  pub fewer : (n i : ℕ) → i < n → p i ≡ true → q i ≡ false → count q n < count p n
  unfolding count
  fewer zero i l g h = absurd (not-suc-le-zero l)
  fewer (suc n) i l g h = go (cases_eq i n) (λ k. fewer n i k g h)
    where
      go : (i ≡ n) ⊎ (i ≡ n → ⊥) → (i < n → count q n < count p n) → count q n + cond (q n) 1 0 < count p n + cond (p n) 1 0
      go (inl e) f = omega (arith, no_more n, worth_one (p n) (ap p (sym e) ∙ g), worth_none (q n) (ap q (sym e) ∙ h))
      go (inr e) f = omega (arith, f (omega arith), step_under n)
