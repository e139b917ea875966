-- Tests on all numbers below a bound.
use Rattle.std.proofs.Common.{◌≡◌, ℕ, zero, suc, ◌+◌, ◌<◌, Bool, true, false, cond, ◌⊎◌, Some, None, Option, is_some, ◌||◌, Decides, MatchBool, get_or, length, refl, sym, ap, ◌∙◌, subst, inl, inr, not-suc-le-zero, add-one, arith}
use Rattle.std.proofs.lemmas.Bool.{or_from, cases_eq, both_ways, cond-true, cond-false}
use Rattle.std.proofs.lemmas.Bool.Decides.{Decides-below_and, Decides-below_or}
use Rattle.std.proofs.lemmas.List.FromFn.{length-range_with_len, get_or-range_with_len}
use Rattle.std.specs.List.{AllWithin, HoldsAt, range_with_len}
use Rattle.std.specs.Option.{option_or}
use Rattle.model.specs.Tests.{every, some, lowest, count, Answers}

module _ (p : ℕ → Bool) where
  itself : (b : Bool) → Decides b (b ≡ true)
  itself b = (λ e. e, λ e. e)

  pub every_decides : (n : ℕ) → Decides (every p n) ((i : ℕ) → i < n → p i ≡ true)
  unfolding every
  every_decides = Decides-below_and p (λ i. p i ≡ true) (every p) (λ i. itself (p i)) refl (λ i. refl)

  pub some_decides : (n : ℕ) → Decides (some p n) ((i : ℕ) × (i < n) × (p i ≡ true))
  unfolding some
  some_decides = Decides-below_or p (λ i. p i ≡ true) (some p) (λ i. itself (p i)) refl (λ i. refl)

  pub some_none : some p 0 ≡ false
  unfolding some
  some_none = refl

  pub some_more : (i : ℕ) → some p i ≡ false → p i ≡ false → some p (i + 1) ≡ false
  unfolding some
  some_more i h k = rw add-one (or_from (p i) (some p i) k h)

  pub some_at : (n i : ℕ) → i < n → p i ≡ true → some p n ≡ true
  some_at n i h k = (some_decides n).1 (i, h, k)

  pub lowest_none : lowest p 0 ≡ None
  unfolding lowest
  lowest_none = refl

  pub lowest_more : (i : ℕ) → lowest p i ≡ None → p i ≡ false → lowest p (i + 1) ≡ None
  unfolding lowest
  lowest_more i h k = rw (add-one, h) (cond-false (p i) (Some i) None k)

  -- p holds of i and of no lower number
  pub lowest_at : (n i : ℕ) → i < n → lowest p i ≡ None → p i ≡ true → lowest p n ≡ Some i
  unfolding lowest
  lowest_at zero i h l k = absurd (not-suc-le-zero h)
  lowest_at (suc n) i h l k = go (cases_eq i n) (λ m. lowest_at n i m l k)
    where
      go : (i ≡ n) ⊎ (i ≡ n → ⊥) → (i < n → lowest p n ≡ Some i) → option_or (lowest p n) (cond (p n) (Some n) None) ≡ Some i
      go (inl e) f = subst (λ m. option_or (lowest p m) (cond (p m) (Some m) None) ≡ Some i) e (ap (λ o. option_or o (cond (p i) (Some i) None)) l ∙ cond-true (p i) (Some i) None k)
      go (inr e) f = ap (λ o. option_or o (cond (p n) (Some n) None)) (f (omega arith))

  pub count_none : count p 0 ≡ 0
  unfolding count
  count_none = refl

  pub count_pass : (i : ℕ) → p i ≡ true → count p (i + 1) ≡ count p i + 1
  unfolding count
  count_pass i h = rw (add-one i) (ap (λ x. count p i + x) (cond-true (p i) 1 0 h))

  pub count_fail : (i : ℕ) → p i ≡ false → count p (i + 1) ≡ count p i
  unfolding count
  count_fail i h = rw add-one (ap (λ x. count p i + x) (cond-false (p i) 1 0 h) ∙ omega arith)

-- where each number that passes leads to one that passes the other test, some number passes that test too
pub some_along : (p q : ℕ → Bool) (f : ℕ → ℕ) (n : ℕ) → ((i : ℕ) → i < n → p i ≡ true → (f i < n) × (q (f i) ≡ true)) → some p n ≡ true → some q n ≡ true
some_along p q f n along h =
    let one = (some_decides p n).0 h in
    let there = along one.0 one.1 one.2 in
    some_at q n (f one.0) there.0 there.1

-- there is a lowest number that passes exactly where some number does
pub lowest_there : (p : ℕ → Bool) (n : ℕ) → is_some (lowest p n) ≡ some p n
unfolding lowest some
lowest_there p zero = refl
lowest_there p (suc n) = subst (λ b. is_some (option_or (lowest p n) (cond (p n) (Some n) None)) ≡ p n || b) (lowest_there p n) (go (lowest p n) (p n))
  where
    go : (o : Option ℕ) (b : Bool) → is_some (option_or o (cond b (Some n) None)) ≡ b || is_some o
    go None true = refl
    go None false = refl
    go (Some i) true = refl
    go (Some i) false = refl

-- not all pass where one fails
pub every_fails : (p : ℕ → Bool) (n i : ℕ) → i < n → p i ≡ false → every p n ≡ false
every_fails p n i l e = go (every p n) refl
  where
    go : (b : Bool) → every p n ≡ b → b ≡ false
    go false h = refl
    go true h = absurd (both_ways (p i) e ((every_decides p n).0 h i l))

-- what `all` tells of the numbers below n, where the answers are what p says
module _ (answered : ℕ → Bool → Type 0) (p : ℕ → Bool) (n : ℕ) (h : Answers answered p n) where
  at : (k : ℕ) (b : Bool) → k < n → answered (get_or (range_with_len 0 n) k 0) b → p k ≡ b
  at k b l a = sym (h k b l (subst (λ i. answered i b) (get_or-range_with_len 0 n k 0 l ∙ omega arith) a))

  pub every_from : (r : Bool)
      → MatchBool r (AllWithin (λ k. answered k true) (range_with_len 0 n) 0 (length (range_with_len 0 n))) ((k : ℕ) × (k < length (range_with_len 0 n)) × HoldsAt (λ k. answered k false) (range_with_len 0 n) k)
      → r ≡ every p n
  every_from true all = sym ((every_decides p n).1 (λ k l. at k true l (all k 0 (omega arith) (omega (arith, length-range_with_len 0 n)))))
  every_from false one =
      let l : one.0 < n = omega (arith, one.1, length-range_with_len 0 n) in
      sym (every_fails p n one.0 l (at one.0 false l (one.2 0)))
