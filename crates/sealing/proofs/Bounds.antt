-- Tests and answers at all numbers below a bound.
use Rattle.std.proofs.Common.{◌≡◌, ℕ, zero, suc, ◌+◌, ◌<◌, Bool, true, false, cond, ◌||◌, ◌⊎◌, is_some, Some, None, Option, sym, refl, ap, ◌∙◌, subst, ap₂, inl, inr, not-suc-le-zero, add-one, arith}
use Rattle.std.proofs.lemmas.Bool.{cases_eq, true≢false}
use Rattle.std.specs.Bool.{then_some}
use Rattle.std.specs.Option.{option_or}
use Rattle.model.specs.Tests.{some}
use Rattle.sealing.specs.Search.{first_below}

-- one number more that does not pass
pub some_past : (p : ℕ → Bool) (i : ℕ) → p i ≡ false → some p (i + 1) ≡ some p i
unfolding some
some_past p i h = rw add-one (ap (λ b. b || some p i) h)

module _ {X : Type 0} where
  pub other_assoc : (a b c : Option X) → option_or (option_or a b) c ≡ option_or a (option_or b c)
  other_assoc None b c = refl
  other_assoc (Some x) b c = refl

  pub other_none : (a : Option X) → option_or a None ≡ a
  other_none None = refl
  other_none (Some x) = refl

  some_other : (a b : Option X) → is_some a ≡ true → option_or a b ≡ a
  some_other None b h = absurd (true≢false (sym h))
  some_other (Some x) b h = refl

  pub first_same : (f g : ℕ → Option X) (n : ℕ) → ((k : ℕ) → k < n → f k ≡ g k) → first_below f n ≡ first_below g n
  unfolding first_below
  first_same f g zero h = refl
  first_same f g (suc n) h = ap₂ option_or (first_same f g n (λ k l. h k (omega arith))) (h n (omega arith))

  pub first_first : (f : ℕ → Option X) (n : ℕ) → first_below f (suc n) ≡ option_or (f 0) (first_below (λ k. f (k + 1)) n)
  unfolding first_below
  first_first f zero = sym (other_none (f 0))
  first_first f (suc n) =
      ap (λ v. option_or v (f (suc n))) (first_first f n)
      ∙ other_assoc (f 0) (first_below (λ k. f (k + 1)) n) (f (suc n))
      ∙ ap (λ v. option_or (f 0) (option_or (first_below (λ k. f (k + 1)) n) (f v))) (omega arith)

  module _ (f : ℕ → Option X) where
    pub first_none : first_below f 0 ≡ None
    unfolding first_below
    first_none = refl

    pub first_more : (i : ℕ) → first_below f i ≡ None → f i ≡ None → first_below f (i + 1) ≡ None
    unfolding first_below
    first_more i h k = rw (add-one, h) k

    pub first_one : first_below f 1 ≡ f 0
    unfolding first_below
    first_one = refl

    -- the first answer is that at i
    pub first_at : (n i : ℕ) → i < n → first_below f i ≡ None → is_some (f i) ≡ true → first_below f n ≡ f i
    unfolding first_below
    first_at zero i h l k = absurd (not-suc-le-zero h)
    first_at (suc n) i h l k = go (cases_eq i n) (λ m. first_at n i m l k)
      where
        go : (i ≡ n) ⊎ (i ≡ n → ⊥) → (i < n → first_below f n ≡ f i) → option_or (first_below f n) (f n) ≡ f i
        go (inl e) g = subst (λ m. option_or (first_below f m) (f m) ≡ f i) e (ap (λ o. option_or o (f i)) l)
        go (inr e) g = ap (λ o. option_or o (f n)) (g (omega arith)) ∙ some_other (f i) (f n) k

pub then_some_witness : {X : Type 0} (b : Bool) (x : X) → then_some b x ≡ cond b (Some x) None
then_some_witness true x = refl
then_some_witness false x = refl
