-- Tests on all numbers below a bound.
use Rattle.std.proofs.Common.{◌≡◌, ℕ, zero, suc, ◌<◌, Bool, true, false, cond, ◌&&◌, ◌||◌, ◌⊎◌, Some, None, sym, refl, ap, ◌∙◌, inl, inr, not-suc-le-zero, arith}
use Rattle.std.proofs.lemmas.Bool.{cases_Bool, cases_eq, cond-true, cond-false}
use Rattle.std.specs.Option.{option_or}
use Rattle.model.specs.Tests.{every, some, lowest}
use Rattle.model.proofs.Bounded.{lowest_at}
use Rattle.composition.specs.laws.Faults.{some≢none, or_none}
use Rattle.composition.specs.Statements.{Lowest}

pub every_same : (p q : ℕ → Bool) (n : ℕ) → ((i : ℕ) → i < n → p i ≡ q i) → every p n ≡ every q n
unfolding every
every_same p q zero h = refl
every_same p q (suc n) h = ap (λ t. t && every p n) (h n (omega arith)) ∙ ap (λ t. q n && t) (every_same p q n (λ i l. h i (omega arith)))

pub some_same : (p q : ℕ → Bool) (n : ℕ) → ((i : ℕ) → i < n → p i ≡ q i) → some p n ≡ some q n
unfolding some
some_same p q zero h = refl
some_same p q (suc n) h = ap (λ t. t || some p n) (h n (omega arith)) ∙ ap (λ t. q n || t) (some_same p q n (λ i l. h i (omega arith)))

-- where no number is the lowest, the test holds of none
pub lowest_absent : (p : ℕ → Bool) (n : ℕ) → lowest p n ≡ None → (i : ℕ) → i < n → p i ≡ false
unfolding lowest
lowest_absent p zero e i h = absurd (not-suc-le-zero h)
lowest_absent p (suc n) e i h =
    let parts = or_none (lowest p n) (cond (p n) (Some n) None) e in
    go (lowest_absent p n parts.0) parts.1 (cases_eq i n) (cases_Bool (p n))
  where
    go : ((j : ℕ) → j < n → p j ≡ false) → cond (p n) (Some n) None ≡ None → (i ≡ n) ⊎ (i ≡ n → ⊥) → (p n ≡ true) ⊎ (p n ≡ false) → p i ≡ false
    go before here (inr d) t = before i (omega arith)
    go before here (inl s) (inl t) = absurd (some≢none n (sym (cond-true (p n) (Some n) None t) ∙ here))
    go before here (inl s) (inr f) = ap p s ∙ f

pub lowest_none_from : (p : ℕ → Bool) (n : ℕ) → ((i : ℕ) → i < n → p i ≡ false) → lowest p n ≡ None
unfolding lowest
lowest_none_from p zero h = refl
lowest_none_from p (suc n) h =
    ap (λ x. option_or x (cond (p n) (Some n) None)) (lowest_none_from p n (λ i l. h i (omega arith))) ∙ cond-false (p n) (Some n) None (h n (omega arith))

pub lowest_is : (p : ℕ → Bool) (n : ℕ) → Lowest p n → lowest p 32 ≡ Some n
lowest_is p n h = lowest_at p 32 n h.name (lowest_none_from p n h.none_lower) h.holds
