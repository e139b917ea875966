-- The numbers below a bound, as such.
use Rattle.std.proofs.Common.{ℕ, zero, suc, ◌<◌, ◌≤◌, List, [], ◌∷◌, ap, inl, inr, ⊎_elim, not-suc-le-zero, arith}
use Rattle.std.proofs.lemmas.Bool.{cases_eq}
use Rattle.theory.specs.Members.{Member, Distinct}
use Rattle.reactive.specs.Modules.{Below}
use Rattle.reactive.proofs.Operations.{same_number}

lower : (k n : ℕ) → suc k ≤ n → k ≤ n
lower k n h = omega arith

pub numbers : (n k : ℕ) → k ≤ n → List (Below n)
numbers n zero h = []
numbers n (suc k) h = record { number = k; low = h } ∷ numbers n k (lower k n h)

pub numbers_all : (n k : ℕ) (h : k ≤ n) (i : Below n) → i.number < k → Member i (numbers n k h)
unfolding numbers
numbers_all n zero h i l = absurd (not-suc-le-zero l)
numbers_all n (suc k) h i l = ⊎_elim (λ e. inl (same_number _ i e)) (λ d. inr (numbers_all n k (lower k n h) i (omega arith))) (cases_eq k i.number)

numbers_low : (n k : ℕ) (h : k ≤ n) (i : Below n) → Member i (numbers n k h) → i.number < k
unfolding numbers
numbers_low n zero h i l = absurd l
numbers_low n (suc k) h i (inl e) = omega (arith, ap (λ (j : Below n). j.number) e)
numbers_low n (suc k) h i (inr l) = omega (arith, numbers_low n k (lower k n h) i l)

pub numbers_distinct : (n k : ℕ) (h : k ≤ n) → Distinct (numbers n k h)
unfolding numbers
numbers_distinct n zero h = tt
numbers_distinct n (suc k) h = (λ l. omega (arith, numbers_low n k (lower k n h) (record { number = k; low = h }) l), numbers_distinct n k (lower k n h))
