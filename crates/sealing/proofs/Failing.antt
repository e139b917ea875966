-- Atoms that fail in either of two ways.
use Rattle.std.proofs.Common.{◌≡◌, ℕ, ◌<◌, Bool, true, false, ◌&&◌, ◌||◌, List, [], ◌∷◌, Some, None, Option, leb, le-leb, sym, refl, ap, ◌∙◌, ap₂, ⊎_elim}
use Rattle.std.proofs.lemmas.Bool.{and_right, cases_lt, true≢false}
use Rattle.model.specs.Meanings.{Meaning}
use Rattle.model.specs.Tests.{lowest}
use Rattle.model.specs.declared.Round.TheVariants.{Initial, Update}
use Rattle.model.proofs.Bounded.{lowest_at}
use Rattle.model.proofs.Lowest.{Clear, lowest_clear, lowest_found, clear_lowest}
use Rattle.units.specs.Counting.{any}
use Rattle.units.specs.Sealing.{in_some_round, sights, nothing_open, gives_outside, gets_stuck, leaves_range, at_lowest, ◌else◌}
use Rattle.units.specs.declared.refusal.Refusal.TheVariants.{GetsStuck, LeavesRange}
use Rattle.sealing.specs.Witnesses.{either_failure}

-- where none below this number passes, only those from it on have to be asked
pub asked_from : (p : ℕ → Bool) (from k : ℕ) → Clear p from → (leb from k && p k) ≡ p k
asked_from p from k clear =
    ⊎_elim (λ l. and_right (leb from k) (p k) (clear k l) ∙ sym (clear k l)) (λ l. ap (λ b. b && p k) (le-leb from k l)) (cases_lt k from)

or_swap : (a b c d : Bool) → ((a || b) || (c || d)) ≡ ((a || c) || (b || d))
or_swap true b c d = refl
or_swap false true true d = refl
or_swap false true false d = refl
or_swap false false c d = refl

neither : (a b : Bool) → (a || b) ≡ false → (a ≡ false) × (b ≡ false)
neither true b h = absurd (true≢false h)
neither false b h = (refl, h)

any_or : {X : Type 0} (p q : X → Bool) (xs : List X) → any (λ x. p x || q x) xs ≡ (any p xs || any q xs)
any_or p q [] = refl
any_or p q (x ∷ xs) = ap (λ b. (p x || q x) || b) (any_or p q xs) ∙ or_swap (p x) (q x) (any p xs) (any q xs)

-- an atom that fails in either way gets stuck or leaves its range
pub fails_so : (m : Meaning) (a : ℕ) → in_some_round m either_failure a ≡ (gets_stuck m a || leaves_range m a)
fails_so m a =
    ap₂ ◌||◌ (any_or (nothing_open m Initial a) (gives_outside m Initial a) (sights m.outline Initial a)) (any_or (nothing_open m Update a) (gives_outside m Update a) (sights m.outline Update a))
    ∙ or_swap (any (nothing_open m Initial a) (sights m.outline Initial a)) (any (gives_outside m Initial a) (sights m.outline Initial a)) (any (nothing_open m Update a) (sights m.outline Update a)) (any (gives_outside m Update a) (sights m.outline Update a))

-- The lowest numbers that pass p and q, by the lowest that passes f, which is either.
module _ (f p q : ℕ → Bool) (so : (k : ℕ) → f k ≡ (p k || q k)) (n : ℕ) where
  both_clear : (i : ℕ) → Clear f i → (k : ℕ) → k < i → (p k ≡ false) × (q k ≡ false)
  both_clear i clear k l = neither (p k) (q k) (sym (so k) ∙ clear k l)

  pub none_fails : lowest f n ≡ None → (at_lowest GetsStuck (lowest p n) else at_lowest LeavesRange (lowest q n)) ≡ None
  none_fails e =
      let both = both_clear n (lowest_clear f n e) in
      ap₂ (λ a b. at_lowest GetsStuck a else at_lowest LeavesRange b) (clear_lowest p n (λ k l. (both k l).0)) (clear_lowest q n (λ k l. (both k l).1))

  pub clear_before : (i : ℕ) → lowest f n ≡ Some i → Clear p i
  clear_before i e k l = (both_clear i (lowest_found f n i e).below k l).0

  -- where none passes p, the first that passes f is the first that passes q
  other_first : (i : ℕ) → lowest f n ≡ Some i → lowest p n ≡ None → lowest q n ≡ Some i
  other_first i e none =
      let first = lowest_found f n i e in
      lowest_at q n i first.inside (clear_lowest q i (λ k l. (both_clear i first.below k l).1)) (ap (λ b. b || q i) (sym (lowest_clear p n none i first.inside)) ∙ sym (so i) ∙ first.passes)

  pub first_fails : (i : ℕ) → lowest f n ≡ Some i → (at_lowest GetsStuck (lowest p n) else at_lowest LeavesRange (Some i)) ≡ (at_lowest GetsStuck (lowest p n) else at_lowest LeavesRange (lowest q n))
  first_fails i e = go (lowest p n) (other_first i e)
    where
      go : (s : Option ℕ) → (s ≡ None → lowest q n ≡ Some i) → (at_lowest GetsStuck s else at_lowest LeavesRange (Some i)) ≡ (at_lowest GetsStuck s else at_lowest LeavesRange (lowest q n))
      go None h = ap (at_lowest LeavesRange) (sym (h refl))
      go (Some j) h = refl
