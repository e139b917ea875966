-- Numbers below a bound, pairs from two lists, and rows under tops: each is listed once, and there are as many as
-- the product says.
use Rattle.std.proofs.Common.{◌≡◌, ℕ, zero, suc, ◌+◌, ◌*◌, ◌<◌, ◌≤◌, List, [], ◌∷◌, length, get_or, sym, refl, ap, ◌∙◌, subst, ap₂, inl, inr, ⊎_elim, suc-le-suc, arith}
use mathlib.Core.List.{head-eq_of_cons-eq, tail-eq_of_cons-eq}
use lib.ListN.{length-map}
use Rattle.std.specs.List.{range_with_len}
use Rattle.std.proofs.lemmas.List.FromFn.{length-range_with_len}
use Rattle.std.proofs.lemmas.Bool.{cases_eq}
use Rattle.theory.specs.Enumerations.{below, with_each, pairs, row, ranges, Within, room}
use Rattle.theory.specs.Members.{Member, Distinct, Exactly}
use Rattle.theory.proofs.Members.{member_same, member_map, map_from, distinct_map, member_joined, joined_from, distinct_joined, length_joined}

counting_member : (a n x : ℕ) → a ≤ x → x < a + n → Member x (range_with_len a n)
counting_member a zero x low high = omega arith
counting_member a (suc n) x low high =
    ⊎_elim inl (λ ne. inr (counting_member (a + 1) n x (omega arith) (omega arith))) (cases_eq a x)

counting_from : (a n x : ℕ) → Member x (range_with_len a n) → (a ≤ x) × (x < a + n)
counting_from a zero x m = absurd m
counting_from a (suc n) x (inl e) = (omega arith, omega arith)
counting_from a (suc n) x (inr m) = let r = counting_from (a + 1) n x m in (omega arith, omega arith)

distinct_counting : (a n : ℕ) → Distinct (range_with_len a n)
distinct_counting a zero = tt
distinct_counting a (suc n) = (λ m. omega (arith, counting_from (a + 1) n a m), distinct_counting (a + 1) n)

pub below_exact : (n : ℕ) → Exactly (λ x. x < n) (below n)
unfolding below
below_exact n =
    record {
      complete = λ x h. counting_member 0 n x (omega arith) (omega arith);
      sound = λ x m. omega (arith, counting_from 0 n x m);
    }

pub distinct_below : (n : ℕ) → Distinct (below n)
unfolding below
distinct_below n = distinct_counting 0 n

pub length_below : (n : ℕ) → length (below n) ≡ n
unfolding below
length_below n = length-range_with_len 0 n

module _ {A B : Type 0} where
  with_each_first : (ys : List B) (x : A) (p : A × B) → Member p (with_each ys x) → x ≡ p.0
  with_each_first ys x p m = ap {B = A} (λ q. q.0) (map_from {B = A × B} (λ y. (x, y)) ys p m).2

  pairs_member : (xs : List A) (ys : List B) (x : A) (y : B) → Member x xs → Member y ys → Member {A = A × B} (x, y) (pairs xs ys)
  unfolding pairs
  pairs_member xs ys x y m k = member_joined (with_each ys) xs x (x, y) m (member_map {B = A × B} (λ v. (x, v)) ys y k)

  pairs_from : (xs : List A) (ys : List B) (p : A × B) → Member p (pairs xs ys) → Member p.0 xs × Member p.1 ys
  unfolding pairs
  pairs_from xs ys p m =
      let (x, in-xs, at_x) = joined_from (with_each ys) xs p m in
      let (y, in_ys, e) = map_from {B = A × B} (λ v. (x, v)) ys p at_x in
      (member_same xs (with_each_first ys x p at_x) in-xs, member_same ys (ap {B = B} (λ q. q.1) e) in_ys)

  pub pairs_exact : (xs : List A) (ys : List B) → Exactly (λ p. Member p.0 xs × Member p.1 ys) (pairs xs ys)
  pairs_exact xs ys = record { complete = λ p h. pairs_member xs ys p.0 p.1 h.0 h.1; sound = pairs_from xs ys }

  pub distinct_pairs : (xs : List A) (ys : List B) → Distinct xs → Distinct ys → Distinct (pairs xs ys)
  unfolding pairs
  distinct_pairs xs ys d e =
      distinct_joined (with_each ys) xs d
      (λ x. distinct_map {B = A × B} (λ y. (x, y)) ys (λ u v _ _ same. ap {B = B} (λ q. q.1) same) e)
      (λ u v p m k. with_each_first ys u p m ∙ sym (with_each_first ys v p k))

  pub length_pairs : (xs : List A) (ys : List B) → length (pairs xs ys) ≡ length xs * length ys
  unfolding pairs
  length_pairs xs ys = length_joined (with_each ys) xs (length ys) (λ x. length-map {B = A × B} ys (λ y. (x, y)))

within_more : (top : ℕ) (tops : List ℕ) (x : ℕ) (v : List ℕ) → x ≤ top → Within tops v → Within (top ∷ tops) (x ∷ v)
within_more top tops x v h w = record { long = ap suc w.long; under = under }
  where
    under : (i : ℕ) → i < suc (length tops) → get_or (x ∷ v) i 0 ≤ get_or (top ∷ tops) i 0
    under zero l = h
    under (suc i) l = w.under i (omega arith)

ranges_member : (tops v : List ℕ) → Within tops v → Member v (ranges tops)
unfolding ranges
ranges_member [] [] w = inl refl
ranges_member [] (x ∷ v) w = absurd (omega (arith, w.long))
ranges_member (top ∷ tops) [] w = absurd (omega (arith, w.long))
ranges_member (top ∷ tops) (x ∷ v) w =
    let first = (below_exact (top + 1)).complete x (omega (arith, w.under 0 (omega arith))) in
    let rest = ranges_member tops v (record { long = omega (arith, w.long); under = λ i h. w.under (suc i) (suc-le-suc h) }) in
    let both = (pairs_exact (below (top + 1)) (ranges tops)).complete (x, v) (first, rest) in
    member_map row (pairs (below (top + 1)) (ranges tops)) (x, v) both

ranges_from : (tops v : List ℕ) → Member v (ranges tops) → Within tops v
unfolding ranges
ranges_from [] v (inl e) = subst (Within []) e (record { long = refl; under = λ i h. omega arith })
ranges_from [] v (inr m) = absurd m
ranges_from (top ∷ tops) v m =
    let (p, listed, e) = map_from row (pairs (below (top + 1)) (ranges tops)) v m in
    let (first, rest) = (pairs_exact (below (top + 1)) (ranges tops)).sound p listed in
    let low = (below_exact (top + 1)).sound p.0 first in
    subst (Within (top ∷ tops)) e (within_more top tops p.0 p.1 (omega arith) (ranges_from tops p.1 rest))

pub ranges_exact : (tops : List ℕ) → Exactly (Within tops) (ranges tops)
ranges_exact tops = record { complete = ranges_member tops; sound = ranges_from tops }

pub distinct_ranges : (tops : List ℕ) → Distinct (ranges tops)
unfolding ranges
distinct_ranges [] = (λ m. m, tt)
distinct_ranges (top ∷ tops) =
    distinct_map row (pairs (below (top + 1)) (ranges tops)) (λ p q _ _ e i. (head-eq_of_cons-eq e i, tail-eq_of_cons-eq e i))
    (distinct_pairs (below (top + 1)) (ranges tops) (distinct_below (top + 1)) (distinct_ranges tops))

pub length_ranges : (tops : List ℕ) → length (ranges tops) ≡ room tops
unfolding ranges
length_ranges [] = refl
length_ranges (top ∷ tops) =
    length-map (pairs (below (top + 1)) (ranges tops)) row
    ∙ length_pairs (below (top + 1)) (ranges tops)
    ∙ ap₂ ◌*◌ (length_below (top + 1)) (length_ranges tops)
