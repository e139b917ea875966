-- Counts put together, and what they say of lists.
use Rattle.std.proofs.Common.{◌≡◌, ℕ, zero, suc, ◌+◌, ◌<◌, min, Bool, true, false, cond, not, ◌||◌, ◌⊎◌, List, [], ◌∷◌, ◌++◌, map, length, None, Some, Option, sym, refl, ap, ◌∙◌, ap₂, inl, inr, append_assoc, append-nil, length-append, not-suc-le-zero, add-one, arith}
use Rattle.std.proofs.lemmas.Bool.{cases_eq}
use Rattle.std.proofs.Math.Bool.{or_assoc}
use Rattle.std.specs.List.{range_with_len, flat_map}
use Rattle.theory.specs.Enumerations.{below, with_each, pairs, row, ranges}
use Rattle.units.specs.Counting.{any}
use Rattle.evidence.specs.Counts.{added, sum_below}

pub sum_none : (f : ℕ → Option ℕ) → sum_below f 0 ≡ Some 0
unfolding sum_below
sum_none f = refl

pub sum_more : (f : ℕ → Option ℕ) (i : ℕ) → sum_below f (i + 1) ≡ added (sum_below f i) (f i)
unfolding sum_below
sum_more f i = ap (sum_below f) (add-one i)

added_none : (a : Option ℕ) → added a None ≡ None
added_none None = refl
added_none (Some x) = refl

-- a count has 32 bits
added_small : (a b : Option ℕ) (c : ℕ) → added a b ≡ Some c → c < 4294967296
added_small None b c e = cc
added_small (Some x) None c e = cc
added_small (Some x) (Some y) c e = let h : min (x + y) 4294967295 ≡ c = cc in omega arith

pub sum_small : (f : ℕ → Option ℕ) (n c : ℕ) → sum_below f n ≡ Some c → c < 4294967296
unfolding sum_below
sum_small f zero c e = let h : 0 ≡ c = cc in omega arith
sum_small f (suc n) c e = added_small (sum_below f n) (f n) c e

-- where one count is missing, there is none of all
pub sum_absent : (f : ℕ → Option ℕ) (n i : ℕ) → i < n → f i ≡ None → sum_below f n ≡ None
unfolding sum_below
sum_absent f zero i l e = absurd (not-suc-le-zero l)
sum_absent f (suc n) i l e = go (cases_eq i n) (λ m. sum_absent f n i m e)
  where
    go : (i ≡ n) ⊎ (i ≡ n → ⊥) → (i < n → sum_below f n ≡ None) → added (sum_below f n) (f n) ≡ None
    go (inl same) before = ap (added (sum_below f n)) (ap f (sym same) ∙ e) ∙ added_none (sum_below f n)
    go (inr apart) before = ap (λ o. added o (f n)) (before (omega arith))

pub sum_same : (f g : ℕ → Option ℕ) (n : ℕ) → ((k : ℕ) → k < n → f k ≡ g k) → sum_below f n ≡ sum_below g n
unfolding sum_below
sum_same f g zero h = refl
sum_same f g (suc n) h = ap₂ added (sum_same f g n (λ k l. h k (omega arith))) (h n (omega arith))

module _ {X : Type 0} where
  pub any_append : (p : X → Bool) (xs ys : List X) → any p (xs ++ ys) ≡ (any p xs || any p ys)
  any_append p [] ys = refl
  any_append p (x ∷ xs) ys = ap (λ b. p x || b) (any_append p xs ys) ∙ sym (or_assoc (p x) (any p xs) (any p ys))

flat_append : {A X : Type 0} (f : A → List X) (xs ys : List A) → flat_map f (xs ++ ys) ≡ flat_map f xs ++ flat_map f ys
flat_append f [] ys = refl
flat_append f (x ∷ xs) ys = ap (λ r. f x ++ r) (flat_append f xs ys) ∙ sym (append_assoc (f x) (flat_map f xs) (flat_map f ys))

-- how many there are, in 32 bits, where all pass
abbrev pub summary : {X : Type 0} → (X → Bool) → List X → Option ℕ
summary passes xs = cond (any (λ x. not (passes x)) xs) None (Some (min (length xs) 4294967295))

module _ {X : Type 0} (passes : X → Bool) where
  summary_append : (xs ys : List X) → summary passes (xs ++ ys) ≡ added (summary passes xs) (summary passes ys)
  summary_append xs ys =
      ap (λ b. cond b None (Some (min (length (xs ++ ys)) 4294967295))) (any_append (λ x. not (passes x)) xs ys)
      ∙ go (any (λ x. not (passes x)) xs) (any (λ x. not (passes x)) ys) (length xs) (length ys) (length (xs ++ ys)) (length-append xs ys)
    where
      go : (a b : Bool) (x y z : ℕ) → z ≡ x + y → cond (a || b) None (Some (min z 4294967295)) ≡ added (cond a None (Some (min x 4294967295))) (cond b None (Some (min y 4294967295)))
      go true b x y z e = refl
      go false true x y z e = refl
      go false false x y z e = ap Some (omega arith)

  range_more : (a n : ℕ) → range_with_len a (suc n) ≡ range_with_len a n ++ (a + n) ∷ []
  range_more a zero = ap (λ k. k ∷ []) (omega arith)
  range_more a (suc n) = ap (λ r. a ∷ r) (range_more (a + 1) n ∙ ap (λ k. range_with_len (a + 1) n ++ k ∷ []) (omega arith))

  flat_below : (f : ℕ → List X) (n : ℕ) → flat_map f (below (suc n)) ≡ flat_map f (below n) ++ f n
  unfolding below
  flat_below f n = ap (flat_map f) (range_more 0 n) ∙ flat_append f (range_with_len 0 n) ((0 + n) ∷ []) ∙ ap (λ r. flat_map f (range_with_len 0 n) ++ r) (append-nil (f (0 + n)) ∙ ap f (omega arith))

  -- the counts of lists together are the count of the lists in a row
  pub sum_summary : (f : ℕ → List X) (n : ℕ) → sum_below (λ k. summary passes (f k)) n ≡ summary passes (flat_map f (below n))
  unfolding sum_below below
  sum_summary f zero = refl
  sum_summary f (suc n) =
      ap (λ o. added o (summary passes (f n))) (sum_summary f n)
      ∙ sym (summary_append (flat_map f (below n)) (f n))
      ∙ ap (summary passes) (sym (flat_below f n))

module _ {A X : Type 0} where
  pub flat_same : (f g : A → List X) → ((x : A) → f x ≡ g x) → (xs : List A) → flat_map f xs ≡ flat_map g xs
  flat_same f g h [] = refl
  flat_same f g h (x ∷ xs) = ap₂ ◌++◌ (h x) (flat_same f g h xs)

module _ {A B X : Type 0} where
  flat_of_map : (f : B → List X) (g : A → B) (xs : List A) → flat_map f (map g xs) ≡ flat_map (λ x. f (g x)) xs
  flat_of_map f g [] = refl
  flat_of_map f g (x ∷ xs) = ap (λ r. f (g x) ++ r) (flat_of_map f g xs)

  flat_of_flat : (f : B → List X) (g : A → List B) (xs : List A) → flat_map f (flat_map g xs) ≡ flat_map (λ x. flat_map f (g x)) xs
  flat_of_flat f g [] = refl
  flat_of_flat f g (x ∷ xs) = flat_append f (g x) (flat_map g xs) ∙ ap (λ r. flat_map f (g x) ++ r) (flat_of_flat f g xs)

flat_pairs : {A B X : Type 0} (f : A × B → List X) (xs : List A) (ys : List B) → flat_map f (pairs xs ys) ≡ flat_map (λ x. flat_map (λ y. f (x, y)) ys) xs
unfolding pairs
flat_pairs {A} {B} {X} f xs ys =
    flat_of_flat {A = A} {B = A × B} {X = X} f (with_each ys) xs
    ∙ flat_same {A = A} {X = X} (λ x. flat_map f (with_each ys x)) (λ x. flat_map (λ y. f (x, y)) ys) (λ x. flat_of_map {A = B} {B = A × B} {X = X} f (λ y. (x, y)) ys) xs

pub flat_ranges : {X : Type 0} (f : List ℕ → List X) (top : ℕ) (tops : List ℕ) → flat_map f (ranges (top ∷ tops)) ≡ flat_map (λ v. flat_map (λ r. f (v ∷ r)) (ranges tops)) (below (top + 1))
unfolding ranges
flat_ranges {X} f top tops =
    flat_of_map {A = ℕ × List ℕ} {B = List ℕ} {X = X} f row (pairs (below (top + 1)) (ranges tops))
    ∙ flat_pairs {A = ℕ} {B = List ℕ} {X = X} (λ q. f (row q)) (below (top + 1)) (ranges tops)

pub flat_ranges_none : {X : Type 0} (f : List ℕ → List X) → flat_map f (ranges []) ≡ f []
unfolding ranges
flat_ranges_none f = append-nil (f [])
