-- Going through all values that an atom sees is going through all rows of them.
use Rattle.std.proofs.Common.{◌≡◌, ℕ, zero, suc, ◌+◌, ◌-◌, ◌<◌, ◌≤◌, true, false, cond, ltb, List, [], ◌∷◌, ◌++◌, map, length, take, set, replicate, is_some, None, Option, sym, refl, ap, ◌∙◌, ap₂, append_assoc, append-nil, add-one, arith, length-set, take_all, take-suc-set}
use lib.Seq.{set-get_or}
use Rattle.std.proofs.lemmas.Bool.{cond-true, cond-false, cond_both, lt-ltb, le-ltb}
use Rattle.std.specs.List.{range_with_len, flat_map}
use Rattle.std.specs.Option.{option_or}
use Rattle.model.specs.Meanings.{OutlineFacts}
use Rattle.model.specs.States.{value}
use Rattle.model.specs.declared.Round.{Round}
use Rattle.theory.specs.Enumerations.{below, with_each, pairs, row, ranges}
use Rattle.units.specs.Sealing.{old_names}
use Rattle.sealing.specs.Search.{old_with, new_with, witness_with, value_at_place, top_if, top_at_place, first_below, first_filling, filling_with, BlankFrom}
use Rattle.sealing.specs.Witnesses.{witness_at, first_in_list}
use Rattle.sealing.specs.declared.witness.Witness.{Witness}
use Rattle.sealing.proofs.Bounds.{other_assoc, other_none, first_same, first_first, first_more, first_one, first_at}

module _ {X Y : Type 0} where
  pub finds_same : (f g : X → Option Y) → ((x : X) → f x ≡ g x) → (xs : List X) → first_in_list f xs ≡ first_in_list g xs
  finds_same f g h [] = refl
  finds_same f g h (x ∷ xs) = ap₂ option_or (h x) (finds_same f g h xs)

  finds_append : (f : X → Option Y) (xs ys : List X) → first_in_list f (xs ++ ys) ≡ option_or (first_in_list f xs) (first_in_list f ys)
  finds_append f [] ys = refl
  finds_append f (x ∷ xs) ys = ap (option_or (f x)) (finds_append f xs ys) ∙ sym (other_assoc (f x) (first_in_list f xs) (first_in_list f ys))

finds_counting : {Y : Type 0} (f : ℕ → Option Y) (a n : ℕ) → first_in_list f (range_with_len a n) ≡ first_below (λ k. f (a + k)) n
unfolding first_below
finds_counting f a zero = refl
finds_counting f a (suc n) =
    ap (option_or (f a)) (finds_counting f (a + 1) n)
    ∙ ap₂ option_or (ap f (omega arith)) (first_same (λ k. f (a + 1 + k)) (λ k. f (a + (k + 1))) n (λ k _. ap f (omega arith)))
    ∙ sym (first_first (λ k. f (a + k)) n)

finds_below : {Y : Type 0} (f : ℕ → Option Y) (n : ℕ) → first_in_list f (below n) ≡ first_below f n
unfolding below
finds_below f n = finds_counting f 0 n ∙ first_same (λ k. f (0 + k)) f n (λ k _. ap f (omega arith))

module _ {X Y Z : Type 0} where
  finds_map : (f : Y → Option Z) (g : X → Y) (xs : List X) → first_in_list f (map g xs) ≡ first_in_list (λ x. f (g x)) xs
  finds_map f g [] = refl
  finds_map f g (x ∷ xs) = ap (option_or (f (g x))) (finds_map f g xs)

  finds_joined : (f : Y → Option Z) (g : X → List Y) (xs : List X) → first_in_list f (flat_map g xs) ≡ first_in_list (λ x. first_in_list f (g x)) xs
  finds_joined f g [] = refl
  finds_joined f g (x ∷ xs) = finds_append f (g x) (flat_map g xs) ∙ ap (option_or (first_in_list f (g x))) (finds_joined f g xs)

finds_pairs : {X Y Z : Type 0} (f : X × Y → Option Z) (xs : List X) (ys : List Y) → first_in_list f (pairs xs ys) ≡ first_in_list (λ x. first_in_list (λ y. f (x, y)) ys) xs
unfolding pairs
finds_pairs {X} {Y} f xs ys =
    finds_joined f (with_each ys) xs ∙ finds_same (λ x. first_in_list f (with_each ys x)) (λ x. first_in_list (λ y. f (x, y)) ys) (λ x. finds_map {Y = X × Y} f (λ y. (x, y)) ys) xs

finds_ranges_none : {Z : Type 0} (f : List ℕ → Option Z) → first_in_list f (ranges []) ≡ f []
unfolding ranges
finds_ranges_none f = other_none (f [])

finds_ranges : {Z : Type 0} (f : List ℕ → Option Z) (top : ℕ) (tops : List ℕ) → first_in_list f (ranges (top ∷ tops)) ≡ first_below (λ v. first_in_list (λ r. f (v ∷ r)) (ranges tops)) (top + 1)
unfolding ranges
finds_ranges f top tops =
    finds_map f row (pairs (below (top + 1)) (ranges tops))
    ∙ finds_pairs (λ q. f (row q)) (below (top + 1)) (ranges tops)
    ∙ finds_below (λ v. first_in_list (λ r. f (v ∷ r)) (ranges tops)) (top + 1)

joined_row : (j v : ℕ) (xs r : List ℕ) → j < length xs → take (j + 1) (set xs j v) ++ r ≡ take j xs ++ (v ∷ r)
joined_row j v xs r h = ap (λ t. t ++ r) (ap (λ k. take k (set xs j v)) (add-one j) ∙ take-suc-set xs j v h) ∙ append_assoc (take j xs) (v ∷ []) r

module _ (test : Witness → Option Witness) (round : Round) (top olds news : ℕ → ℕ) (at_old : (k : ℕ) → k < 32 → top k ≡ olds k) (at_new : (k : ℕ) → k < 32 → top (32 + k) ≡ news k) where
  new_rows : (left j : ℕ) (old new : List ℕ) → j + left ≡ 32 → length new ≡ 32 → first_filling test top (32 + j) left (witness_at round (old, new)) ≡ first_in_list (λ r. test (witness_at round (old, take j new ++ r))) (ranges (map news (range_with_len j left)))
  unfolding first_filling
  new_rows zero j old new e l =
      ap (λ r. test (witness_at round (old, r))) (sym (append-nil (take j new) ∙ take_all j new (omega arith))) ∙ sym (finds_ranges_none (λ r. test (witness_at round (old, take j new ++ r))))
  new_rows (suc left) j old new e l =
      first_same _ (λ v. first_in_list (λ r. test (witness_at round (old, take j new ++ (v ∷ r)))) (ranges (map news (range_with_len (j + 1) left)))) (top (32 + j) + 1) (λ v _. each v (new_rows left (j + 1) old (set new j v) (omega arith) (length-set new j v ∙ l)))
      ∙ ap (λ n. first_below (λ v. first_in_list (λ r. test (witness_at round (old, take j new ++ (v ∷ r)))) (ranges (map news (range_with_len (j + 1) left)))) (n + 1)) (at_new j (omega arith))
      ∙ sym (finds_ranges (λ r. test (witness_at round (old, take j new ++ r))) (news j) (map news (range_with_len (j + 1) left)))
    where
      each : (v : ℕ) → first_filling test top (32 + (j + 1)) left (witness_at round (old, set new j v)) ≡ first_in_list (λ r. test (witness_at round (old, take (j + 1) (set new j v) ++ r))) (ranges (map news (range_with_len (j + 1) left))) →
          first_filling test top (32 + j + 1) left (witness_with (32 + j) (witness_at round (old, new)) v) ≡ first_in_list (λ r. test (witness_at round (old, take j new ++ (v ∷ r)))) (ranges (map news (range_with_len (j + 1) left)))
      each v before =
          let high : ltb (32 + j) 32 ≡ false = le-ltb (32 + j) 32 (omega arith) in
          let was : old_with (32 + j) old v ≡ old = cond-false (ltb (32 + j) 32) (set old (32 + j) v) old high in
          let back : 32 + j - 32 ≡ j = omega arith in
          let is : new_with (32 + j) new v ≡ set new j v = cond-false (ltb (32 + j) 32) new (set new (32 + j - 32) v) high ∙ ap (λ k. set new k v) back in
          let next : 32 + j + 1 ≡ 32 + (j + 1) = omega arith in
          let inside : j < length new = omega arith in
          ap (λ k. first_filling test top k left (witness_at round (old_with (32 + j) old v, new_with (32 + j) new v))) next
          ∙ ap₂ (λ a b. first_filling test top (32 + (j + 1)) left (witness_at round (a, b))) was is
          ∙ before
          ∙ finds_same _ _ (λ r. ap (λ x. test (witness_at round (old, x))) (joined_row j v new r inside)) (ranges (map news (range_with_len (j + 1) left)))

  old_rows : (ys : List (List ℕ)) (new : List ℕ) → ((old : List ℕ) → first_filling test top 32 32 (witness_at round (old, new)) ≡ first_in_list (λ n. test (witness_at round (old, n))) ys) →
      (left total j : ℕ) (old : List ℕ) → total ≡ left + 32 → j + left ≡ 32 → length old ≡ 32 → first_filling test top j total (witness_at round (old, new)) ≡ first_in_list (λ r. first_in_list (λ n. test (witness_at round (take j old ++ r, n))) ys) (ranges (map olds (range_with_len j left)))
  unfolding first_filling
  old_rows ys new base zero total j old t e l =
      let from : j ≡ 32 = omega arith in
      let all : total ≡ 32 = omega arith in
      ap₂ (λ a b. first_filling test top a b (witness_at round (old, new))) from all
      ∙ base old
      ∙ ap (λ r. first_in_list (λ n. test (witness_at round (r, n))) ys) (sym (append-nil (take j old) ∙ take_all j old (omega arith)))
      ∙ sym (finds_ranges_none (λ r. first_in_list (λ n. test (witness_at round (take j old ++ r, n))) ys))
  old_rows ys new base (suc left) zero j old t e l = absurd (omega arith)
  old_rows ys new base (suc left) (suc total) j old t e l =
      first_same _ (λ v. first_in_list (λ r. first_in_list (λ n. test (witness_at round (take j old ++ (v ∷ r), n))) ys) (ranges (map olds (range_with_len (j + 1) left)))) (top j + 1) (λ v _. each v (old_rows ys new base left total (j + 1) (set old j v) (omega arith) (omega arith) (length-set old j v ∙ l)))
      ∙ ap (λ n. first_below (λ v. first_in_list (λ r. first_in_list (λ n. test (witness_at round (take j old ++ (v ∷ r), n))) ys) (ranges (map olds (range_with_len (j + 1) left)))) (n + 1)) (at_old j (omega arith))
      ∙ sym (finds_ranges (λ r. first_in_list (λ n. test (witness_at round (take j old ++ r, n))) ys) (olds j) (map olds (range_with_len (j + 1) left)))
    where
      each : (v : ℕ) → first_filling test top (j + 1) total (witness_at round (set old j v, new)) ≡ first_in_list (λ r. first_in_list (λ n. test (witness_at round (take (j + 1) (set old j v) ++ r, n))) ys) (ranges (map olds (range_with_len (j + 1) left))) →
          first_filling test top (j + 1) total (witness_with j (witness_at round (old, new)) v) ≡ first_in_list (λ r. first_in_list (λ n. test (witness_at round (take j old ++ (v ∷ r), n))) ys) (ranges (map olds (range_with_len (j + 1) left)))
      each v before =
          let low : ltb j 32 ≡ true = lt-ltb j 32 (omega arith) in
          let inside : j < length old = omega arith in
          ap₂ (λ a b. first_filling test top (j + 1) total (witness_at round (a, b))) (cond-true (ltb j 32) (set old j v) old low) (cond-true (ltb j 32) new (set new (j - 32) v) low)
          ∙ before
          ∙ finds_same _ _ (λ r. ap (λ x. first_in_list (λ n. test (witness_at round (x, n))) ys) (joined_row j v old r inside)) (ranges (map olds (range_with_len (j + 1) left)))

  pub all_rows : (old new : List ℕ) → length old ≡ 32 → length new ≡ 32 → first_filling test top 0 64 (witness_at round (old, new)) ≡ first_in_list (λ p. test (witness_at round p)) (pairs (ranges (map olds (below 32))) (ranges (map news (below 32))))
  unfolding below
  all_rows old new l k =
      old_rows (ranges (map news (range_with_len 0 32))) new (λ old. new_rows 32 0 old new refl k) 32 64 0 old refl refl l
      ∙ sym (finds_pairs (λ p. test (witness_at round p)) (ranges (map olds (range_with_len 0 32))) (ranges (map news (range_with_len 0 32))))

module _ (o : OutlineFacts) (r : Round) (a : ℕ) where
  pub top_of_old : (k : ℕ) → k < 32 → top_at_place o r a k ≡ cond (old_names o r a k) (o.top k) 0
  top_of_old k h = cond-true (ltb k 32) _ _ (lt-ltb k 32 h)

  pub top_of_new : (k : ℕ) → k < 32 → top_at_place o r a (32 + k) ≡ cond (o.awaits a k) (o.top k) 0
  top_of_new k h =
      let back : 32 + k - 32 ≡ k = omega arith in
      cond-false (ltb (32 + k) 32) _ _ (le-ltb (32 + k) 32 (omega arith)) ∙ ap (λ n. top_if (o.awaits a n) (o.top n)) back

-- putting back the value that is there
with_same : (place : ℕ) (s : Witness) (v : ℕ) → value_at_place s place ≡ v → witness_with place s v ≡ s
with_same place s v e =
    ap (witness_with place s) (sym e)
    ∙ ap₂ (λ old new. record { round = s.round; old = old; new = new }) same_old same_new
  where
    same_old : old_with place s.old (value_at_place s place) ≡ s.old
    same_old =
        cond_both (ltb place 32) (set s.old place (value_at_place s place)) s.old (λ r. r ≡ s.old)
        (λ t. ap (set s.old place) (cond-true (ltb place 32) _ _ t) ∙ set-get_or s.old place 0) (λ _. refl)

    same_new : new_with place s.new (value_at_place s place) ≡ s.new
    same_new =
        cond_both (ltb place 32) s.new (set s.new (place - 32) (value_at_place s place)) (λ r. r ≡ s.new) (λ _. refl)
        (λ f. ap (set s.new (place - 32)) (cond-false (ltb place 32) _ _ f) ∙ set-get_or s.new (place - 32) 0)

module _ (test : Witness → Option Witness) (top : ℕ → ℕ) (s : Witness) where
  -- one place more
  pub fills_more : (place : ℕ) → place < 64 → first_filling test top place (64 - place) s ≡ first_below (filling_with test top place (63 - place) s) (top place + 1)
  unfolding first_filling
  fills_more place h = let e : 64 - place ≡ suc (63 - place) = omega arith in ap (λ n. first_filling test top place n s) e

  pub fills_none : (place : ℕ) → place ≡ 64 → first_filling test top place (64 - place) s ≡ test s
  unfolding first_filling
  fills_none place e = let f : 64 - place ≡ 0 = omega arith in ap (λ n. first_filling test top place n s) f

  -- a place with no value but the one that is there
  fills_narrow : (place : ℕ) → place < 64 → top place ≡ 0 → value_at_place s place ≡ 0 → first_filling test top place (64 - place) s ≡ first_filling test top (place + 1) (64 - (place + 1)) s
  fills_narrow place h e z =
      let left : 63 - place ≡ 64 - (place + 1) = omega arith in
      fills_more place h
      ∙ ap (λ n. first_below (filling_with test top place (63 - place) s) (n + 1)) e
      ∙ first_one (filling_with test top place (63 - place) s)
      ∙ ap (first_filling test top (place + 1) (63 - place)) (with_same place s 0 z)
      ∙ ap (λ n. first_filling test top (place + 1) n s) left

  -- so many such places
  fills_over : (many place : ℕ) → place + many ≤ 64 → ((k : ℕ) → place ≤ k → k < place + many → (top k ≡ 0) × (value_at_place s k ≡ 0)) → first_filling test top place (64 - place) s ≡ first_filling test top (place + many) (64 - (place + many)) s
  fills_over zero place h f = let e : place ≡ place + 0 = omega arith in ap (λ n. first_filling test top n (64 - n) s) e
  fills_over (suc many) place h f =
      let both = f place (omega arith) (omega arith) in
      let next : place + 1 + many ≡ place + suc many = omega arith in
      fills_narrow place (omega arith) both.0 both.1
      ∙ fills_over many (place + 1) (omega arith) (λ k l m. f k (omega arith) (omega arith))
      ∙ ap (λ n. first_filling test top n (64 - n) s) next

  pub fills_skip : (place next : ℕ) → place ≤ next → next ≤ 64 → ((k : ℕ) → place ≤ k → k < next → top k ≡ 0) → BlankFrom place s → first_filling test top place (64 - place) s ≡ first_filling test top next (64 - next) s
  fills_skip place next h l narrow blank =
      let e : place + (next - place) ≡ next = omega arith in
      fills_over (next - place) place (omega arith) (λ k i j. (narrow k i (omega arith), blank k i (omega arith)))
      ∙ ap (λ n. first_filling test top n (64 - n) s) e

  pub fills_child : (place v : ℕ) (child : Witness) → place < 64 → child ≡ witness_with place s v → first_filling test top (place + 1) (64 - (place + 1)) child ≡ filling_with test top place (63 - place) s v
  fills_child place v child h e =
      let left : 64 - (place + 1) ≡ 63 - place = omega arith in
      ap₂ (λ n c. first_filling test top (place + 1) n c) left e

  pub fills_found : (place v : ℕ) → place < 64 → v < top place + 1 → first_below (filling_with test top place (63 - place) s) v ≡ None → is_some (filling_with test top place (63 - place) s v) ≡ true → first_filling test top place (64 - place) s ≡ filling_with test top place (63 - place) s v
  fills_found place v low h before e = fills_more place low ∙ first_at (filling_with test top place (63 - place) s) (top place + 1) v h before e

  -- a value that leads to none, after others that do
  pub fills_passed : (place v : ℕ) (child : Witness) (r : Option Witness) → place < 64 → child ≡ witness_with place s v → r ≡ first_filling test top (place + 1) (64 - (place + 1)) child → r ≡ None → first_below (filling_with test top place (63 - place) s) v ≡ None → first_below (filling_with test top place (63 - place) s) (v + 1) ≡ None
  fills_passed place v child r h e is none before = first_more (filling_with test top place (63 - place) s) v before (sym (fills_child place v child h e) ∙ sym is ∙ none)

  pub fills_clear : (place v : ℕ) → place < 64 → v ≡ top place + 1 → first_below (filling_with test top place (63 - place) s) v ≡ None → first_filling test top place (64 - place) s ≡ None
  fills_clear place v low h e = fills_more place low ∙ ap (first_below (filling_with test top place (63 - place) s)) (sym h) ∙ e

zeros : (n k : ℕ) → value (replicate n 0) k ≡ 0
zeros zero k = refl
zeros (suc n) zero = refl
zeros (suc n) (suc k) = zeros n k

-- where all is 0
pub blank_zeros : (r : Round) → BlankFrom 0 (witness_at r (replicate 32 0, replicate 32 0))
blank_zeros r k l h = cond_both (ltb k 32) (value (replicate 32 0) k) (value (replicate 32 0) (k - 32)) (λ v. v ≡ 0) (λ _. zeros 32 k) (λ _. zeros 32 (k - 32))
