-- A choice that was read stands there item by item.
use Rattle.std.proofs.Common.{◌≡◌, ℕ, zero, suc, ◌+◌, ◌<◌, ◌≤◌, List, [], ◌∷◌, ◌++◌, length, get_or, take, drop, Some, refl, ap, ◌∙◌, subst, le_of_suc-le-suc, not-suc-le-zero, arith}
use lib.Seq.{take-append_seam}
use Rattle.std.proofs.lemmas.List.{length-append, length-drop}
use Rattle.std.proofs.lemmas.Option.{get_or_from_slice_get}
use Rattle.std.specs.List.{slice_get}
use Rattle.language.proofs.Bytes.{stands_drop}
use Rattle.language.specs.laws.Expressions.{none_some, Stands, byte_is}
use Rattle.language.specs.Expressions.{Number, Seen, number_bytes, truth_bytes, whole_number, whole_truth}
use Rattle.language.specs.laws.Reading.{then_read, fine_same, truth_item_read, number_item_read, choice_read}
use Rattle.language.specs.Tables.{TableChoice, with_length, fine, and_then, expression_item, many, read_choice}
use Rattle.table.specs.Asked.{ChoiceStands}
use Rattle.table.specs.Items.{after_item, item_bytes, item_place}
use Rattle.table.proofs.Walks.{place_next}

pub nth_there : {X : Type 0} (xs : List X) (i : ℕ) → i < length xs → (x : X) × (slice_get xs i ≡ Some x)
nth_there [] i h = absurd (not-suc-le-zero h)
nth_there (y ∷ xs) zero h = (y, refl)
nth_there (y ∷ xs) (suc i) h = nth_there xs i (le_of_suc-le-suc h)

-- an item within the bytes, of this form
record Item (bs : List ℕ) (k : ℕ) (form : List ℕ) : Type 0 where
  inside : after_item bs k ≤ length bs
  is : item_bytes bs k ≡ form

-- what stands there with its length is an item
item_after : (bs : List ℕ) (k : ℕ) (form : List ℕ) → Stands bs k (with_length form) → after_item bs k ≡ k + 1 + length form
item_after bs k form h = ap (λ n. k + 1 + n) (get_or_from_slice_get bs k (length form) 0 (byte_is (slice_get bs k) (length form) h.0))

item_stands : (bs : List ℕ) (k : ℕ) (form : List ℕ) → Stands bs k (with_length form) → Item bs k form
item_stands bs k form h =
    let size : get_or bs k 0 ≡ length form = get_or_from_slice_get bs k (length form) 0 (byte_is (slice_get bs k) (length form) h.0) in
    let end = k + 1 + length form in
    let all : drop k bs ≡ with_length form ++ drop end bs = stands_drop bs k end (with_length form) h (omega arith) in
    let body : drop (k + 1) bs ≡ form ++ drop end bs = stands_drop bs (k + 1) end form h.1 refl in
    let sized : length (drop k bs) ≡ length (with_length form) + length (drop end bs) = ap length all ∙ length-append (with_length form) (drop end bs) in
    record {
      inside = omega (arith, length-drop k bs, item_after bs k form h);
      is = ap (λ n. take n (drop (k + 1) bs)) size ∙ ap (take (length form)) body ∙ take-append_seam form (drop end bs);
    }

numbers_stand : (s : Seen) (n : ℕ) (bs : List ℕ) (k : ℕ) (es : List Number) (end : ℕ) → many (expression_item (whole_number 8 s)) n bs k ≡ fine es end → (m : ℕ) (x : Number) → slice_get es m ≡ Some x → Item bs (item_place bs k m) (number_bytes x)
unfolding many item_place
numbers_stand s zero bs k es end e m x h =
    let same : [] ≡ es = cc e in none_some x (ap (λ l. slice_get l m) same ∙ h)
numbers_stand s (suc n) bs k es end e m x h =
    let r = then_read (expression_item (whole_number 8 s) bs k) (λ x next. and_then (many (expression_item (whole_number 8 s)) n bs next) (λ xs end. fine (x ∷ xs) end)) es end e in
    let q = then_read (many (expression_item (whole_number 8 s)) n bs r.place) (λ xs end. fine (r.first ∷ xs) end) es end r.rest_read in
    let last = q.rest_read in
    let same : r.first ∷ q.first ≡ es = cc last in
    let got = number_item_read s bs k r.first r.place r.first_read in
    let next : r.place ≡ after_item bs k = omega (arith, got.ends, item_after bs k (number_bytes r.first) got.stands) in
    go m r.first q.first (ap (λ l. slice_get l m) same ∙ h) (item_stands bs k (number_bytes r.first) got.stands) next (λ m h. numbers_stand s n bs r.place q.first q.place q.first_read m x h)
  where
    go : {place : ℕ} (m : ℕ) → (y : Number) (ys : List Number) → slice_get (y ∷ ys) m ≡ Some x → Item bs k (number_bytes y) → place ≡ after_item bs k → ((m : ℕ) → slice_get ys m ≡ Some x → Item bs (item_place bs place m) (number_bytes x)) → Item bs (item_place bs k m) (number_bytes x)
    go zero y ys h first next rest = let is : y ≡ x = cc h in subst (λ z. Item bs k (number_bytes z)) is first
    go (suc m) y ys h first next rest =
        subst (λ i. Item bs i (number_bytes x)) (ap (λ p. item_place bs p m) next ∙ place_next bs k m) (rest m h)

pub choice_stands : (s : Seen) (count : ℕ) (bs : List ℕ) (k : ℕ) (c : TableChoice) (end : ℕ) → length bs ≤ 4096 → read_choice s count bs k ≡ fine c end → ChoiceStands bs count c k
unfolding read_choice
choice_stands s count bs k c end short e =
    let r = then_read (expression_item (whole_truth 8 s) bs k) (λ guard k. and_then (many (expression_item (whole_number 8 s)) count bs k) (λ gives end. fine (record { guard = guard; gives = gives }) end)) c end e in
    let q = then_read (many (expression_item (whole_number 8 s)) count bs r.place) (λ gives end. fine (record { guard = r.first; gives = gives }) end) c end r.rest_read in
    let made : TableChoice = record { guard = r.first; gives = q.first } in
    let same : made ≡ c = fine_same made c q.place end q.rest_read in
    let got = truth_item_read s bs k r.first r.place r.first_read in
    let guard = item_stands bs k (truth_bytes r.first) got.stands in
    let next : r.place ≡ after_item bs k = omega (arith, got.ends, item_after bs k (truth_bytes r.first) got.stands) in
    let numbers : (m : ℕ) (x : Number) → slice_get c.gives m ≡ Some x → Item bs (item_place bs k (suc m)) (number_bytes x) =
    λ m x h. subst (λ i. Item bs i (number_bytes x)) (ap (λ p. item_place bs p m) next ∙ place_next bs k m) (numbers_stand s count bs r.place q.first q.place q.first_read m x (ap (λ d. slice_get d.gives m) same ∙ h)) in
    let counted : length c.gives ≡ count = (choice_read s count bs k c end e).holds.gives_count in
    let there : (m : ℕ) → m < count → (x : Number) × (slice_get c.gives m ≡ Some x) = λ m h. nth_there c.gives m (omega arith) in
    record {
      few_bytes = short;
      guard_inside = guard.inside;
      guard_is = guard.is ∙ ap (λ d. truth_bytes d.guard) same;
      number_inside = λ m h. (numbers m (there m h).0 (there m h).1).inside;
      number_is = λ m x h. (numbers m x h).is;
      numbered = there;
    }
