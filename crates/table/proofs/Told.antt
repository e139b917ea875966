-- What an opened table tells is what its bytes say.
use Rattle.model.specs.Tests.{count}
use Rattle.std.proofs.Common.{Bor, ◌≡◌, ℕ, zero, suc, ◌+◌, ◌<◌, ◌≤◌, Bool, true, List, [], length, take, get_or, Some, None, Ok, Err, Option, Result, sym, refl, ap, ◌∙◌, subst, arith}
use mathlib.Core.Logic.{∥∥₁_elim, ∥∥₁_map}
use mathlib.Core.Path.{fun_ext}
use native.Mathlib.Bridge.{le_prop}
use base.Stored.{Coded-set, coded_ℕ, coded_list}
use std.Logic.{∥∥₁_prop}
use Rattle.std.proofs.lemmas.Bool.Decides.{nat_tests}
use Rattle.std.proofs.lemmas.Option.{slice_get-get_or, slice_get_past}
use Rattle.std.proofs.lemmas.Bool.{false≢true}
use Rattle.std.specs.List.{slice_get}
use Rattle.std.specs.Coded.{coded_option}
use Rattle.std.specs.Option.{option_copied, option_map}
use Rattle.std.specs.Result.{result_copied, result_err, result_ok}
use Rattle.std.specs.Slice.{IsItemAt}
use Rattle.model.specs.Rows.{row_items}
use Rattle.model.specs.Sets.{has}
use Rattle.model.specs.Sets.{NameSet}
use Rattle.model.specs.declared.Fault.{Fault}
use Rattle.model.specs.declared.Round.{Round}
use Rattle.model.specs.declared.Round.TheVariants.{Initial, Update}
use Rattle.language.proofs.Counts.{count_few, count_below}
use Rattle.language.specs.laws.Expressions.{none_some}
use Rattle.language.specs.Meanings.{table_meaning}
use Rattle.language.specs.Tables.{TableAtom, TableChoice, bit, size, Opening, opens_as, breaks, opening_of, fault_of, syntax_of, table_fault, table_of, in_set, choices_in, numbers_of, seen_in}
use Rattle.table.specs.Layouts.{IsLayout, IsAtomAt, IsChoiceAt, AreChoicesAt}
use Rattle.table.specs.Places.{atom_start, choice_place, choice_start, choices_end, first_choice}
use Rattle.table.specs.Rows.{Paired}
use Rattle.table.specs.Variables.{at}
use Rattle.table.specs.declared.parts.AtomLayout.{AtomLayout}
use Rattle.table.specs.Answers.{Opens, IsAnswer}
use Rattle.table.specs.declared.parts.Layout.{Layout}
use Rattle.table.specs.Asked.{IsAtomOf, ChoiceStands, IsChoiceOf, places_in, controlled}
use Rattle.table.specs.Table.{contents, outline_of, variable_of, atom_of, choice_of, guard_bytes, number_if, number_for, bytes_of_number, number_bytes_of}
use Rattle.table.specs.Items.{after_item, item_bytes, item_place}
use Rattle.table.specs.declared.table.Table.{Table}
use Rattle.table.proofs.Held.{opened_short}
use Rattle.table.proofs.Equalities.{variable_set, fault_set}
use Rattle.table.proofs.Standing.{choice_stands}
use Rattle.table.proofs.Walks.{place_none}

-- ---- what was found

module _ (t : Table) where
  whole : (l : Layout) → t.found ≡ Ok l → ∥ Opens (contents t) l ∥₁
  whole l e = subst (λ f. ∥ IsAnswer (contents t) f ∥₁) e t.read

  faulty : (f : Fault) → t.found ≡ Err f → ∥ table_fault (contents t) ≡ Some f ∥₁
  faulty f e = subst (λ r. ∥ IsAnswer (contents t) r ∥₁) e t.read

  is_table : (l : Layout) (w : Opens (contents t) l) → w.table ≡ table_of (contents t)
  is_table l w = sym (ap syntax_of w.is)

  laid : (l : Layout) → Opens (contents t) l → IsLayout (contents t) 0 (table_of (contents t)) l
  laid l w = subst (λ s. IsLayout (contents t) 0 s l) (is_table l w) w.laid

  pub atom_at : (l : Layout) → t.found ≡ Ok l → (i : ℕ) → ∥ IsAtomOf (contents t) (atom_start (table_of (contents t)) i) (atom_of t i) (slice_get (row_items l.atoms) i) ∥₁
  atom_at l e i = ∥∥₁_map (whole l e) (λ w. (laid l w).atoms.each i)

-- ---- the outline

module _ (t : Table) where
  fault_none : (l : Layout) → t.found ≡ Ok l → None ≡ (outline_of t).fault
  fault_none l e = ∥∥₁_elim (whole t l e) (fault_set _ _) (λ w. sym (ap fault_of w.is))

  fault_some : (f : Fault) → t.found ≡ Err f → Some f ≡ (outline_of t).fault
  fault_some f e = ∥∥₁_elim (faulty t f e) (fault_set _ _) sym

  pub fault_told : (r : Result (Bor Layout) (Bor Fault)) → result_copied r ≡ t.found → option_copied (result_err r) ≡ (outline_of t).fault
  fault_told (Ok l) e = fault_none l.now (sym e)
  fault_told (Err f) e = fault_some f.now (sym e)

  variable_at_name : (l : Layout) → t.found ≡ Ok l → (n : ℕ) → at l.variables n ≡ variable_of t n
  variable_at_name l e n = ∥∥₁_elim (whole t l e) (variable_set _ _) (λ w. (laid t l w).variables n)

-- ---- by what is lent of the layout

found_ok : (r : Result Layout Fault) (l : Layout) → Some l ≡ result_ok r → r ≡ Ok l
found_ok (Ok m) l e = let same : l ≡ m = cc in sym (ap Ok same)
found_ok (Err f) l e = cc

-- what is lent at an index
item_at : {X : Type 0} (xs : List X) (i : ℕ) (r : Option (Bor X)) → IsItemAt xs i r → option_copied r ≡ slice_get xs i
item_at xs i None h = let past : length xs ≤ i = grind (arith, nat_tests, h.0) in sym (slice_get_past xs i past)
item_at xs i (Some x) h =
    let inside : i < length xs = grind (arith, nat_tests, h.0) in
    let here : x.now ≡ get_or xs i x.now = h.4 (omega arith) x.now in
    ap Some here ∙ sym (slice_get-get_or xs i x.now inside)

module _ (t : Table) (l : Layout) (e : Some l ≡ result_ok t.found) where
  pub variable_told : (n : ℕ) → at l.variables n ≡ variable_of t n
  variable_told n = variable_at_name t l (found_ok t.found l e) n

  pub atom_told : (xs : List AtomLayout) (i : ℕ) (r : Option (Bor AtomLayout)) → xs ≡ row_items l.atoms → IsItemAt xs i r → ∥ IsAtomOf (contents t) (atom_start (table_of (contents t)) i) (atom_of t i) (option_copied r) ∥₁
  atom_told xs i r same h =
      let is : option_copied r ≡ slice_get (row_items l.atoms) i = item_at xs i r h ∙ ap (λ ys. slice_get ys i) same in
      subst (λ o. ∥ IsAtomOf (contents t) (atom_start (table_of (contents t)) i) (atom_of t i) o ∥₁) (sym is) (atom_at t l (found_ok t.found l e) i)

-- ---- an atom's choices

atom_short : (bs : List ℕ) (i : ℕ) (a : TableAtom) → slice_get (table_of bs).atoms i ≡ Some a → length bs ≤ 4096
atom_short bs i a e = go (opening_of bs) refl e
  where
    go : (o : Opening) → opening_of bs ≡ o → slice_get (syntax_of o).atoms i ≡ Some a → length bs ≤ 4096
    go (opens_as s) is e = opened_short bs s is
    go (breaks rule place) is e = none_some a e

choices_laid : (bs : List ℕ) (start : ℕ) (a : TableAtom) (l : AtomLayout) (r : Round) → IsAtomAt bs start a l → AreChoicesAt bs (first_choice r start a) (seen_in r a.reads a.awaits) (size a.controls) (choices_in r (Some a)) (places_in r l)
choices_laid bs start a l Initial h = h.initial
choices_laid bs start a l Update h = h.update

module _ (t : Table) (i : ℕ) (l : AtomLayout) (found : ∥ IsAtomOf (contents t) (atom_start (table_of (contents t)) i) (atom_of t i) (Some l) ∥₁) (r : Round) where
  by_atom : (P : Option TableAtom → Type 0) → ((o : Option TableAtom) → IsProp (P o)) → ((a : TableAtom) → slice_get (table_of (contents t)).atoms i ≡ Some a → IsAtomAt (contents t) (atom_start (table_of (contents t)) i) a l → P (Some a)) → P (atom_of t i)
  by_atom P prop each = go (atom_of t i) refl found
    where
      go : (o : Option TableAtom) → atom_of t i ≡ o → ∥ IsAtomOf (contents t) (atom_start (table_of (contents t)) i) o (Some l) ∥₁ → P o
      go (Some a) is h = ∥∥₁_elim h (prop (Some a)) (λ x. each a is x)
      go None is h = ∥∥₁_elim h (prop None) (λ x. absurd x)

  pub choice_at : (k : ℕ) → ∥ IsChoiceOf (contents t) (controlled (atom_of t i)) (choice_of t r i k) (slice_get (row_items (places_in r l)) k) ∥₁
  choice_at k =
      by_atom (λ o. ∥ IsChoiceOf (contents t) (controlled o) (slice_get (choices_in r o) k) (slice_get (row_items (places_in r l)) k) ∥₁) (λ o. ∥∥₁_prop)
      (λ a is h. ∣ stand a is (slice_get (choices_in r (Some a)) k) (slice_get (row_items (places_in r l)) k) ((choices_laid (contents t) (atom_start (table_of (contents t)) i) a l r h).each k) ∣₁)
    where
      stand : (a : TableAtom) → slice_get (table_of (contents t)).atoms i ≡ Some a → (c : Option TableChoice) (p : Option ℕ) → Paired (IsChoiceAt (contents t) (first_choice r (atom_start (table_of (contents t)) i) a) (seen_in r a.reads a.awaits) (size a.controls) (take k (choices_in r (Some a)))) c p → IsChoiceOf (contents t) (size a.controls) c p
      stand a is (Some c) (Some place) laid = choice_stands (seen_in r a.reads a.awaits) (size a.controls) (contents t) place c laid.end (atom_short (contents t) i a is) laid.read
      stand a is None None laid = tt
      stand a is (Some c) None laid = laid
      stand a is None (Some place) laid = laid

  -- where the choice begins
  pub place_at : (k : ℕ) → slice_get (row_items (places_in r l)) k ≡ choice_start r (atom_start (table_of (contents t)) i) (atom_of t i) k
  place_at k =
      by_atom (λ o. slice_get (row_items (places_in r l)) k ≡ choice_start r (atom_start (table_of (contents t)) i) o k) (λ o. Coded-set (coded_option coded_ℕ) _ _)
      (λ a is h. begins a (slice_get (choices_in r (Some a)) k) (slice_get (row_items (places_in r l)) k) ((choices_laid (contents t) (atom_start (table_of (contents t)) i) a l r h).each k))
    where
      begins : (a : TableAtom) (c : Option TableChoice) (p : Option ℕ) → Paired (IsChoiceAt (contents t) (first_choice r (atom_start (table_of (contents t)) i) a) (seen_in r a.reads a.awaits) (size a.controls) (take k (choices_in r (Some a)))) c p → p ≡ option_map (λ _. choices_end (first_choice r (atom_start (table_of (contents t)) i) a) (take k (choices_in r (Some a)))) c
      begins a (Some c) (Some place) laid = ap Some laid.begins
      begins a None None laid = refl
      begins a (Some c) None laid = absurd laid
      begins a None (Some place) laid = absurd laid

  pub place_told : (xs : List ℕ) (k : ℕ) (r' : Option (Bor ℕ)) (p : Option ℕ) → xs ≡ row_items (places_in r l) → IsItemAt xs k r' → p ≡ option_copied r' → p ≡ choice_place (table_of (contents t)) r i k
  place_told xs k r' p same h e = e ∙ item_at xs k r' h ∙ ap (λ ys. slice_get ys k) same ∙ place_at k

  pub choice_told : (xs : List ℕ) (k : ℕ) (r' : Option (Bor ℕ)) (p : Option ℕ) → xs ≡ row_items (places_in r l) → IsItemAt xs k r' → p ≡ option_copied r' → ∥ IsChoiceOf (contents t) (controlled (atom_of t i)) (choice_of t r i k) p ∥₁
  choice_told xs k r' p same h e =
      let is : p ≡ slice_get (row_items (places_in r l)) k = e ∙ item_at xs k r' h ∙ ap (λ ys. slice_get ys k) same in
      subst (λ o. ∥ IsChoiceOf (contents t) (controlled (atom_of t i)) (choice_of t r i k) o ∥₁) (sym is) (choice_at k)

-- an atom that is not there has no choice that begins anywhere
pub place_none_told : (t : Table) (r : Round) (i k : ℕ) → ∥ IsAtomOf (contents t) (atom_start (table_of (contents t)) i) (atom_of t i) None ∥₁ → None ≡ choice_place (table_of (contents t)) r i k
place_none_told t r i k found = go (atom_of t i) found
  where
    go : (o : Option TableAtom) → ∥ IsAtomOf (contents t) (atom_start (table_of (contents t)) i) o None ∥₁ → None ≡ choice_start r (atom_start (table_of (contents t)) i) o k
    go None h = refl
    go (Some a) h = ∥∥₁_elim h (Coded-set (coded_option coded_ℕ) _ _) (λ x. absurd x)

-- ---- a choice's items

module _ (bs : List ℕ) (count : ℕ) (o : Option TableChoice) (place : ℕ) (found : ∥ IsChoiceOf bs count o (Some place) ∥₁) where
  by_choice : (P : Option TableChoice → Type 0) → ((c : Option TableChoice) → IsProp (P c)) → ((c : TableChoice) → ChoiceStands bs count c place → P (Some c)) → P o
  by_choice P prop each = go o found
    where
      go : (c : Option TableChoice) → ∥ IsChoiceOf bs count c (Some place) ∥₁ → P c
      go (Some c) h = ∥∥₁_elim h (prop (Some c)) (λ x. each c x)
      go None h = ∥∥₁_elim h (prop None) (λ x. absurd x)

  pub few_bytes : length bs ≤ 4096
  few_bytes = by_choice (λ c. length bs ≤ 4096) (λ c. le_prop) (λ c s. s.few_bytes)

  pub guard_inside : after_item bs place ≤ length bs
  guard_inside = by_choice (λ c. after_item bs place ≤ length bs) (λ c. le_prop) (λ c s. s.guard_inside)

  pub guard_is : item_bytes bs place ≡ guard_bytes o
  guard_is = by_choice (λ c. item_bytes bs place ≡ guard_bytes c) (λ c. Coded-set (coded_list coded_ℕ) _ _) (λ c s. s.guard_is)

  -- all items up to the number m
  pub items_inside : (m n : ℕ) → m < count → n ≤ suc m → after_item bs (item_place bs place n) ≤ length bs
  items_inside m zero h l = subst (λ k. after_item bs k ≤ length bs) (sym (place_none bs place)) guard_inside
  items_inside m (suc n) h l = by_choice (λ c. after_item bs (item_place bs place (suc n)) ≤ length bs) (λ c. le_prop) (λ c s. s.number_inside n (omega arith))

  pub number_is : (m : ℕ) → m < count → item_bytes bs (item_place bs place (suc m)) ≡ bytes_of_number (slice_get (numbers_of o) m)
  number_is m h =
      by_choice (λ c. item_bytes bs (item_place bs place (suc m)) ≡ bytes_of_number (slice_get (numbers_of c) m)) (λ c. Coded-set (coded_list coded_ℕ) _ _)
      (λ c s. let e = s.numbered m h in s.number_is m e.0 e.1 ∙ ap bytes_of_number (sym e.1))

module _ (bs : List ℕ) (count : ℕ) (o : Option TableChoice) (found : ∥ IsChoiceOf bs count o None ∥₁) where
  by_none : (P : Option TableChoice → Type 0) → ((c : Option TableChoice) → IsProp (P c)) → P None → P o
  by_none P prop p = go o found
    where
      go : (c : Option TableChoice) → ∥ IsChoiceOf bs count c None ∥₁ → P c
      go (Some c) h = ∥∥₁_elim h (prop (Some c)) (λ x. absurd x)
      go None h = p

  pub no_guard : [] ≡ guard_bytes o
  no_guard = by_none (λ c. [] ≡ guard_bytes c) (λ c. Coded-set (coded_list coded_ℕ) _ _) refl

  pub no_number : (m : ℕ) → [] ≡ bytes_of_number (slice_get (numbers_of o) m)
  no_number m = by_none (λ c. [] ≡ bytes_of_number (slice_get (numbers_of c) m)) (λ c. Coded-set (coded_list coded_ℕ) _ _) refl

-- ---- the number for a name

count_same : (f g : ℕ → Bool) → ((n : ℕ) → f n ≡ g n) → (n : ℕ) → count f n ≡ count g n
count_same f g e n = ap (λ p. count p n) (fun_ext e)

module _ (t : Table) (r : Round) (i k' n : ℕ) (controls : NameSet) (same : (n : ℕ) → has controls n ≡ (outline_of t).controls i n) where
  module _ (here : has controls n ≡ true) where
    name_low : n < 32
    name_low =
        let laws = (table_meaning (contents t)).outline_laws in
        laws.names n (laws.controls_known i n (sym (same n) ∙ here)).1

    pub few_before : count (has controls) n < 32
    few_before = let l = count_few (has controls) n in omega (arith, name_low)

    rank_low : count (has controls) n < controlled (atom_of t i)
    rank_low = go (atom_of t i) same
      where
        go : (o : Option TableAtom) → ((n : ℕ) → has controls n ≡ in_set (λ x. x.controls) o n) → count (has controls) n < controlled o
        go None e = absurd (false≢true (sym (e n) ∙ here))
        go (Some a) e = omega (arith, count_below (bit a.controls) n 32 (sym (e n) ∙ here) name_low, count_same (has controls) (bit a.controls) e n)

    number_at : bytes_of_number (slice_get (numbers_of (choice_of t r i k')) (count (has controls) n)) ≡ number_bytes_of t r i k' n
    number_at = go (atom_of t i) same
      where
        go : (o : Option TableAtom) → ((n : ℕ) → has controls n ≡ in_set (λ x. x.controls) o n) → bytes_of_number (slice_get (numbers_of (choice_of t r i k')) (count (has controls) n)) ≡ bytes_of_number (number_for o n (choice_of t r i k'))
        go None e = absurd (false≢true (sym (e n) ∙ here))
        go (Some a) e =
            ap (λ m. bytes_of_number (slice_get (numbers_of (choice_of t r i k')) m)) (count_same (has controls) (bit a.controls) e n)
            ∙ ap (λ b. bytes_of_number (number_if b (count (bit a.controls) n) (choice_of t r i k'))) (sym (sym (e n) ∙ here))

    pub number_none : ∥ IsChoiceOf (contents t) (controlled (atom_of t i)) (choice_of t r i k') None ∥₁ → [] ≡ number_bytes_of t r i k' n
    number_none found = no_number (contents t) (controlled (atom_of t i)) (choice_of t r i k') found (count (has controls) n) ∙ number_at

    module _ (place : ℕ) (found : ∥ IsChoiceOf (contents t) (controlled (atom_of t i)) (choice_of t r i k') (Some place) ∥₁) where
      -- every item up to the number lies within the bytes
      pub walk_inside : (bs : List ℕ) → bs ≡ contents t → (m : ℕ) → m ≤ suc (count (has controls) n) → after_item bs (item_place bs place m) ≤ length bs
      walk_inside bs e m h =
          subst (λ xs. after_item xs (item_place xs place m) ≤ length xs) (sym e) (items_inside (contents t) (controlled (atom_of t i)) (choice_of t r i k') place found (count (has controls) n) m rank_low h)

      pub number_there : (bs : List ℕ) → bs ≡ contents t → item_bytes bs (item_place bs place (suc (count (has controls) n))) ≡ number_bytes_of t r i k' n
      number_there bs e =
          ap (λ xs. item_bytes xs (item_place xs place (suc (count (has controls) n)))) e
          ∙ number_is (contents t) (controlled (atom_of t i)) (choice_of t r i k') place found (count (has controls) n) rank_low
          ∙ number_at

      pub walk_at : (bs : List ℕ) (k m : ℕ) → bs ≡ contents t → k ≡ place → m ≡ count (has controls) n + 1 → (j : ℕ) → j ≤ m → after_item bs (item_place bs k j) ≤ length bs
      walk_at bs k m same at e j l = subst (λ i. after_item bs (item_place bs i j) ≤ length bs) (sym at) (walk_inside bs same j (omega arith))

      -- what stands so many items later is what is given
      pub number_later : (bs xs : List ℕ) (k p m : ℕ) → bs ≡ contents t → k ≡ place → m ≡ count (has controls) n + 1 → xs ≡ bs → p ≡ item_place bs k m → item_bytes xs p ≡ number_bytes_of t r i k' n
      number_later bs xs k p m same at e is there =
          let next : m ≡ suc (count (has controls) n) = omega arith in
          ap (λ ys. item_bytes ys p) is ∙ ap (item_bytes bs) (there ∙ ap (λ q. item_place bs q m) at ∙ ap (item_place bs place) next) ∙ number_there bs same
