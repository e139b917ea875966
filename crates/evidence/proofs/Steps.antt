-- One more place of a round.
use Rattle.std.proofs.Common.{◌≡◌, ℕ, zero, suc, ◌+◌, ◌-◌, ◌<◌, ◌≤◌, min, Bool, true, false, cond, List, length, replicate, set, Some, None, Option, sym, refl, ap, ◌∙◌, subst, ap₂, ⊎_elim, arith, length-set, get_or-set_other, get_or-set_same}
use Rattle.std.proofs.lemmas.List.{ext_get_or}
use Rattle.std.proofs.lemmas.Bool.{cases_eq, cond-true, cond-false}
use Rattle.model.specs.Meanings.{Meaning}
use Rattle.model.specs.States.{value, is_state, nothing}
use Rattle.model.proofs.States.{state_parts, state_from}
use Rattle.sealing.specs.Orders.{atom_at}
use Rattle.units.specs.Sealing.{is_external}
use Rattle.units.specs.Units.{kind_of_round, old_state, as_value, values_made}
use Rattle.units.proofs.Fitness.{Keeps, keeps, length_row, row_at}
use Rattle.evidence.specs.Counts.{added, sum_below, if_open, atoms_count, given_top, values_count}
use Rattle.evidence.specs.Judging.{RoundReady}
use Rattle.evidence.proofs.Sums.{sum_more, sum_absent, sum_small}

-- the count under a choice of the atom at this place
abbrev pub choice_count : Meaning → Option (List ℕ) → (List ℕ → Bool) → List ℕ → ℕ → List ℕ → ℕ → Option ℕ
choice_count m before listed order place new k =
    if_open (m.acts.opens (kind_of_round before) (atom_at order place) k (value (old_state before)) (value new)) (atoms_count m before listed order (place + 1) (m.outline.atoms - (place + 1)) (values_made m before new (atom_at order place) k))

-- the count under a value of this name
abbrev pub value_count : Meaning → Option (List ℕ) → (List ℕ → Bool) → List ℕ → ℕ → List ℕ → ℕ → Option ℕ
value_count m before listed order name new v = values_count m before listed order (name + 1) (32 - (name + 1)) (set new name v)

-- the value that a name has after a choice
abbrev pub made_at : Meaning → Option (List ℕ) → List ℕ → ℕ → ℕ → ℕ → ℕ
made_at m before new a k n = cond (m.outline.controls a n) (as_value (m.acts.gives (kind_of_round before) a k n (value (old_state before)) (value new))) (value new n)

module _ (m : Meaning) (before : Option (List ℕ)) (listed : List ℕ → Bool) (order : List ℕ) where
  pub atoms_left : (place : ℕ) (new : List ℕ) → place < m.outline.atoms → atoms_count m before listed order place (m.outline.atoms - place) new ≡ sum_below (choice_count m before listed order place new) (m.acts.choices (kind_of_round before) (atom_at order place))
  unfolding atoms_count
  atoms_left place new l = let e : m.outline.atoms - place ≡ suc (m.outline.atoms - (place + 1)) = omega arith in ap (λ n. atoms_count m before listed order place n new) e

  pub atoms_none : (place : ℕ) (new : List ℕ) → m.outline.atoms ≤ place → atoms_count m before listed order place (m.outline.atoms - place) new ≡ cond (listed new) (Some 1) None
  unfolding atoms_count
  atoms_none place new l = let e : m.outline.atoms - place ≡ 0 = omega arith in ap (λ n. atoms_count m before listed order place n new) e

  pub values_left : (name : ℕ) (new : List ℕ) → name < 32 → values_count m before listed order name (32 - name) new ≡ sum_below (value_count m before listed order name new) (given_top m.outline name + 1)
  unfolding values_count
  values_left name new l = let e : 32 - name ≡ suc (32 - (name + 1)) = omega arith in ap (λ n. values_count m before listed order name n new) e

  pub values_none : (name : ℕ) (new : List ℕ) → 32 ≤ name → values_count m before listed order name (32 - name) new ≡ atoms_count m before listed order 0 m.outline.atoms new
  unfolding values_count
  values_none name new l = let e : 32 - name ≡ 0 = omega arith in ap (λ n. values_count m before listed order name n new) e

-- one count more
pub sum_with : (f : ℕ → Option ℕ) (i count under all : ℕ) → sum_below f i ≡ Some count → f i ≡ Some under → all ≡ min (count + under) 4294967295 → sum_below f (i + 1) ≡ Some all
sum_with f i count under all before at e = sum_more f i ∙ ap₂ added before at ∙ ap Some (sym e)

-- nothing more
pub sum_without : (f : ℕ → Option ℕ) (i count : ℕ) → count < 4294967296 → sum_below f i ≡ Some count → f i ≡ Some 0 → sum_below f (i + 1) ≡ Some count
sum_without f i count small before at = sum_more f i ∙ ap₂ added before at ∙ ap Some (omega arith)

module _ (m : Meaning) (before : Option (List ℕ)) (listed : List ℕ → Bool) (order : List ℕ) (place : ℕ) (new : List ℕ) where
  abbrev a : ℕ
  a = atom_at order place

  abbrev opens_at : ℕ → Bool
  opens_at k = m.acts.opens (kind_of_round before) a k (value (old_state before)) (value new)

  -- the count under an open choice
  at_open : (k : ℕ) (made : List ℕ) (under : Option ℕ) → opens_at k ≡ true → made ≡ values_made m before new a k → under ≡ atoms_count m before listed order (place + 1) (m.outline.atoms - (place + 1)) made →
      choice_count m before listed order place new k ≡ under
  at_open k made under opened is counted =
      cond-true (opens_at k) _ (Some 0) opened
      ∙ ap (atoms_count m before listed order (place + 1) (m.outline.atoms - (place + 1))) (sym is)
      ∙ sym counted

  -- under a choice some outcome is not listed
  pub atoms_missing : place < m.outline.atoms → (k : ℕ) (made : List ℕ) (under : Option ℕ) → k < m.acts.choices (kind_of_round before) a → opens_at k ≡ true → made ≡ values_made m before new a k →
      under ≡ atoms_count m before listed order (place + 1) (m.outline.atoms - (place + 1)) made → under ≡ None → atoms_count m before listed order place (m.outline.atoms - place) new ≡ None
  atoms_missing low k made under l opened is counted none =
      atoms_left m before listed order place new low ∙ sum_absent (choice_count m before listed order place new) (m.acts.choices (kind_of_round before) a) k l (at_open k made under opened is counted ∙ none)

  pub atoms_more : (k count : ℕ) (made : List ℕ) (under : Option ℕ) (n all : ℕ) → sum_below (choice_count m before listed order place new) k ≡ Some count → opens_at k ≡ true → made ≡ values_made m before new a k →
      under ≡ atoms_count m before listed order (place + 1) (m.outline.atoms - (place + 1)) made → under ≡ Some n → all ≡ min (count + n) 4294967295 → sum_below (choice_count m before listed order place new) (k + 1) ≡ Some all
  atoms_more k count made under n all sum opened is counted some e = sum_with (choice_count m before listed order place new) k count n all sum (at_open k made under opened is counted ∙ some) e

  pub atoms_skip : (k count all : ℕ) → sum_below (choice_count m before listed order place new) k ≡ Some count → opens_at k ≡ false → all ≡ count → sum_below (choice_count m before listed order place new) (k + 1) ≡ Some all
  atoms_skip k count all sum closed e = sum_without (choice_count m before listed order place new) k count (sum_small (choice_count m before listed order place new) k count sum) sum (cond-false (opens_at k) _ (Some 0) closed) ∙ ap Some (sym e)

module _ (m : Meaning) (before : Option (List ℕ)) (listed : List ℕ → Bool) (order : List ℕ) (name : ℕ) (new : List ℕ) where
  -- under a value some outcome is not listed
  pub values_missing : name < 32 → (v : ℕ) (given : List ℕ) (under : Option ℕ) → v < given_top m.outline name + 1 → given ≡ set new name v →
      under ≡ values_count m before listed order (name + 1) (32 - (name + 1)) given → under ≡ None → values_count m before listed order name (32 - name) new ≡ None
  values_missing low v given under l is counted none =
      values_left m before listed order name new low
      ∙ sum_absent (value_count m before listed order name new) (given_top m.outline name + 1) v l (ap (values_count m before listed order (name + 1) (32 - (name + 1))) (sym is) ∙ sym counted ∙ none)

  pub values_more : (v count : ℕ) (given : List ℕ) (under : Option ℕ) (n all : ℕ) → sum_below (value_count m before listed order name new) v ≡ Some count → given ≡ set new name v →
      under ≡ values_count m before listed order (name + 1) (32 - (name + 1)) given → under ≡ Some n → all ≡ min (count + n) 4294967295 → sum_below (value_count m before listed order name new) (v + 1) ≡ Some all
  values_more v count given under n all sum is counted some e =
      sum_with (value_count m before listed order name new) v count n all sum (ap (values_count m before listed order (name + 1) (32 - (name + 1))) (sym is) ∙ sym counted ∙ some) e

-- the values after a choice, name by name
pub made_all : (m : Meaning) (before : Option (List ℕ)) (new : List ℕ) (a k : ℕ) (made : List ℕ) → length made ≡ 32 → ((n : ℕ) → n < 32 → value made n ≡ made_at m before new a k n) → made ≡ values_made m before new a k
made_all m before new a k made long each =
    ext_get_or 0 made (values_made m before new a k) (long ∙ sym (length_row (made_at m before new a k)))
    (λ n l. let low : n < 32 = subst (λ j. n < j) long l in each n low ∙ sym (row_at (made_at m before new a k) n low))

module _ (m : Meaning) (before : Option (List ℕ)) (order : List ℕ) (ready : RoundReady m before order) where
  kept : Keeps m
  kept = keeps m ready.fit

  -- what an open choice gives is in range
  pub gift_small : (new : List ℕ) (place k : ℕ) → is_state m.outline new ≡ true → place < m.outline.atoms → m.acts.opens (kind_of_round before) (atom_at order place) k (value (old_state before)) (value new) ≡ true →
      (n : ℕ) → m.outline.controls (atom_at order place) n ≡ true → as_value (m.acts.gives (kind_of_round before) (atom_at order place) k n (value (old_state before)) (value new)) ≤ m.outline.top n
  gift_small new place k state l opened n c =
      let x = kept.given_in_range (kind_of_round before) (atom_at order place) k n (value (old_state before)) (value new) (ready.ordered.only place l) (state_parts m.outline (old_state before) ready.from_state).within (state_parts m.outline new state).within opened c in
      subst (λ v. v ≤ m.outline.top n) (sym (ap as_value x.1)) x.2

  pub gift_byte : (new : List ℕ) (place k : ℕ) → is_state m.outline new ≡ true → place < m.outline.atoms → m.acts.opens (kind_of_round before) (atom_at order place) k (value (old_state before)) (value new) ≡ true →
      (n : ℕ) → m.outline.controls (atom_at order place) n ≡ true → as_value (m.acts.gives (kind_of_round before) (atom_at order place) k n (value (old_state before)) (value new)) < 256
  gift_byte new place k state l opened n c = let small = gift_small new place k state l opened n c in let top = m.outline_laws.top_to_255 n in omega arith

  -- so the values after it are a state
  pub made_state : (new : List ℕ) (place k : ℕ) → is_state m.outline new ≡ true → place < m.outline.atoms → m.acts.opens (kind_of_round before) (atom_at order place) k (value (old_state before)) (value new) ≡ true →
      is_state m.outline (values_made m before new (atom_at order place) k) ≡ true
  made_state new place k state l opened =
      state_from m.outline (values_made m before new (atom_at order place) k) (length_row (made_at m before new (atom_at order place) k))
      (λ n low. subst (λ v. v ≤ m.outline.top n) (sym (row_at (made_at m before new (atom_at order place) k) n low)) (go n (m.outline.controls (atom_at order place) n) refl))
    where
      go : (n : ℕ) (b : Bool) → m.outline.controls (atom_at order place) n ≡ b → cond b (as_value (m.acts.gives (kind_of_round before) (atom_at order place) k n (value (old_state before)) (value new))) (value new n) ≤ m.outline.top n
      go n true e = gift_small new place k state l opened n e
      go n false e = (state_parts m.outline new state).within n

-- a state with a value of an external name
pub given_is_state : (m : Meaning) (new : List ℕ) (name v : ℕ) → name < 32 → is_state m.outline new ≡ true → v ≤ given_top m.outline name → is_state m.outline (set new name v) ≡ true
given_is_state m new name v low state small =
    let parts = state_parts m.outline new state in
    state_from m.outline (set new name v) (length-set new name v ∙ parts.long)
    (λ n l. ⊎_elim
    (λ e. subst (λ k. value (set new name v) k ≤ m.outline.top k) (sym e) (subst (λ x. x ≤ m.outline.top name) (sym (get_or-set_same new name v 0 (omega (arith, parts.long)))) (within (is_external (m.outline.kind name)) small)))
    (λ apart. subst (λ x. x ≤ m.outline.top n) (sym (get_or-set_other new name n v 0 apart)) (parts.within n))
    (cases_eq n name))
  where
    within : (b : Bool) → v ≤ cond b (m.outline.top name) 0 → v ≤ m.outline.top name
    within true h = h
    within false h = omega arith

zeros : (n k : ℕ) → value (replicate n 0) k ≡ 0
zeros zero k = refl
zeros (suc n) zero = refl
zeros (suc n) (suc k) = zeros n k

-- no values yet
pub nothing_state : (m : Meaning) → is_state m.outline nothing ≡ true
nothing_state m = state_from m.outline nothing refl (λ n l. zero_at n)
  where
    zero_at : (n : ℕ) → value nothing n ≤ m.outline.top n
    zero_at n = subst (λ v. v ≤ m.outline.top n) (sym (zeros 32 n)) (omega arith)
