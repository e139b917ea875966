-- No outcome is visited twice.
use Rattle.std.proofs.Common.{◌≡◌, ℕ, zero, suc, ◌+◌, ◌<◌, Bool, true, false, cond, ◌⊎◌, List, [], ◌∷◌, map, length, set, Some, None, Option, sym, refl, ap, ◌∙◌, subst, inl, inr, ⊎_elim, zero-add, arith}
use Rattle.std.proofs.lemmas.List.{length-set, length-replicate, ext_get_or, get_or-set_same, get_or-set_other}
use Rattle.std.proofs.lemmas.Bool.{both_ways, cases_Bool, cond-false}
use Rattle.std.specs.List.{flat_map}
use Rattle.model.specs.Meanings.{Valuation, Meaning}
use Rattle.model.specs.States.{value}
use Rattle.model.specs.declared.Kind.{Kind}
use Rattle.model.specs.declared.Kind.TheVariants.{Private, Interface, External}
use Rattle.model.specs.declared.Round.{Round}
use Rattle.sealing.specs.Orders.{atom_at, AtomsInOrder}
use Rattle.theory.specs.Enumerations.{below, Within}
use Rattle.theory.specs.Members.{Member, Distinct}
use Rattle.theory.proofs.Enumerations.{ranges_exact, distinct_below, distinct_ranges}
use Rattle.theory.proofs.Members.{member_same, joined_from, distinct_append, distinct_joined}
use Rattle.units.specs.Sealing.{is_external, values_at}
use Rattle.units.specs.Units.{kind_of_round, old_state, as_value, values_made}
use Rattle.units.proofs.Fitness.{length_row, row_at}
use Rattle.evidence.proofs.Places.{Done, done_more, done_here, there, not_yet}
use Rattle.evidence.proofs.Visits.{atoms_visits, visits, no_choices, is_outer}

under_open : (b : Bool) (xs : List (List ℕ × List ℕ)) (p : List ℕ × List ℕ) → Member p (cond b xs []) → Member p xs
under_open true xs p h = h
under_open false xs p h = absurd h

-- lists of which no two members have an element in common
distinct_flat : {A B : Type 0} (f : A → List B) (xs : List A) → Distinct xs → ((x : A) → Distinct (f x)) → ((x y : A) (z : B) → Member x xs → Member y xs → Member z (f x) → Member z (f y) → x ≡ y) → Distinct (flat_map f xs)
distinct_flat f [] d each one = tt
distinct_flat {A} {B} f (x ∷ xs) d each one = distinct_append (f x) (flat_map f xs) (each x) (distinct_flat f xs d.1 each (λ u v z a b. one u v z (inr a) (inr b))) apart
  where
    apart : (z : B) → Member z (f x) → Member z (flat_map f xs) → ⊥
    apart z m k = let (u, i, j) = joined_from f xs z k in d.0 (member_same xs (one u x z (inr i) (inl refl) j m) i)

distinct_open : (b : Bool) (xs : List (List ℕ × List ℕ)) → Distinct xs → Distinct (cond b xs [])
distinct_open true xs d = d
distinct_open false xs d = tt

module _ (m : Meaning) (before : Option (List ℕ)) (order : List ℕ) (ordered : AtomsInOrder m.outline order) where
  abbrev kind : Round
  kind = kind_of_round before

  abbrev old : Valuation
  old = value (old_state before)

  -- what is visited under a choice of the atom at this place
  abbrev under : ℕ → ℕ → List ℕ → List ℕ → ℕ → List (List ℕ × List ℕ)
  under left place new row k = atoms_visits m before order (place + 1) left (values_made m before new (atom_at order place) k) (set row (atom_at order place) k)

  abbrev under_choice : ℕ → ℕ → List ℕ → List ℕ → ℕ → List (List ℕ × List ℕ)
  under_choice left place new row k = cond (m.acts.opens kind (atom_at order place) k old (value new)) (under left place new row k) []

  -- choices that are made stay
  row_kept : (left place : ℕ) (new row : List ℕ) (p : List ℕ × List ℕ) → place + left ≡ m.outline.atoms → Member p (atoms_visits m before order place left new row) → (b : ℕ) → Done order place b → value p.1 b ≡ value row b
  unfolding atoms_visits
  row_kept zero place new row p e (inl same) b d = ap (λ (q : List ℕ × List ℕ). value q.1 b) (sym same)
  row_kept zero place new row p e (inr k) b d = absurd k
  row_kept (suc left) place new row p e h b d =
      let (k, _, member) = joined_from (under_choice left place new row) (below (m.acts.choices kind (atom_at order place))) p h in
      row_kept left (place + 1) (values_made m before new (atom_at order place) k) (set row (atom_at order place) k) p (omega arith) (under_open _ _ p member) b (done_more order place (place + 1) b (omega arith) d)
      ∙ get_or-set_other row (atom_at order place) b k 0 (λ same. not_yet m order ordered place (omega arith) (subst (Done order place) same d))

  -- values of external names stay
  outer_kept : (left place : ℕ) (new row : List ℕ) (p : List ℕ × List ℕ) → Member p (atoms_visits m before order place left new row) → (n : ℕ) → n < 32 → is_outer m.outline n ≡ true → value p.0 n ≡ value new n
  unfolding atoms_visits
  outer_kept zero place new row p (inl same) n l o = ap (λ (q : List ℕ × List ℕ). value q.0 n) (sym same)
  outer_kept zero place new row p (inr k) n l o = absurd k
  outer_kept (suc left) place new row p h n l o =
      let (k, _, member) = joined_from (under_choice left place new row) (below (m.acts.choices kind (atom_at order place))) p h in
      outer_kept left (place + 1) (values_made m before new (atom_at order place) k) (set row (atom_at order place) k) p (under_open _ _ p member) n l o
      ∙ row_at (λ n. cond (m.outline.controls (atom_at order place) n) (as_value (m.acts.gives kind (atom_at order place) k n old (value new))) (value new n)) n l
      ∙ cond-false (m.outline.controls (atom_at order place) n) _ (value new n) (not_controlled n o)
    where
      external : (k : Option Kind) → is_external k ≡ true → k ≡ Some External
      external None h = absurd (both_ways false refl h)
      external (Some Private) h = absurd (both_ways false refl h)
      external (Some Interface) h = absurd (both_ways false refl h)
      external (Some External) h = refl

      not_controlled : (n : ℕ) → is_outer m.outline n ≡ true → m.outline.controls (atom_at order place) n ≡ false
      not_controlled n o = ⊎_elim (λ c. absurd (m.outline_laws.controls_own (atom_at order place) n c (external (m.outline.kind n) o))) (λ f. f) (cases_Bool (m.outline.controls (atom_at order place) n))

  -- the choice under which it is visited is told by its row
  told_by_row : (left place : ℕ) (new row : List ℕ) (k : ℕ) (p : List ℕ × List ℕ) → place + suc left ≡ m.outline.atoms → length row ≡ m.outline.atoms → Member p (under left place new row k) → value p.1 (atom_at order place) ≡ k
  told_by_row left place new row k p e long h =
      row_kept left (place + 1) (values_made m before new (atom_at order place) k) (set row (atom_at order place) k) p (omega arith) h (atom_at order place) (done_here order place)
      ∙ get_or-set_same row (atom_at order place) k 0 (omega (arith, there m order ordered place (omega arith), long))

  atoms_distinct : (left place : ℕ) (new row : List ℕ) → place + left ≡ m.outline.atoms → length row ≡ m.outline.atoms → Distinct (atoms_visits m before order place left new row)
  unfolding atoms_visits
  atoms_distinct zero place new row e long = (λ k. k, tt)
  atoms_distinct (suc left) place new row e long =
      distinct_joined (under_choice left place new row) (below (m.acts.choices kind (atom_at order place))) (distinct_below (m.acts.choices kind (atom_at order place)))
      (λ k. distinct_open _ _ (atoms_distinct left (place + 1) (values_made m before new (atom_at order place) k) (set row (atom_at order place) k) (omega arith) (length-set row (atom_at order place) k ∙ long)))
      (λ k j p h g. sym (told_by_row left place new row k p e long (under_open _ _ p h)) ∙ told_by_row left place new row j p e long (under_open _ _ p g))

  -- the same row, under the same values given: the same outcome
  atoms_determined : (left place : ℕ) (new row : List ℕ) (p q : List ℕ × List ℕ) → place + left ≡ m.outline.atoms → length row ≡ m.outline.atoms →
      Member p (atoms_visits m before order place left new row) → Member q (atoms_visits m before order place left new row) → p.1 ≡ q.1 → p ≡ q
  unfolding atoms_visits
  atoms_determined zero place new row p q e long (inl s) (inl u) same = sym s ∙ u
  atoms_determined zero place new row p q e long (inl s) (inr k) same = absurd k
  atoms_determined zero place new row p q e long (inr k) u same = absurd k
  atoms_determined (suc left) place new row p q e long h g same =
      let (k, _, here) = joined_from (under_choice left place new row) (below (m.acts.choices kind (atom_at order place))) p h in
      let (j, _, here') = joined_from (under_choice left place new row) (below (m.acts.choices kind (atom_at order place))) q g in
      let one = under_open _ _ p here in
      let other = under_open _ _ q here' in
      let equal : k ≡ j = sym (told_by_row left place new row k p e long one) ∙ ap (λ r. value r (atom_at order place)) same ∙ told_by_row left place new row j q e long other in
      atoms_determined left (place + 1) (values_made m before new (atom_at order place) k) (set row (atom_at order place) k) p q (omega arith) (length-set row (atom_at order place) k ∙ long)
      one (subst (λ i. Member q (under left place new row i)) (sym equal) other) same

  abbrev from : List ℕ → List (List ℕ × List ℕ)
  from given = atoms_visits m before order 0 m.outline.atoms given (no_choices m)

  blank_long : length (no_choices m) ≡ m.outline.atoms
  blank_long = length-replicate m.outline.atoms 0

  top : ℕ → ℕ
  top n = cond (is_outer m.outline n) (m.outline.top n) 0

  -- values given that agree at external names are the same
  given_same : (g h : List ℕ) → Member g (values_at m.outline (is_outer m.outline)) → Member h (values_at m.outline (is_outer m.outline)) → ((n : ℕ) → n < 32 → is_outer m.outline n ≡ true → value g n ≡ value h n) → g ≡ h
  unfolding top
  given_same g h listed listed' agree =
      ext_get_or 0 g h (a.long ∙ sym b.long) (λ n l. each n (subst (λ k. n < k) (a.long ∙ length_row top) l) (cases_Bool (is_outer m.outline n)))
    where
      a : Within (map top (below 32)) g
      a = (ranges_exact (map top (below 32))).sound g listed

      b : Within (map top (below 32)) h
      b = (ranges_exact (map top (below 32))).sound h listed'

      zero_at : (s : List ℕ) → Within (map top (below 32)) s → (n : ℕ) → n < 32 → is_outer m.outline n ≡ false → value s n ≡ 0
      zero_at s w n l e = omega (arith, w.under n (subst (λ k. n < k) (sym (length_row top)) l), row_at top n l, cond-false (is_outer m.outline n) (m.outline.top n) 0 e)

      each : (n : ℕ) → n < 32 → (is_outer m.outline n ≡ true) ⊎ (is_outer m.outline n ≡ false) → value g n ≡ value h n
      each n l (inl e) = agree n l e
      each n l (inr e) = zero_at g a n l e ∙ sym (zero_at h b n l e)

  -- the values given under which it is visited are told by its state
  told_by_state : (g h : List ℕ) (p q : List ℕ × List ℕ) → Member g (values_at m.outline (is_outer m.outline)) → Member h (values_at m.outline (is_outer m.outline)) → Member p (from g) → Member q (from h) →
      ((n : ℕ) → n < 32 → is_outer m.outline n ≡ true → value p.0 n ≡ value q.0 n) → g ≡ h
  told_by_state g h p q a b c d agree =
      given_same g h a b (λ n l o. sym (outer_kept m.outline.atoms 0 g (no_choices m) p c n l o) ∙ agree n l o ∙ outer_kept m.outline.atoms 0 h (no_choices m) q d n l o)

  -- no outcome is visited twice
  pub visited_once : Distinct (visits m before order)
  unfolding visits
  visited_once =
      distinct_flat from (values_at m.outline (is_outer m.outline)) (distinct_ranges _)
      (λ given. atoms_distinct m.outline.atoms 0 given (no_choices m) (zero-add m.outline.atoms) blank_long)
      (λ g h p a b c d. told_by_state g h p p a b c d (λ n l o. refl))

  -- external values and a row of choices tell which outcome it is
  pub determined : (p q : List ℕ × List ℕ) → Member p (visits m before order) → Member q (visits m before order) → ((n : ℕ) → n < 32 → is_outer m.outline n ≡ true → value p.0 n ≡ value q.0 n) → p.1 ≡ q.1 → p ≡ q
  unfolding visits
  determined p q h k agree same =
      let (g, a, c) = joined_from from (values_at m.outline (is_outer m.outline)) p h in
      let (g', b, d) = joined_from from (values_at m.outline (is_outer m.outline)) q k in
      let equal : g ≡ g' = told_by_state g g' p q a b c d agree in
      atoms_determined m.outline.atoms 0 g (no_choices m) p q (zero-add m.outline.atoms) blank_long c (subst (λ x. Member q (from x)) (sym equal) d) same
