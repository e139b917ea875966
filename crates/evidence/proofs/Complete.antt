-- Each outcome of the round is visited.
use Rattle.std.proofs.Common.{◌≡◌, ℕ, zero, suc, ◌+◌, ◌-◌, ◌<◌, ◌≤◌, Bool, true, false, cond, ◌⊎◌, List, [], map, length, set, is_some, Some, None, Option, sym, refl, ap, ◌∙◌, subst, ap₂, inl, inr, ⊎_elim, not-suc-le-zero, zero-add, arith}
use Rattle.std.proofs.lemmas.List.{length-set, length-replicate, length-map, ext_get_or, get_or-set_same, get_or-set_other}
use Rattle.std.proofs.lemmas.Bool.{both_ways, cases_Bool, cond-true, cond-false, cond_both}
use Rattle.composition.specs.laws.Faults.{none_from}
use Rattle.model.specs.Meanings.{Valuation, Alike, Meaning}
use Rattle.model.specs.States.{value, takes}
use Rattle.model.specs.declared.Kind.{Kind}
use Rattle.model.specs.declared.Kind.TheVariants.{Private, Interface, External}
use Rattle.model.specs.declared.Round.{Round}
use Rattle.model.proofs.Bounded.{every_decides}
use Rattle.model.proofs.States.{state_parts, takes_parts}
use Rattle.sealing.specs.Orders.{atom_at, AtomsInOrder}
use Rattle.theory.specs.Enumerations.{below}
use Rattle.theory.specs.Members.{Member}
use Rattle.theory.proofs.Enumerations.{ranges_exact, below_exact, length_below}
use Rattle.theory.proofs.Members.{member_joined}
use Rattle.units.specs.Promises.{Yielding}
use Rattle.units.specs.Sealing.{owned, is_external, values_at}
use Rattle.units.specs.Units.{kind_of_round, old_state, as_value, values_made}
use Rattle.units.proofs.Fitness.{Keeps, length_row, row_at}
use Rattle.evidence.proofs.Places.{Done, done_cases, done_all, there, not_yet, waits}
use Rattle.evidence.proofs.Sound.{open_there}
use Rattle.evidence.proofs.Visits.{atoms_visits, visits, no_choices, is_outer}

kinds : (k : Option Kind) → is_some k ≡ true → (is_external k ≡ true) ⊎ (owned k ≡ true)
kinds None h = absurd (both_ways false refl h)
kinds (Some Private) h = inr refl
kinds (Some Interface) h = inr refl
kinds (Some External) h = inl refl

module _ (m : Meaning) (keeps : Keeps m) (before : Option (List ℕ)) (order : List ℕ) (ordered : AtomsInOrder m.outline order) (t choices : List ℕ) (y : Yielding m (kind_of_round before) (old_state before) (t, choices)) where
  abbrev kind : Round
  kind = kind_of_round before

  abbrev old : Valuation
  old = value (old_state before)

  -- what is given and made so far is what t has, and the choices made are those asked for
  pub record Toward (place : ℕ) (new row : List ℕ) : Type 0 where
    pub long : length new ≡ 32
    pub outside : (n : ℕ) → n < 32 → is_outer m.outline n ≡ true → value new n ≡ value t n
    pub inside : (a n : ℕ) → n < 32 → Done order place a → m.outline.controls a n ≡ true → value new n ≡ value t n
    pub elsewhere : (n : ℕ) → n < 32 → is_some (m.outline.kind n) ≡ false → value new n ≡ 0
    pub row_long : length row ≡ m.outline.atoms
    pub rows : (a : ℕ) → Done order place a → value row a ≡ value choices a

  took : (a : ℕ) → a < m.outline.atoms → takes m kind a (value choices a) old (value t) ≡ true
  took a l = (every_decides (λ a. takes m kind a (value choices a) old (value t)) m.outline.atoms).0 y.led a l

  -- a variable's value is made where its atom, if it has one, is done
  made_right : (place : ℕ) (new row : List ℕ) → Toward place new row → (n : ℕ) → n < 32 → is_some (m.outline.kind n) ≡ true → ((b : ℕ) → m.outline.controls b n ≡ true → Done order place b) → value new n ≡ value t n
  made_right place new row h n l variable all =
      ⊎_elim (h.outside n l) (λ e. let b = keeps.some_controller n e l in h.inside b.0 n l (all b.0 b.1) b.1) (kinds (m.outline.kind n) variable)

  zero_in_state : (n : ℕ) → is_some (m.outline.kind n) ≡ false → value t n ≡ 0
  zero_in_state n e =
      let most = (state_parts m.outline t y.state).within n in
      let top = m.outline_laws.no_top n (none_from (m.outline.kind n) e) in
      omega arith

  tops : List ℕ
  tops = map (λ a. m.acts.choices kind a - 1) (below m.outline.atoms)

  choices_long : length choices ≡ m.outline.atoms
  unfolding tops
  choices_long = ((ranges_exact (map (λ a. m.acts.choices kind a - 1) (below m.outline.atoms))).sound choices y.row).long ∙ length-map (below m.outline.atoms) (λ a. m.acts.choices kind a - 1) ∙ length_below m.outline.atoms

  -- where all are done, t is made by these choices
  arrived : (place : ℕ) → place ≡ m.outline.atoms → (new row : List ℕ) → Toward place new row → ◌≡◌ {A = List ℕ × List ℕ} (new, row) (t, choices)
  arrived place all new row h =
      let long-t = (state_parts m.outline t y.state).long in
      ap₂ (λ s r. (s, r))
      (ext_get_or 0 new t (h.long ∙ sym long-t) (λ n l. each n (subst (λ k. n < k) h.long l) (cases_Bool (is_some (m.outline.kind n)))))
      (ext_get_or 0 row choices (h.row_long ∙ sym choices_long) (λ a l. h.rows a (done a (subst (λ k. a < k) h.row_long l))))
    where
      done : (a : ℕ) → a < m.outline.atoms → Done order place a
      done a l = subst (λ n. Done order n a) (sym all) (done_all m order ordered a l)

      each : (n : ℕ) → n < 32 → (is_some (m.outline.kind n) ≡ true) ⊎ (is_some (m.outline.kind n) ≡ false) → value new n ≡ value t n
      each n l (inl e) = made_right place new row h n l e (λ b c. done b (m.outline_laws.controls_known b n c).0)
      each n l (inr e) = h.elsewhere n l e ∙ sym (zero_in_state n e)

  module _ (place : ℕ) (l : place < m.outline.atoms) (new row : List ℕ) (h : Toward place new row) where
    abbrev a : ℕ
    a = atom_at order place

    abbrev k : ℕ
    k = value choices a

    alike : Alike m.outline kind a old (value new) old (value t)
    alike = record {
      awaited = λ n e. let known = (m.outline_laws.awaits_known a n e).1 in made_right place new row h n (m.outline_laws.names n known) known (λ b c. waits m order ordered place l b n e c);
      read = λ e n g. refl;
    }

    pub opened : m.acts.opens kind a k old (value new) ≡ true
    opened = m.choice_laws.opens_by_sight kind a k old (value new) old (value t) alike ∙ (takes_parts m kind a k old (value t) (took a (there m order ordered place l))).opened

    gives_it : (n : ℕ) → n < 32 → m.outline.controls a n ≡ true → as_value (m.acts.gives kind a k n old (value new)) ≡ value t n
    gives_it n l' c = ap as_value (m.choice_laws.gives_by_sight kind a k n old (value new) old (value t) alike ∙ (takes_parts m kind a k old (value t) (took a (there m order ordered place l))).given n l' c)

    abbrev made : ℕ → ℕ
    made n = cond (m.outline.controls a n) (as_value (m.acts.gives kind a k n old (value new))) (value new n)

    stays : (n : ℕ) → n < 32 → (m.outline.controls a n ≡ false → value new n ≡ value t n) → value (values_made m before new a k) n ≡ value t n
    stays n l f = row_at made n l ∙ cond_both (m.outline.controls a n) (as_value (m.acts.gives kind a k n old (value new))) (value new n) (λ v. v ≡ value t n) (gives_it n l) f

    within : a < length row
    within = omega (arith, there m order ordered place l, h.row_long)

    pub closer : Toward (place + 1) (values_made m before new a k) (set row a k)
    closer = record {
      long = length_row made;
      outside = λ n l e. stays n l (λ _. h.outside n l e);
      inside = λ b n l d c. stays n l (λ no-control. ⊎_elim (λ same. absurd (both_ways (m.outline.controls a n) no-control (subst (λ x. m.outline.controls x n ≡ true) same c))) (λ earlier. h.inside b n l earlier c) (done_cases order place b d));
      elsewhere = λ n l e. row_at made n l ∙ cond-false (m.outline.controls a n) _ (value new n) (⊎_elim (λ c. absurd (both_ways (is_some (m.outline.kind n)) e (m.outline_laws.controls_known a n c).1)) (λ x. x) (cases_Bool (m.outline.controls a n))) ∙ h.elsewhere n l e;
      row_long = length-set row a k ∙ h.row_long;
      rows = λ b d. ⊎_elim
          (λ same. subst (λ c. value (set row a k) c ≡ value choices c) (sym same) (get_or-set_same row a k 0 within))
          (λ earlier. get_or-set_other row a b k 0 (λ e. not_yet m order ordered place l (subst (Done order place) e earlier)) ∙ h.rows b earlier)
          (done_cases order place b d);
    }

  is_open_there : (b : Bool) (xs : List (List ℕ × List ℕ)) (p : List ℕ × List ℕ) → b ≡ true → Member p xs → Member p (cond b xs [])
  is_open_there b xs p e h = subst (λ c. Member p (cond c xs [])) (sym e) h

  reached : (left place : ℕ) (new row : List ℕ) → place + left ≡ m.outline.atoms → Toward place new row → Member (t, choices) (atoms_visits m before order place left new row)
  unfolding atoms_visits
  reached zero place new row e h = inl (arrived place (omega arith) new row h)
  reached (suc left) place new row e h =
      let l : place < m.outline.atoms = omega arith in
      let o = opened place l new row h in
      member_joined (λ k. cond (m.acts.opens kind (atom_at order place) k old (value new)) (atoms_visits m before order (place + 1) left (values_made m before new (atom_at order place) k) (set row (atom_at order place) k)) [])
      (below (m.acts.choices kind (atom_at order place))) (value choices (atom_at order place)) (t, choices)
      ((below_exact (m.acts.choices kind (atom_at order place))).complete (value choices (atom_at order place)) (open_there m kind (atom_at order place) (value choices (atom_at order place)) old (value new) o))
      (is_open_there (m.acts.opens kind (atom_at order place) (value choices (atom_at order place)) old (value new)) _ (t, choices) o (reached left (place + 1) (values_made m before new (atom_at order place) (value choices (atom_at order place))) (set row (atom_at order place) (value choices (atom_at order place))) (omega arith) (closer place l new row h)))

  -- the values that t has at external names
  abbrev outer : ℕ → ℕ
  outer n = cond (is_outer m.outline n) (value t n) 0

  given : List ℕ
  given = map outer (below 32)

  top : ℕ → ℕ
  top n = cond (is_outer m.outline n) (m.outline.top n) 0

  given_listed : Member given (values_at m.outline (is_outer m.outline))
  unfolding given top
  given_listed = (ranges_exact (map top (below 32))).complete given (record {
    long = length_row outer ∙ sym (length_row top);
    under = λ n l. let low : n < 32 = subst (λ k. n < k) (length_row top) l in omega (arith, row_at outer n low, row_at top n low, less n);
  })
    where
      less : (n : ℕ) → outer n ≤ cond (is_outer m.outline n) (m.outline.top n) 0
      less n = go (is_outer m.outline n)
        where
          go : (b : Bool) → cond b (value t n) 0 ≤ cond b (m.outline.top n) 0
          go true = (state_parts m.outline t y.state).within n
          go false = omega arith

  start : Toward 0 given (no_choices m)
  unfolding given
  start = record {
    long = length_row outer;
    outside = λ n l e. row_at outer n l ∙ cond-true (is_outer m.outline n) (value t n) 0 e;
    inside = λ a n l d. absurd (not-suc-le-zero d.1);
    elsewhere = λ n l e. row_at outer n l ∙ cond-false (is_outer m.outline n) (value t n) 0 (not_outer (m.outline.kind n) e);
    row_long = length-replicate m.outline.atoms 0;
    rows = λ a d. absurd (not-suc-le-zero d.1);
  }
    where
      not_outer : (k : Option Kind) → is_some k ≡ false → is_external k ≡ false
      not_outer None e = refl
      not_outer (Some x) e = absurd (both_ways true e refl)

  pub complete : Member (t, choices) (visits m before order)
  unfolding visits
  complete =
      member_joined (λ given. atoms_visits m before order 0 m.outline.atoms given (no_choices m)) (values_at m.outline (is_outer m.outline)) given (t, choices)
      given_listed (reached m.outline.atoms 0 given (no_choices m) (zero-add m.outline.atoms) start)
