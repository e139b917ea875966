-- Each visit is an outcome of the round.
use Rattle.std.proofs.Common.{◌≡◌, ℕ, zero, suc, ◌+◌, ◌-◌, ◌<◌, ◌≤◌, Bool, true, false, cond, List, [], map, length, set, pos, Option, sym, refl, ap, ◌∙◌, subst, inl, inr, ⊎_elim, not-suc-le-zero, le_refl, zero-add, arith}
use Rattle.std.proofs.lemmas.List.{length-set, length-replicate, length-map, get_or-map, get_or-set_same, get_or-set_other}
use Rattle.std.proofs.lemmas.Bool.{both_ways, cases_Bool, cases_lt, cond-true, cond-false, cond_both}
use Rattle.model.specs.Meanings.{Valuation, Alike, Meaning}
use Rattle.model.specs.States.{value, takes}
use Rattle.model.specs.declared.Round.{Round}
use Rattle.model.proofs.Bounded.{every_decides}
use Rattle.model.proofs.States.{StateOf, state_parts, state_from, takes_parts, takes_from}
use Rattle.sealing.specs.Orders.{atom_at, AtomsInOrder}
use Rattle.theory.specs.Enumerations.{below, Within}
use Rattle.theory.specs.Members.{Member}
use Rattle.theory.proofs.Enumerations.{ranges_exact, length_below}
use Rattle.theory.proofs.Members.{joined_from}
use Rattle.units.specs.Promises.{Yielding}
use Rattle.units.specs.Sealing.{values_at}
use Rattle.units.specs.Units.{kind_of_round, old_state, as_value, values_made}
use Rattle.units.proofs.Fitness.{InRange, Keeps, length_row, row_at}
use Rattle.units.proofs.Listed.{below_at}
use Rattle.evidence.proofs.Places.{Done, done_cases, done_all, there, not_yet, waits, settled}
use Rattle.evidence.proofs.Visits.{atoms_visits, visits, no_choices, is_outer}

-- a choice that is open is there
pub open_there : (m : Meaning) (r : Round) (a k : ℕ) (old new : Valuation) → m.acts.opens r a k old new ≡ true → k < m.acts.choices r a
open_there m r a k old new h = ⊎_elim (λ l. l) (λ l. absurd (both_ways (m.acts.opens r a k old new) (m.choice_laws.absent_closed r a k old new l) h)) (cases_lt k (m.acts.choices r a))

module _ (m : Meaning) (keeps : Keeps m) (before : Option (List ℕ)) (in-old : InRange m.outline (value (old_state before))) (order : List ℕ) (ordered : AtomsInOrder m.outline order) where
  abbrev kind : Round
  kind = kind_of_round before

  abbrev old : Valuation
  old = value (old_state before)

  -- the values given and made are a state of the module, and each atom that is done took its choice
  pub record Partial (place : ℕ) (new row : List ℕ) : Type 0 where
    pub state : StateOf m.outline new
    pub long : length row ≡ m.outline.atoms
    pub took : (a : ℕ) → Done order place a → takes m kind a (value row a) old (value new) ≡ true

  module _ (place : ℕ) (l : place < m.outline.atoms) (new row : List ℕ) (partial : Partial place new row) (k : ℕ) (opened : m.acts.opens kind (atom_at order place) k old (value new) ≡ true) where
    abbrev a : ℕ
    a = atom_at order place

    abbrev gift : ℕ → ℕ
    gift n = as_value (m.acts.gives kind a k n old (value new))

    abbrev made : ℕ → ℕ
    made n = cond (m.outline.controls a n) (gift n) (value new n)

    abbrev after : List ℕ
    after = values_made m before new a k

    kept : (n : ℕ) → n < 32 → m.outline.controls a n ≡ false → value new n ≡ value after n
    kept n l e = sym (row_at made n l ∙ cond-false (m.outline.controls a n) (gift n) (value new n) e)

    -- an atom that awaits only atoms that are done sees what it saw
    same_sight : (b : ℕ) → ((c n : ℕ) → m.outline.awaits b n ≡ true → m.outline.controls c n ≡ true → Done order place c) → Alike m.outline kind b old (value after) old (value new)
    same_sight b all = record {
      awaited = λ n h. sym (kept n (m.outline_laws.names n (m.outline_laws.awaits_known b n h).1) (⊎_elim (λ c. absurd (not_yet m order ordered place l (all a n h c))) (λ e. e) (cases_Bool (m.outline.controls a n))));
      read = λ e n h. refl;
    }

    given : (n : ℕ) → m.outline.controls a n ≡ true → (m.acts.gives kind a k n old (value new) ≡ pos (gift n)) × (gift n ≤ m.outline.top n)
    given n c =
        let x = keeps.given_in_range kind a k n old (value new) (there m order ordered place l) in-old partial.state.within opened c in
        let same : gift n ≡ x.0 = ap as_value x.1 in
        (x.1 ∙ ap pos (sym same), subst (λ v. v ≤ m.outline.top n) (sym same) x.2)

    took_now : takes m kind a k old (value after) ≡ true
    took_now =
        let alike = same_sight a (waits m order ordered place l) in
        takes_from m kind a k old (value after) (record {
          opened = m.choice_laws.opens_by_sight kind a k old (value after) old (value new) alike ∙ opened;
          given = λ n l c. m.choice_laws.gives_by_sight kind a k n old (value after) old (value new) alike ∙ (given n c).0 ∙ ap pos (sym (row_at made n l ∙ cond-true (m.outline.controls a n) (gift n) (value new n) c));
        })

    took_before : (b : ℕ) → Done order place b → takes m kind b (value row b) old (value after) ≡ true
    took_before b h =
        let alike = same_sight b (λ c n. settled m order ordered place b c n (omega arith) h) in
        let parts = takes_parts m kind b (value row b) old (value new) (partial.took b h) in
        takes_from m kind b (value row b) old (value after) (record {
          opened = m.choice_laws.opens_by_sight kind b (value row b) old (value after) old (value new) alike ∙ parts.opened;
          given = λ n l' c. m.choice_laws.gives_by_sight kind b (value row b) n old (value after) old (value new) alike ∙ parts.given n l' c
              ∙ ap pos (kept n l' (⊎_elim (λ d. absurd (apart b h (keeps.one_controller b a n c d))) (λ e. e) (cases_Bool (m.outline.controls a n))));
        })
      where
        apart : (b : ℕ) → Done order place b → b ≡ a → ⊥
        apart b h e = not_yet m order ordered place l (subst (Done order place) e h)

    within : a < length row
    within = omega (arith, there m order ordered place l, partial.long)

    pub step : Partial (place + 1) after (set row a k)
    step = record {
      state = state_parts m.outline after (state_from m.outline after (length_row made) (λ n l. subst (λ v. v ≤ m.outline.top n) (sym (row_at made n l)) (in_range n)));
      long = length-set row a k ∙ partial.long;
      took = λ b h. ⊎_elim
          (λ e. subst (λ c. takes m kind c (value (set row a k) c) old (value after) ≡ true) (sym e) (subst (λ j. takes m kind a j old (value after) ≡ true) (sym (get_or-set_same row a k 0 within)) took_now))
          (λ d. subst (λ j. takes m kind b j old (value after) ≡ true) (sym (get_or-set_other row a b k 0 (λ e. not_yet m order ordered place l (subst (Done order place) e d)))) (took_before b d))
          (done_cases order place b h);
    }
      where
        in_range : (n : ℕ) → made n ≤ m.outline.top n
        in_range n = cond_both (m.outline.controls a n) (gift n) (value new n) (λ v. v ≤ m.outline.top n) (λ c. (given n c).1) (λ _. partial.state.within n)

  most_choice : (a : ℕ) → a < m.outline.atoms → value (map (λ a. m.acts.choices kind a - 1) (below m.outline.atoms)) a ≡ m.acts.choices kind a - 1
  most_choice a l =
      get_or-map (λ a. m.acts.choices kind a - 1) (below m.outline.atoms) a 0 0 (subst (λ n. a < n) (sym (length_below m.outline.atoms)) l) ∙ ap (λ a. m.acts.choices kind a - 1) (below_at m.outline.atoms a l)

  rows_long : length (map (λ a. m.acts.choices kind a - 1) (below m.outline.atoms)) ≡ m.outline.atoms
  rows_long = length-map (below m.outline.atoms) (λ a. m.acts.choices kind a - 1) ∙ length_below m.outline.atoms

  -- where all atoms are done, the state and the choices are an outcome
  whole : (place : ℕ) → place ≡ m.outline.atoms → (new row : List ℕ) → Partial place new row → Yielding m kind (old_state before) (new, row)
  whole place all new row p = record {
    state = state_from m.outline new p.state.long (λ n _. p.state.within n);
    row = (ranges_exact (map (λ a. m.acts.choices kind a - 1) (below m.outline.atoms))).complete row (record {
      long = p.long ∙ sym rows_long;
      under = λ a l. let low : a < m.outline.atoms = subst (λ n. a < n) rows_long l in
          let few = open_there m kind a (value row a) old (value new) (takes_parts m kind a (value row a) old (value new) (took a low)).opened in
          let most = most_choice a low in omega arith;
    });
    led = (every_decides (λ a. takes m kind a (value row a) old (value new)) m.outline.atoms).1 took;
  }
    where
      took : (a : ℕ) → a < m.outline.atoms → takes m kind a (value row a) old (value new) ≡ true
      took a l = p.took a (subst (λ n. Done order n a) (sym all) (done_all m order ordered a l))

  -- the choices of one atom
  pub under_open : (b : Bool) (xs : List (List ℕ × List ℕ)) (p : List ℕ × List ℕ) → Member p (cond b xs []) → (b ≡ true) × Member p xs
  under_open true xs p h = (refl, h)
  under_open false xs p h = absurd h

  visited : (left place : ℕ) (new row : List ℕ) (p : List ℕ × List ℕ) → place + left ≡ m.outline.atoms → Partial place new row → Member p (atoms_visits m before order place left new row) → Yielding m kind (old_state before) p
  unfolding atoms_visits
  visited zero place new row p e h (inl same) = subst (Yielding m kind (old_state before)) same (whole place (omega arith) new row h)
  visited zero place new row p e h (inr k) = absurd k
  visited (suc left) place new row p e h k =
      let (c, _, member) = joined_from (λ k. cond (m.acts.opens kind (atom_at order place) k old (value new)) (atoms_visits m before order (place + 1) left (values_made m before new (atom_at order place) k) (set row (atom_at order place) k)) []) (below (m.acts.choices kind (atom_at order place))) p k in
      let (opened, under) = under_open (m.acts.opens kind (atom_at order place) c old (value new)) _ p member in
      visited left (place + 1) (values_made m before new (atom_at order place) c) (set row (atom_at order place) c) p (omega arith) (step place (omega arith) new row h c opened) under

  -- values at external names to begin with
  pub given_state : (given : List ℕ) → Member given (values_at m.outline (is_outer m.outline)) → StateOf m.outline given
  given_state given h = state_parts m.outline given (state_from m.outline given (w.long ∙ length_row top) (λ n l. omega (arith, w.under n (subst (λ k. n < k) (sym (length_row top)) l), row_at top n l, most n)))
    where
      top : ℕ → ℕ
      top n = cond (is_outer m.outline n) (m.outline.top n) 0

      w : Within (map top (below 32)) given
      w = (ranges_exact (map top (below 32))).sound given h

      most : (n : ℕ) → top n ≤ m.outline.top n
      most n = cond_both (is_outer m.outline n) (m.outline.top n) 0 (λ v. v ≤ m.outline.top n) (λ _. le_refl (m.outline.top n)) (λ _. omega arith)

  pub begin : (given : List ℕ) → Member given (values_at m.outline (is_outer m.outline)) → Partial 0 given (no_choices m)
  begin given h = record { state = given_state given h; long = length-replicate m.outline.atoms 0; took = λ a d. absurd (not-suc-le-zero d.1) }

  pub sound : (p : List ℕ × List ℕ) → Member p (visits m before order) → Yielding m kind (old_state before) p
  unfolding visits
  sound p h =
      let (given, listed, member) = joined_from (λ given. atoms_visits m before order 0 m.outline.atoms given (no_choices m)) (values_at m.outline (is_outer m.outline)) p h in
      visited m.outline.atoms 0 given (no_choices m) p (zero-add m.outline.atoms) (begin given listed) member
