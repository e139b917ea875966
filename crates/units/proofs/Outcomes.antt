-- Rounds end only in outcomes, and reach every one of them.
use Rattle.std.proofs.Common.{◌≡◌, ℕ, zero, suc, ◌+◌, ◌<◌, ◌≤◌, Bool, true, false, cond, not, ◌&&◌, ◌||◌, eqb, ltb, ◌⊎◌, List, [], ◌∷◌, map, length, set, replicate, is_some, Some, None, Option, sym, refl, ap, ◌∙◌, subst, inl, inr, ⊎_elim, le_refl, arith}
use Rattle.std.proofs.lemmas.List.{length-set, length-replicate, ext_get_or}
use Rattle.std.proofs.lemmas.Bool.{and_from, or_from, both_ways, cases_Bool, cases_eq, cond-true, cond-false, cond_both, eqb-true, eq-eqb, ne_eqb, lt-ltb, le-ltb, not-false, not-true, not_from_true}
use Rattle.composition.specs.laws.Faults.{none_from}
use Rattle.model.specs.Meanings.{Valuation, OutlineFacts, Alike, Meaning}
use Rattle.model.specs.States.{value, yields}
use Rattle.model.specs.Tests.{lowest, count}
use Rattle.units.specs.declared.refusal.Refusal.{Refusal}
use Rattle.model.specs.declared.Kind.{Kind}
use Rattle.model.specs.declared.Kind.TheVariants.{Private, Interface, External}
use Rattle.model.specs.declared.Round.{Round}
use Rattle.model.proofs.Lowest.{clear_lowest}
use Rattle.model.proofs.Unmarked.{unmarked}
use Rattle.model.proofs.States.{state_parts, takes_parts, yields_parts}
use Rattle.theory.specs.Enumerations.{below}
use Rattle.units.specs.Sealing.{owned, is_external, at_lowest, if_so, verdict, ◌else◌}
use Rattle.units.specs.Units.{Phase, idle, standing, in_round, UnitModel, Slip, done, Outcome, refused_or, unless, verdict_of, not_all_held, round_open, wrong_value, standing_state, wrong_slip, kind_of_round, old_state, has_fired, must_wait, fire_refusal_in, as_value, values_made, yet_to_fire, phase_ended, end_if, open_round, fire, end_round}
use Rattle.units.specs.declared.refusal.Refusal.TheVariants.{ChoiceNotOpen, MustWait, NoAtomToFire, NoRoundLeft, NotAllHeld, RoundOpen, WrongSlip, WrongValue}
use Rattle.units.proofs.Evidence.{else_parts, else_from, if_so_parts}
use Rattle.units.specs.Rounds.{Accepted, Follows, EndedInOutcome, RoundsEndOnlyInOutcomes, after_fires, FiresAccepted, next_slip, RoundsReachEveryOutcome}
use Rattle.units.proofs.Beginnings.{Ready, next}
use Rattle.units.proofs.Calls.{PhaseRight}
use Rattle.units.proofs.Fitness.{Keeps, keeps, length_row, row_at}
use Rattle.units.proofs.Lives.{came_good}
use Rattle.units.proofs.Rounds.{waited, fired_other, one_less, outcome}
use Rattle.model.proofs.Counted.{some_counted, none_counted}

-- rounds end in outcomes

follows_from : (m : Meaning) (before : Option (List ℕ)) (t : List ℕ) → yields m (kind_of_round before) (old_state before) t ≡ true → Follows m before t
follows_from m None t h = record { yielded = h }
follows_from m (Some s) t h = record { yielded = h }

follows_parts : (m : Meaning) (before : Option (List ℕ)) (t : List ℕ) → Follows m before t → yields m (kind_of_round before) (old_state before) t ≡ true
follows_parts m None t h = h.yielded
follows_parts m (Some s) t h = h.yielded

-- an accepted call was refused for nothing
accepted_none : {A : Type 0} (f : Option Refusal) (u : UnitModel) (o : Outcome A) → Accepted (refused_or f u o).answer → f ≡ None
accepted_none None u o h = refl
accepted_none (Some f) u o h = absurd h

open_phase : (u : UnitModel) (slip : Slip) → wrong_slip u slip ≡ false → round_open u.phase ≡ true
open_phase u slip h = go (round_open u.phase) refl (not-false _ h)
  where
    go : (b : Bool) → round_open u.phase ≡ b → (b && eqb slip.unit u.number && eqb slip.round u.rounds) ≡ true → round_open u.phase ≡ true
    go true e k = e
    go false e k = absurd (both_ways false refl k)

pub end_in_outcomes : RoundsEndOnlyInOutcomes
end_in_outcomes u h slip accepted =
    let clear : (verdict_of u else if_so WrongSlip (wrong_slip u slip)) ≡ None = accepted_none _ u _ accepted in
    let opened = open_phase u slip (if_so_parts WrongSlip _ (else_parts (verdict_of u) _ clear).1) in
    subst (λ o. EndedInOutcome u o.unit) (sym (through clear)) (go u.phase refl opened (came_good h).phase_right (subst (λ o. Accepted o.answer) (through clear) accepted))
  where
    through : (verdict_of u else if_so WrongSlip (wrong_slip u slip)) ≡ None → end_round u slip ≡ end_if (eqb (yet_to_fire u.meaning u.phase) 0) u
    through e = ap (λ f. refused_or f u (end_if (eqb (yet_to_fire u.meaning u.phase) 0) u)) e

    gone : (b : Bool) → Accepted (end_if b u).answer → b ≡ true
    gone true k = refl
    gone false k = absurd k

    go : (p : Phase) → u.phase ≡ p → round_open p ≡ true → PhaseRight u.meaning u.claims u.phase → Accepted (end_if (eqb (yet_to_fire u.meaning u.phase) 0) u).answer → EndedInOutcome u (end_if (eqb (yet_to_fire u.meaning u.phase) 0) u).unit
    go idle e o right k = absurd (both_ways false refl o)
    go (standing s) e o right k = absurd (both_ways false refl o)
    go (in_round before new fired) e o right k =
        let none : yet_to_fire u.meaning (in_round before new fired) ≡ 0 = subst (λ p. yet_to_fire u.meaning p ≡ 0) e (eqb-true _ 0 (gone _ k)) in
        let mid = subst (PhaseRight u.meaning u.claims) e right in
        subst (λ b. EndedInOutcome u (end_if b u).unit) (sym (gone _ k)) (record {
          state = new;
          stands_now = ap phase_ended e;
          follows = subst (λ q. Follows u.meaning (standing_state q) new) (sym e) (follows_from u.meaning before new (outcome u.meaning before new fired mid.2 none));
        })

-- rounds reach every outcome

kinds : (k : Option Kind) → is_some k ≡ true → (is_external k ≡ true) ⊎ (owned k ≡ true)
kinds None h = absurd (both_ways false refl h)
kinds (Some Private) h = inr refl
kinds (Some Interface) h = inr refl
kinds (Some External) h = inl refl

module _ (m : Meaning) (fit : Keeps m) (before : Option (List ℕ)) (t : List ℕ) (leads : yields m (kind_of_round before) (old_state before) t ≡ true) where
  abbrev o : OutlineFacts
  o = m.outline

  abbrev kind : Round
  kind = kind_of_round before

  abbrev old : Valuation
  old = value (old_state before)

  -- What is given and made so far is what t has: at external names, at those of atoms that have fired, and 0 at what is no
  -- variable.
  record Toward (new : List ℕ) (fired : List Bool) : Type 0 where
    long : length new ≡ 32
    places : length fired ≡ 16
    outside : (n : ℕ) → n < 32 → is_external (o.kind n) ≡ true → value new n ≡ value t n
    inside : (a n : ℕ) → n < 32 → has_fired fired a ≡ true → o.controls a n ≡ true → value new n ≡ value t n
    elsewhere : (n : ℕ) → n < 32 → is_some (o.kind n) ≡ false → value new n ≡ 0

  -- a variable's value is made where its atom, if it has one, has fired
  made_right : (new : List ℕ) (fired : List Bool) → Toward new fired → (n : ℕ) → n < 32 → is_some (o.kind n) ≡ true → ((b : ℕ) → o.controls b n ≡ true → has_fired fired b ≡ true) → value new n ≡ value t n
  made_right new fired h n l there all =
      ⊎_elim (h.outside n l) (λ e. let b = fit.some_controller n e l in h.inside b.0 n l (all b.0 b.1) b.1) (kinds (o.kind n) there)

  zero_in_state : (n : ℕ) → is_some (o.kind n) ≡ false → value t n ≡ 0
  zero_in_state n e =
      let most = (state_parts o t (yields_parts m kind (old_state before) t leads).0).within n in
      let top = m.outline_laws.no_top n (none_from (o.kind n) e) in
      omega arith

  -- where all have fired, t is made
  whole : (new : List ℕ) (fired : List Bool) → Toward new fired → ((a : ℕ) → a < o.atoms → has_fired fired a ≡ true) → new ≡ t
  whole new fired h all =
      let long-t = (state_parts o t (yields_parts m kind (old_state before) t leads).0).long in
      ext_get_or 0 new t (h.long ∙ sym long-t) (λ n l. each n (subst (λ k. n < k) h.long l) (cases_Bool (is_some (o.kind n))))
    where
      each : (n : ℕ) → n < 32 → (is_some (o.kind n) ≡ true) ⊎ (is_some (o.kind n) ≡ false) → value new n ≡ value t n
      each n l (inl e) = made_right new fired h n l e (λ b c. all b (m.outline_laws.controls_known b n c).0)
      each n l (inr e) = h.elsewhere n l e ∙ sym (zero_in_state n e)

  -- a ready atom's choice
  module _ (new : List ℕ) (fired : List Bool) (h : Toward new fired) (r : Ready m fit fired) where
    abbrev a : ℕ
    a = r.atom

    alike : Alike o kind a old (value new) old (value t)
    alike = record {
      awaited = λ n e. let known = (m.outline_laws.awaits_known a n e).1 in made_right new fired h n (m.outline_laws.names n known) known (λ b c. waited m fired a r.ready b n e c);
      read = λ e n g. refl;
    }

    taken : (k : ℕ) × (m.acts.opens kind a k old (value new) ≡ true) × ((n : ℕ) → n < 32 → o.controls a n ≡ true → as_value (m.acts.gives kind a k n old (value new)) ≡ value t n)
    taken =
        let one = (yields_parts m kind (old_state before) t leads).1 a r.there in
        let parts = takes_parts m kind a one.0 old (value t) one.2 in (
          one.0,
          m.choice_laws.opens_by_sight kind a one.0 old (value new) old (value t) alike ∙ parts.opened,
          λ n l c. ap as_value (m.choice_laws.gives_by_sight kind a one.0 n old (value new) old (value t) alike ∙ parts.given n l c),
        )

    abbrev k : ℕ
    k = taken.0

    abbrev made : ℕ → ℕ
    made n = cond (o.controls a n) (as_value (m.acts.gives kind a k n old (value new))) (value new n)

    within : a < length fired
    within = omega (arith, r.there, m.outline_laws.few_atoms, h.places)

    stays : (n : ℕ) → n < 32 → (o.controls a n ≡ false → value new n ≡ value t n) → value (values_made m before new a k) n ≡ value t n
    stays n l f = row_at made n l ∙ cond_both (o.controls a n) (as_value (m.acts.gives kind a k n old (value new))) (value new n) (λ v. v ≡ value t n) (taken.2 n l) f

    closer : Toward (values_made m before new a k) (set fired a true)
    closer = record {
      long = length_row made;
      places = length-set fired a true ∙ h.places;
      outside = λ n l e. stays n l (λ _. h.outside n l e);
      inside = λ b n l f c. stays n l (λ no-control. ⊎_elim (λ same. absurd (both_ways (o.controls a n) no-control (subst (λ x. o.controls x n ≡ true) same c))) (λ apart. h.inside b n l (sym (fired_other fired a within b apart) ∙ f) c) (cases_eq b a));
      elsewhere = λ n l e. row_at made n l ∙ cond-false (o.controls a n) _ (value new n) (⊎_elim (λ c. absurd (both_ways (is_some (o.kind n)) e (m.outline_laws.controls_known a n c).1)) (λ x. x) (cases_Bool (o.controls a n))) ∙ h.elsewhere n l e;
    }

-- calls that are refused for nothing do what they should
module _ {A : Type 0} (f : Option Refusal) (u after : UnitModel) (answer : A) (clear : f ≡ None) where
  unrefused : unless f u after answer ≡ record { unit = after; answer = done answer }
  unrefused = ap (λ g. unless g u after answer) clear

  unrefused_accepted : Accepted (unless f u after answer).answer
  unrefused_accepted = subst (λ r. Accepted r.answer) (sym unrefused) tt

module _ (u : UnitModel) (fine : verdict_of u ≡ None) (before : Option (List ℕ)) (t : List ℕ) (leads : yields u.meaning (kind_of_round before) (old_state before) t ≡ true) where
  abbrev m : Meaning
  m = u.meaning

  fit : Keeps m
  fit = keeps m (else_parts (verdict m) _ fine).0

  abbrev slip : Slip
  slip = next_slip u

  -- the unit in the round
  abbrev in_phase : Phase → UnitModel
  in_phase p = record { meaning = m; number = u.number; rounds = u.rounds + 1; crowded = u.crowded; claims = u.claims; phase = p }

  right_slip : (new : List ℕ) (fired : List Bool) → wrong_slip (in_phase (in_round before new fired)) slip ≡ false
  right_slip new fired = not_from_true _ (and_from _ _ (and_from true _ refl (eq-eqb u.number u.number refl)) (eq-eqb (u.rounds + 1) (u.rounds + 1) refl))

  -- fires that lead to t, with none left to fire
  record Steps (new : List ℕ) (fired : List Bool) : Type 0 where
    steps : List (ℕ × ℕ)
    accepted : FiresAccepted (in_phase (in_round before new fired)) slip steps
    all : List Bool
    reaches : after_fires (in_phase (in_round before new fired)) slip steps ≡ in_phase (in_round before t all)
    none_left : count (λ a. not (has_fired all a)) m.outline.atoms ≡ 0

  no_steps : (new : List ℕ) (fired : List Bool) → Toward m fit before t leads new fired → count (λ a. not (has_fired fired a)) m.outline.atoms ≡ 0 → Steps new fired
  no_steps new fired h none = record {
    steps = [];
    accepted = tt;
    all = fired;
    reaches = ap (λ x. in_phase (in_round before x fired)) (whole m fit before t leads new fired h (λ a l. not-false (has_fired fired a) (none_counted (λ a. not (has_fired fired a)) m.outline.atoms a none l)));
    none_left = none;
  }

  module _ (new : List ℕ) (fired : List Bool) (h : Toward m fit before t leads new fired) (r : Ready m fit fired) where
    abbrev atom : ℕ
    atom = r.atom

    abbrev choice : ℕ
    choice = (taken m fit before t leads new fired h r).0

    abbrev here : UnitModel
    here = in_phase (in_round before new fired)

    abbrev there : Phase
    there = in_round before (values_made m before new atom choice) (set fired atom true)

    fire_clear : (verdict_of here else if_so WrongSlip (wrong_slip here slip) else fire_refusal_in m (in_round before new fired) atom choice) ≡ None
    fire_clear =
        else_from (verdict_of here) _ fine
        (else_from (if_so WrongSlip (wrong_slip here slip)) _ (ap (if_so WrongSlip) (right_slip new fired))
        (else_from (if_so NoAtomToFire (not (ltb atom m.outline.atoms) || has_fired fired atom)) _ (ap (if_so NoAtomToFire) (or_from _ _ (not_from_true _ (lt-ltb atom m.outline.atoms r.there)) r.unfired))
        (else_from (if_so MustWait (must_wait m.outline fired atom)) _ (ap (if_so MustWait) r.ready)
        (ap (if_so ChoiceNotOpen) (not_from_true _ (taken m fit before t leads new fired h r).1)))))

    one_step : Steps (values_made m before new atom choice) (set fired atom true) → Steps new fired
    one_step rest =
        let done-so : fire here slip atom choice ≡ record { unit = in_phase there; answer = done (yet_to_fire m there) } = unrefused _ here (in_phase there) (yet_to_fire m there) fire_clear in
        record {
          steps = (atom, choice) ∷ rest.steps;
          accepted = (unrefused_accepted _ here (in_phase there) (yet_to_fire m there) fire_clear, subst (λ w. FiresAccepted w.unit slip rest.steps) (sym done-so) rest.accepted);
          all = rest.all;
          reaches = ap (λ w. after_fires w.unit slip rest.steps) done-so ∙ rest.reaches;
          none_left = rest.none_left;
        }

  abbrev left : List Bool → ℕ
  left fired = count (λ a. not (has_fired fired a)) m.outline.atoms

  go_on : (fuel : ℕ) (new : List ℕ) (fired : List Bool) → Toward m fit before t leads new fired → left fired ≤ fuel → Steps new fired
  go_on zero new fired h l = no_steps new fired h (omega arith)
  go_on (suc fuel) new fired h l = go (cases_eq (left fired) 0) (go_on fuel)
    where
      go : (left fired ≡ 0) ⊎ (left fired ≡ 0 → ⊥) → ((new : List ℕ) (fired : List Bool) → Toward m fit before t leads new fired → left fired ≤ fuel → Steps new fired) → Steps new fired
      go (inl e) f = no_steps new fired h e
      go (inr e) f =
          let late = some_counted (λ a. not (has_fired fired a)) m.outline.atoms (omega arith) in
          let r = next m fit fired late.0 late.1 (not-true _ late.2) in
          let less = one_less fired r.atom (within m fit before t leads new fired h r) m.outline.atoms r.there r.unfired in
          one_step new fired h r (f _ _ (closer m fit before t leads new fired h r) (omega arith))

  -- the values of external names, and 0 elsewhere
  abbrev outer : ℕ → ℕ
  outer n = cond (is_external (m.outline.kind n)) (value t n) 0

  abbrev given : List ℕ
  given = map outer (below 32)

  begun : Toward m fit before t leads given (replicate 16 false)
  begun = record {
    long = length_row outer;
    places = length-replicate 16 false;
    outside = λ n l e. row_at outer n l ∙ cond-true (is_external (m.outline.kind n)) (value t n) 0 e;
    inside = λ a n l e. absurd (both_ways _ (unmarked 16 a) e);
    elsewhere = λ n l e. row_at outer n l ∙ ap (λ k. cond (is_external k) (value t n) 0) (none_from (m.outline.kind n) e);
  }

  none_wrong : lowest (wrong_value m.outline given) 32 ≡ None
  none_wrong = clear_lowest (wrong_value m.outline given) 32 (λ n l. le-ltb (cond (is_external (m.outline.kind n)) (m.outline.top n) 0) (value given n) (subst (λ v. v ≤ cond (is_external (m.outline.kind n)) (m.outline.top n) 0) (sym (row_at outer n l)) (most n (is_external (m.outline.kind n)))))
    where
      most : (n : ℕ) (b : Bool) → cond b (value t n) 0 ≤ cond b (m.outline.top n) 0
      most n true = (state_parts m.outline t (yields_parts m (kind_of_round before) (old_state before) t leads).0).within n
      most n false = omega arith

  all_steps : Steps given (replicate 16 false)
  all_steps = go_on (left (replicate 16 false)) given (replicate 16 false) begun (le_refl _)

  ends : (fired : List Bool) → left fired ≡ 0 → end_round (in_phase (in_round before t fired)) slip ≡ record { unit = in_phase (standing t); answer = done 0 }
  ends fired none =
      let here = in_phase (in_round before t fired) in
      ap (λ f. refused_or f here (end_if (eqb (left fired) 0) here)) (else_from (verdict_of here) _ fine (ap (if_so WrongSlip) (right_slip t fired))) ∙
      ap (λ b. end_if b here) (eq-eqb (left fired) 0 none)

pub reach_outcomes : RoundsReachEveryOutcome
reach_outcomes u fine all_held closed room t follows =
    let before = standing_state u.phase in
    let leads = follows_parts u.meaning before t follows in
    let first = given u fine before t leads in
    let begin = in_phase u fine before t leads (in_round before first (replicate 16 false)) in
    let slip = next_slip u in
    let clear : (verdict_of u else if_so NotAllHeld (not_all_held u.claims) else if_so RoundOpen (round_open u.phase) else at_lowest WrongValue (lowest (wrong_value u.meaning.outline first) 32) else if_so NoRoundLeft (eqb u.rounds 4294967295)) ≡ None =
    else_from (verdict_of u) _ fine
    (else_from (if_so NotAllHeld (not_all_held u.claims)) _ (ap (if_so NotAllHeld) all_held)
    (else_from (if_so RoundOpen (round_open u.phase)) _ (ap (if_so RoundOpen) closed)
    (else_from (at_lowest WrongValue (lowest (wrong_value u.meaning.outline first) 32)) _ (ap (at_lowest WrongValue) (none_wrong u fine before t leads))
    (ap (if_so NoRoundLeft) (ne_eqb u.rounds 4294967295 (omega arith)))))) in
    let opened : open_round u first ≡ record { unit = begin; answer = done slip } = unrefused _ u begin slip clear in
    let s = all_steps u fine before t leads in
    let last : after_fires (open_round u first).unit slip s.steps ≡ in_phase u fine before t leads (in_round before t s.all) = ap (λ w. after_fires w.unit slip s.steps) opened ∙ s.reaches in
    let end = ap (λ w. end_round w slip) last ∙ ends u fine before t leads s.all s.none_left in
    record {
      given = first;
      long = length_row (outer u fine before t leads);
      opened = ap (λ w. w.answer) opened;
      steps = s.steps;
      fired = subst (λ w. FiresAccepted w.unit slip s.steps) (sym opened) s.accepted;
      ended = subst (λ w. Accepted w.answer) (sym end) tt;
      stands_now = ap (λ w. w.unit.phase) end;
    }
