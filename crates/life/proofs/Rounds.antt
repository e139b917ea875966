-- The calls of rounds follow the rules, and the rules leave no choice.
use Rattle.std.proofs.Common.{◌≡◌, ℕ, zero, suc, ◌+◌, ◌<◌, ◌≤◌, Bool, true, false, cond, not, ◌&&◌, ◌||◌, eqb, ltb, ◌⊎◌, ◌↔◌, List, [], ◌∷◌, length, set, pos, Some, None, Option, sym, refl, ap, ◌∙◌, subst, inl, inr, ⊎_elim, arith}
use Rattle.std.proofs.lemmas.List.{ext_get_or}
use Rattle.std.proofs.lemmas.Bool.{and_from, and_parts, both_ways, cases_Bool, cases_eq, or_cases, or_from, or_left, or_parts, or_right, not-false, not-true, not_from_true, eqb-true, eq-eqb, ne_eqb, ltb-false, ltb-true, lt-ltb, le-ltb, cond-true, cond-false}
use Rattle.std.specs.List.{slice_get}
use Rattle.model.specs.Meanings.{Meaning}
use Rattle.model.specs.States.{value, yields}
use Rattle.model.specs.Tests.{some, lowest, count}
use Rattle.model.specs.declared.Kind.{Kind}
use Rattle.model.specs.declared.Kind.TheVariants.{Private, Interface, External}
use Rattle.model.proofs.Bounded.{some_decides}
use Rattle.model.proofs.Counted.{some_counted, none_counted}
use Rattle.model.proofs.Lowest.{lowest_clear, clear_lowest}
use Rattle.theory.specs.Members.{Member}
use Rattle.units.specs.Models.{Mark, open_mark, held, broken, Claim, Phase, idle, standing, in_round, UnitModel, Slip, kind_of_round, old_state}
use Rattle.units.specs.Sealing.{at_lowest, if_so, is_external, ◌else◌}
use Rattle.units.specs.Units.{refused_or, verdict_of, with_phase, is_held, not_all_held, round_open, wrong_value, open_refusal, with_round, wrong_slip, has_fired, must_wait, fire_refusal_in, fire_refusal, as_value, values_made, phase_fired, yet_to_fire, back_to, phase_withdrawn, phase_ended, end_if, open_round, fire, end_round}
use Rattle.units.specs.declared.refusal.Refusal.{Refusal}
use Rattle.units.specs.declared.refusal.Refusal.TheVariants.{NotAllHeld, RoundOpen, WrongValue, WrongSlip, NoRoundLeft, NoAtomToFire, MustWait, ChoiceNotOpen, AtomsMissing}
use Rattle.units.proofs.Calls.{PhaseRight, Good, ReachedBefore, old_in_range}
use Rattle.units.proofs.Evidence.{else_parts, else_from, at_lowest_parts, if_so_parts}
use Rattle.units.proofs.Fitness.{Keeps, keeps, length_row, row_at}
use Rattle.units.proofs.Listed.{any_parts, none_passes}
use Rattle.units.proofs.Rounds.{waited, outcome}
use Rattle.units.proofs.Theory.{reached_state}
use Rattle.units.specs.Sealing as sealing
use Rattle.life.specs.Fitness.{IsFit}
use Rattle.life.specs.Promises.{Is}
use Rattle.life.specs.Reasons.{Because, AtLowest, ◌or-else◌}
use Rattle.life.specs.Rules.{HasRound, AllHeld, MayBeGiven, RoundOpened, OpenRefused, OpenRound, HasFired, MayFire, Made, Fired, FireRefusedIn, FireRefused, RoundEnded, back_at, EndedTooEarly, EndRefused, moved_to, open_call, fire_call, end_call, Reply, number_reply, slip_reply, refusal_reply, Allows}
use Rattle.life.specs.Subject.{RowAfter}
use Rattle.life.proofs.Bridge.{initial_from, next_from}
use Rattle.life.proofs.Fitness.{fit_from, fit_none, unit_judged}
use Rattle.life.proofs.Judging.{Judged, none≢some, judged_else, judged_if, judged_lowest}
use Rattle.life.proofs.Replies.{Through, number_call, slip_call, number≢slip, number≢refusal, slip≢refusal}

-- open

pub member_at_index : {X : Type 0} (xs : List X) (i : ℕ) (x : X) → slice_get xs i ≡ Some x → Member x xs
member_at_index [] i x e = absurd (none≢some x e)
member_at_index (y ∷ ys) zero x e = inl cc
member_at_index (y ∷ ys) (suc i) x e = inr (member_at_index ys i x e)

pub index_of_member : {X : Type 0} (xs : List X) (x : X) → Member x xs → (i : ℕ) × (slice_get xs i ≡ Some x)
index_of_member [] x h = absurd h
index_of_member (y ∷ ys) x (inl e) = (0, ap Some e)
index_of_member (y ∷ ys) x (inr h) = let k = index_of_member ys x h in (suc k.0, k.1)

held_from : (mark : Mark) → is_held mark ≡ true → mark ≡ held
held_from open_mark h = absurd (both_ways false refl h)
held_from held h = refl
held_from broken h = absurd (both_ways false refl h)

unheld_from : (cs : List Claim) → not_all_held cs ≡ true → (cs ≡ []) ⊎ (AllHeld cs → ⊥)
unheld_from [] h = inl refl
unheld_from (c ∷ cs) h = inr (λ all.
    let k = any_parts (λ (d : Claim). not (is_held d.mark)) (c ∷ cs) h in
    let i = index_of_member (c ∷ cs) k.0 k.1 in
    both_ways (is_held k.0.mark) (not-true _ k.2) (ap is_held (all i.0 k.0 i.1)))

all_held_from : (cs : List Claim) → not_all_held cs ≡ false → (cs ≡ [] → ⊥) × AllHeld cs
all_held_from [] h = absurd (both_ways true h refl)
all_held_from (c ∷ cs) h = (
  λ e. let z : ◌≡◌ {A = ℕ} 0 1 = cc in omega arith,
  λ i d e. held_from d.mark (not-false _ (none_passes (λ (d : Claim). not (is_held d.mark)) (c ∷ cs) d h (member_at_index (c ∷ cs) i d e))),
)

from_unheld : (cs : List Claim) → (cs ≡ []) ⊎ (AllHeld cs → ⊥) → not_all_held cs ≡ true
from_unheld cs h = ⊎_elim (λ t. t) (λ f. let all = all_held_from cs f in absurd (⊎_elim (λ e. all.0 e) (λ ne. ne all.1) h)) (cases_Bool (not_all_held cs))

round_from : (u : UnitModel) → round_open u.phase ≡ true → HasRound u
round_from u h = go u.phase refl h
  where
    go : (p : Phase) → u.phase ≡ p → round_open p ≡ true → HasRound u
    go idle e h = absurd (both_ways false refl h)
    go (standing s) e h = absurd (both_ways false refl h)
    go (in_round before new fired) e h = record { before = before; new = new; fired = fired; open_now = e }

external_is : (k : Option Kind) → is_external k ≡ true → k ≡ Some External
external_is None h = absurd (both_ways false refl h)
external_is (Some Private) h = absurd (both_ways false refl h)
external_is (Some Interface) h = absurd (both_ways false refl h)
external_is (Some External) h = refl

module _ (m : Meaning) (given : List ℕ) (n : ℕ) where
  abbrev most : Bool → ℕ
  most b = cond b (m.outline.top n) 0

  may_from : wrong_value m.outline given n ≡ false → MayBeGiven m given n
  may_from h =
      let low : value given n ≤ most (is_external (m.outline.kind n)) = ltb-false (most (is_external (m.outline.kind n))) (value given n) h in (
        λ e. subst (λ b. value given n ≤ most b) (ap is_external e) low,
        λ ne. let f : is_external (m.outline.kind n) ≡ false = ⊎_elim (λ t. absurd (ne (external_is (m.outline.kind n) t))) (λ f. f) (cases_Bool (is_external (m.outline.kind n))) in let none : value given n ≤ 0 = subst (λ b. value given n ≤ most b) f low in omega arith,
      )

  may_to : MayBeGiven m given n → wrong_value m.outline given n ≡ false
  may_to h = le-ltb (most (is_external (m.outline.kind n))) (value given n) (⊎_elim
      (λ t. subst (λ b. value given n ≤ most b) (sym t) (h.0 (external_is (m.outline.kind n) t)))
      (λ f. subst (λ b. value given n ≤ most b) (sym f) (let none = h.1 (λ e. both_ways (is_external (m.outline.kind n)) f (ap is_external e)) in omega arith))
      (cases_Bool (is_external (m.outline.kind n))))

module _ (u : UnitModel) (given : List ℕ) where
  abbrev its_slip : Slip
  its_slip = record { unit = u.number; round = u.rounds + 1 }

  values_judged : Judged (at_lowest WrongValue (lowest (wrong_value u.meaning.outline given) 32)) (AtLowest (λ n. MayBeGiven u.meaning given n → ⊥) 32 WrongValue)
  values_judged = judged_lowest (wrong_value u.meaning.outline given) (λ n. MayBeGiven u.meaning given n → ⊥) 32 WrongValue
      (λ n _ h may. both_ways (wrong_value u.meaning.outline given n) (may_to u.meaning given n may) h)
      (λ n _ ne. ⊎_elim (λ t. t) (λ f. absurd (ne (may_from u.meaning given n f))) (cases_Bool (wrong_value u.meaning.outline given n)))

  open_judged : Judged (open_refusal u given) (OpenRefused u given)
  open_judged =
      judged_else (verdict_of u) _ _ _ (unit_judged u) (λ _.
      judged_else (if_so NotAllHeld (not_all_held u.claims)) _ _ _ (judged_if (not_all_held u.claims) ((u.claims ≡ []) ⊎ (AllHeld u.claims → ⊥)) NotAllHeld (unheld_from u.claims) (from_unheld u.claims)) (λ _.
      judged_else (if_so RoundOpen (round_open u.phase)) _ _ _ (judged_if (round_open u.phase) (HasRound u) RoundOpen (round_from u) (λ h. ap round_open h.open_now)) (λ _.
      judged_else (at_lowest WrongValue (lowest (wrong_value u.meaning.outline given) 32)) _ _ _ values_judged (λ _.
      judged_if (eqb u.rounds 4294967295) (u.rounds ≡ 4294967295) NoRoundLeft (eqb-true u.rounds 4294967295) (eq-eqb u.rounds 4294967295)))))

  open_through : (s : Slip) (w : UnitModel) → RoundOpened u given s w → Through (open_refusal u given) (with_round u given) its_slip s w
  open_through s w ok = record {
    clear =
        else_from (verdict_of u) _ (fit_none u ok.fit)
        (else_from (if_so NotAllHeld (not_all_held u.claims)) _ (ap (if_so NotAllHeld) (⊎_elim (λ t. absurd (⊎_elim ok.claimed (λ ne. ne ok.all_held) (unheld_from u.claims t))) (λ f. f) (cases_Bool (not_all_held u.claims))))
        (else_from (if_so RoundOpen (round_open u.phase)) _ (ap (if_so RoundOpen) (⊎_elim (λ t. absurd (ok.none_open (round_from u t))) (λ f. f) (cases_Bool (round_open u.phase))))
        (else_from (at_lowest WrongValue (lowest (wrong_value u.meaning.outline given) 32)) _ (ap (at_lowest WrongValue) (clear_lowest (wrong_value u.meaning.outline given) 32 (λ n l. may_to u.meaning given n (ok.given_right n l))))
        (ap (if_so NoRoundLeft) (ne_eqb u.rounds 4294967295 ok.rounds_left)))));
    same = ok.number;
    left = ok.after;
  }

  open_made : open_refusal u given ≡ None → RoundOpened u given its_slip (with_round u given)
  open_made h =
      let one = else_parts (verdict_of u) _ h in
      let two = else_parts (if_so NotAllHeld (not_all_held u.claims)) _ one.1 in
      let three = else_parts (if_so RoundOpen (round_open u.phase)) _ two.1 in
      let four = else_parts (at_lowest WrongValue (lowest (wrong_value u.meaning.outline given) 32)) _ three.1 in
      let held-now = all_held_from u.claims (if_so_parts NotAllHeld _ two.0) in
      record {
        fit = fit_from u one.0;
        claimed = held-now.0;
        all_held = held-now.1;
        none_open = λ r. both_ways (round_open u.phase) (if_so_parts RoundOpen _ three.0) (ap round_open r.open_now);
        given_right = λ n l. may_from u.meaning given n (lowest_clear (wrong_value u.meaning.outline given) 32 (at_lowest_parts WrongValue _ four.0) n l);
        rounds_left = λ e. both_ways (eqb u.rounds 4294967295) (if_so_parts NoRoundLeft _ four.1) (eq-eqb u.rounds 4294967295 e);
        number = refl;
        after = refl;
      }

  pub open_rules : length given ≡ 32 → (reply : Reply) (w : UnitModel) → Allows u (open_call given) reply w ↔ Is slip_reply (open_round u given) reply w
  open_rules long (number_reply n) w = slip_call (open_refusal u given) u (with_round u given) its_slip (RoundOpened u given) (OpenRefused u given) open_judged open_through open_made (number_reply n) w
  open_rules long (slip_reply s) w = let c = slip_call (open_refusal u given) u (with_round u given) its_slip (RoundOpened u given) (OpenRefused u given) open_judged open_through open_made (slip_reply s) w in (λ x. c.0 x.1, λ h. (long, c.1 h))
  open_rules long (refusal_reply r) w = let c = slip_call (open_refusal u given) u (with_round u given) its_slip (RoundOpened u given) (OpenRefused u given) open_judged open_through open_made (refusal_reply r) w in (λ x. c.0 x.1, λ h. (long, c.1 h))

-- fire

module _ (u : UnitModel) (slip : Slip) where
  round_slip : wrong_slip u slip ≡ false → OpenRound u slip
  round_slip h =
      let one = and_parts (round_open u.phase && eqb slip.unit u.number) (eqb slip.round u.rounds) (not-false _ h) in
      let two = and_parts (round_open u.phase) (eqb slip.unit u.number) one.0 in
      let r = round_from u two.0 in
      record { before = r.before; new = r.new; fired = r.fired; open_now = r.open_now; unit = eqb-true slip.unit u.number two.1; round = eqb-true slip.round u.rounds one.1 }

  slip_right : OpenRound u slip → wrong_slip u slip ≡ false
  slip_right r = not_from_true _ (and_from _ _ (and_from _ _ (ap round_open r.open_now) (eq-eqb slip.unit u.number r.unit)) (eq-eqb slip.round u.rounds r.round))

  slip_judged : Judged (if_so WrongSlip (wrong_slip u slip)) (Because (OpenRound u slip → ⊥) WrongSlip)
  slip_judged = judged_if (wrong_slip u slip) (OpenRound u slip → ⊥) WrongSlip
      (λ h r. both_ways (wrong_slip u slip) (slip_right r) h)
      (λ ne. ⊎_elim (λ t. t) (λ f. absurd (ne (round_slip f))) (cases_Bool (wrong_slip u slip)))

module _ (m : Meaning) (fired : List Bool) (a : ℕ) where
  may_fire : must_wait m.outline fired a ≡ false → MayFire m fired a
  may_fire h n b w c = waited m fired a h b n w c

  need_not_wait : MayFire m fired a → must_wait m.outline fired a ≡ false
  need_not_wait may = ⊎_elim (λ t. absurd (late t)) (λ f. f) (cases_Bool (must_wait m.outline fired a))
    where
      late : must_wait m.outline fired a ≡ true → ⊥
      late t =
          let one = (some_decides (λ n. m.outline.awaits a n && some (λ b. m.outline.controls b n && not (has_fired fired b)) m.outline.atoms) 32).0 t in
          let n = one.0 in
          let both = and_parts (m.outline.awaits a n) (some (λ b. m.outline.controls b n && not (has_fired fired b)) m.outline.atoms) one.2 in
          let two = (some_decides (λ b. m.outline.controls b n && not (has_fired fired b)) m.outline.atoms).0 both.1 in
          let parts = and_parts (m.outline.controls two.0 n) (not (has_fired fired two.0)) two.2 in
          both_ways (has_fired fired two.0) (not-true _ parts.1) (may n two.0 both.0 parts.0)

  gone_from : (not (ltb a m.outline.atoms) || has_fired fired a) ≡ true → (m.outline.atoms ≤ a) ⊎ HasFired fired a
  gone_from h = ⊎_elim (λ e. inl (ltb-false a m.outline.atoms (not-true _ e))) inr (or_cases (not (ltb a m.outline.atoms)) (has_fired fired a) h)

  from_gone : (m.outline.atoms ≤ a) ⊎ HasFired fired a → (not (ltb a m.outline.atoms) || has_fired fired a) ≡ true
  from_gone h = ⊎_elim (λ l. or_left _ _ (ap not (le-ltb a m.outline.atoms l))) (λ e. or_right _ _ e) h

module _ (m : Meaning) (before : Option (List ℕ)) (new : List ℕ) (a k : ℕ) where
  abbrev made_at : ℕ → ℕ
  made_at n = cond (m.outline.controls a n) (as_value (m.acts.gives (kind_of_round before) a k n (value (old_state before)) (value new))) (value new n)

  made_is : (made : List ℕ) → Made m before new a k made → made ≡ values_made m before new a k
  made_is made h = ext_get_or 0 made (values_made m before new a k) (h.long ∙ sym (length_row made_at)) (λ n l. each n (subst (λ x. n < x) h.long l) (cases_Bool (m.outline.controls a n)))
    where
      each : (n : ℕ) → n < 32 → (m.outline.controls a n ≡ true) ⊎ (m.outline.controls a n ≡ false) → value made n ≡ value (values_made m before new a k) n
      each n l (inl c) = ap as_value (sym (h.given n l c)) ∙ sym (row_at made_at n l ∙ cond-true (m.outline.controls a n) _ (value new n) c)
      each n l (inr c) = h.others n l c ∙ sym (row_at made_at n l ∙ cond-false (m.outline.controls a n) _ (value new n) c)

  makes : ((n : ℕ) → m.outline.controls a n ≡ true → (x : ℕ) × (m.acts.gives (kind_of_round before) a k n (value (old_state before)) (value new) ≡ pos x) × (x ≤ m.outline.top n)) → Made m before new a k (values_made m before new a k)
  makes given = record {
    long = length_row made_at;
    given = λ n l c. let g = given n c in g.1 ∙ ap pos (sym (row_at made_at n l ∙ cond-true (m.outline.controls a n) _ (value new n) c ∙ ap as_value g.1));
    others = λ n l c. row_at made_at n l ∙ cond-false (m.outline.controls a n) _ (value new n) c;
  }

module _ (u : UnitModel) (slip : Slip) (a k : ℕ) where
  abbrev m : Meaning
  m = u.meaning

  abbrev opens_in : Option (List ℕ) → List ℕ → Bool
  opens_in before new = m.acts.opens (kind_of_round before) a k (value (old_state before)) (value new)

  inside_judged : (before : Option (List ℕ)) (new : List ℕ) (fired : List Bool) → Judged (fire_refusal_in m (in_round before new fired) a k)
      (Because ((m.outline.atoms ≤ a) ⊎ HasFired fired a) NoAtomToFire or-else Because (MayFire m fired a → ⊥) MustWait or-else Because (opens_in before new ≡ false) ChoiceNotOpen)
  inside_judged before new fired =
      judged_else (if_so NoAtomToFire (not (ltb a m.outline.atoms) || has_fired fired a)) _ _ _ (judged_if (not (ltb a m.outline.atoms) || has_fired fired a) ((m.outline.atoms ≤ a) ⊎ HasFired fired a) NoAtomToFire (gone_from m fired a) (from_gone m fired a)) (λ _.
      judged_else (if_so MustWait (must_wait m.outline fired a)) _ _ _ (judged_if (must_wait m.outline fired a) (MayFire m fired a → ⊥) MustWait (λ h may. both_ways _ (need_not_wait m fired a may) h) (λ ne. ⊎_elim (λ t. t) (λ f. absurd (ne (may_fire m fired a f))) (cases_Bool (must_wait m.outline fired a)))) (λ _.
      judged_if (not (opens_in before new)) (opens_in before new ≡ false) ChoiceNotOpen (λ h. not-true _ h) (λ h. ap not h)))

  in_judged : OpenRound u slip → Judged (fire_refusal_in m u.phase a k) (FireRefusedIn u slip a k)
  in_judged o = record {
    there = λ r h. record { round = o; reason = (inside_judged o.before o.new o.fired).there r (subst (λ p. fire_refusal_in m p a k ≡ Some r) o.open_now h) };
    back = λ r h. subst (λ p. fire_refusal_in m p a k ≡ Some r) (sym h.round.open_now) ((inside_judged h.round.before h.round.new h.round.fired).back r h.reason);
  }

  fire_judged : Judged (fire_refusal u slip a k) (FireRefused u slip a k)
  fire_judged =
      judged_else (verdict_of u) _ _ _ (unit_judged u) (λ _.
      judged_else (if_so WrongSlip (wrong_slip u slip)) _ _ _ (slip_judged u slip) (λ fine.
      in_judged (round_slip u slip (if_so_parts WrongSlip _ fine))))

  abbrev fired_unit : Phase → UnitModel
  fired_unit p = with_phase u (phase_fired m p a k)

  abbrev left_after : Phase → ℕ
  left_after p = yet_to_fire m (phase_fired m p a k)

  fire_through : (n : ℕ) (w : UnitModel) → Fired u slip a k n w → Through (fire_refusal u slip a k) (fired_unit u.phase) (left_after u.phase) n w
  fire_through n w ok =
      let o = ok.round in
      let none : has_fired o.fired a ≡ false = ⊎_elim (λ t. absurd (ok.unfired t)) (λ f. f) (cases_Bool (has_fired o.fired a)) in
      let made = made_is m o.before o.new a k ok.made ok.makes in
      record {
        clear =
            else_from (verdict_of u) _ (fit_none u ok.fit)
            (else_from (if_so WrongSlip (wrong_slip u slip)) _ (ap (if_so WrongSlip) (slip_right u slip o))
            (subst (λ p. fire_refusal_in m p a k ≡ None) (sym o.open_now)
            (else_from (if_so NoAtomToFire (not (ltb a m.outline.atoms) || has_fired o.fired a)) _ (ap (if_so NoAtomToFire) (or_from _ _ (not_from_true _ (lt-ltb a m.outline.atoms ok.there)) none))
            (else_from (if_so MustWait (must_wait m.outline o.fired a)) _ (ap (if_so MustWait) (need_not_wait m o.fired a ok.ready))
            (ap (if_so ChoiceNotOpen) (not_from_true _ ok.opened))))));
        same = ok.left ∙ ap left_after (sym o.open_now);
        left = ok.after ∙ ap (λ v. moved_to u (in_round o.before v (set o.fired a true))) made ∙ ap fired_unit (sym o.open_now);
      }

  fire_made : Good u → fire_refusal u slip a k ≡ None → Fired u slip a k (left_after u.phase) (fired_unit u.phase)
  fire_made good h =
      let one = else_parts (verdict_of u) _ h in
      let two = else_parts (if_so WrongSlip (wrong_slip u slip)) _ one.1 in
      let o = round_slip u slip (if_so_parts WrongSlip _ two.0) in
      let inside : fire_refusal_in m (in_round o.before o.new o.fired) a k ≡ None = subst (λ p. fire_refusal_in m p a k ≡ None) o.open_now two.1 in
      let three = else_parts (if_so NoAtomToFire (not (ltb a m.outline.atoms) || has_fired o.fired a)) _ inside in
      let four = else_parts (if_so MustWait (must_wait m.outline o.fired a)) _ three.1 in
      let gone = or_parts (not (ltb a m.outline.atoms)) (has_fired o.fired a) (if_so_parts NoAtomToFire _ three.0) in
      let there : a < m.outline.atoms = ltb-true a m.outline.atoms (not-false _ gone.0) in
      let opened : opens_in o.before o.new ≡ true = not-false _ (if_so_parts ChoiceNotOpen _ four.1) in
      let phase : PhaseRight m u.claims (in_round o.before o.new o.fired) = subst (PhaseRight m u.claims) o.open_now good.phase_right in
      let fit : Keeps m = keeps m (else_parts (sealing.verdict m) _ one.0).0 in
      record {
        fit = fit_from u one.0;
        round = o;
        there = there;
        unfired = λ e. both_ways (has_fired o.fired a) gone.1 e;
        ready = may_fire m o.fired a (if_so_parts MustWait _ four.0);
        opened = opened;
        made = values_made m o.before o.new a k;
        makes = makes m o.before o.new a k (λ n c. fit.given_in_range (kind_of_round o.before) a k n (value (old_state o.before)) (value o.new) there (old_in_range m o.before phase.1) phase.2.state.within opened c);
        left = ap left_after o.open_now;
        after = ap fired_unit o.open_now;
      }

  pub fire_rules : Good u → (reply : Reply) (w : UnitModel) → Allows u (fire_call slip a k) reply w ↔ Is number_reply (fire u slip a k) reply w
  fire_rules good (number_reply n) w = number_call (fire_refusal u slip a k) u (fired_unit u.phase) (left_after u.phase) (Fired u slip a k) (FireRefused u slip a k) fire_judged fire_through (fire_made good) (number_reply n) w
  fire_rules good (slip_reply s) w = number_call (fire_refusal u slip a k) u (fired_unit u.phase) (left_after u.phase) (Fired u slip a k) (FireRefused u slip a k) fire_judged fire_through (fire_made good) (slip_reply s) w
  fire_rules good (refusal_reply r) w = number_call (fire_refusal u slip a k) u (fired_unit u.phase) (left_after u.phase) (Fired u slip a k) (FireRefused u slip a k) fire_judged fire_through (fire_made good) (refusal_reply r) w

-- end

back_same : (before : Option (List ℕ)) → back_at before ≡ back_to before
back_same None = refl
back_same (Some s) = refl

module _ (u : UnitModel) (slip : Slip) where
  abbrev meant : Meaning
  meant = u.meaning

  abbrev first : Option Refusal
  first = verdict_of u else if_so WrongSlip (wrong_slip u slip)

  abbrev is_whole : Bool
  is_whole = eqb (yet_to_fire meant u.phase) 0

  first_judged : Judged first (EndRefused u slip)
  first_judged = judged_else (verdict_of u) _ _ _ (unit_judged u) (λ _. slip_judged u slip)

  first_clear : IsFit u → OpenRound u slip → first ≡ None
  first_clear fit o = else_from (verdict_of u) _ (fit_none u fit) (ap (if_so WrongSlip) (slip_right u slip o))

  abbrev late : List Bool → ℕ
  late fired = count (λ a. not (has_fired fired a)) meant.outline.atoms

  none_late : (fired : List Bool) → ((a : ℕ) → a < meant.outline.atoms → HasFired fired a) → late fired ≡ 0
  none_late fired all = ⊎_elim (λ e. e) (λ ne. let i = some_counted (λ a. not (has_fired fired a)) meant.outline.atoms (omega arith) in absurd (both_ways (has_fired fired i.0) (not-true _ i.2) (all i.0 i.1))) (cases_eq (late fired) 0)

  some_late : (fired : List Bool) (a : ℕ) → a < meant.outline.atoms → (HasFired fired a → ⊥) → eqb (late fired) 0 ≡ false
  some_late fired a l ne = ⊎_elim (λ t. absurd (ne (not-false _ (none_counted (λ a. not (has_fired fired a)) meant.outline.atoms a (eqb-true _ 0 t) l)))) (λ f. f) (cases_Bool (eqb (late fired) 0))

  comes_next : (before : Option (List ℕ)) (t : List ℕ) → ReachedBefore meant before → yields meant (kind_of_round before) (old_state before) t ≡ true → RowAfter meant before t
  comes_next None t r h = initial_from meant t (record { yielded = h })
  comes_next (Some s) t r h = next_from meant s t (reached_state meant s r) (record { yielded = h })

  ended_by : Good u → first ≡ None → is_whole ≡ true → RoundEnded u slip 0 (with_phase u (phase_ended u.phase))
  ended_by good clear whole =
      let one = else_parts (verdict_of u) _ clear in
      let o = round_slip u slip (if_so_parts WrongSlip _ one.1) in
      let none : late o.fired ≡ 0 = subst (λ p. yet_to_fire meant p ≡ 0) o.open_now (eqb-true _ 0 whole) in
      let phase : PhaseRight meant u.claims (in_round o.before o.new o.fired) = subst (PhaseRight meant u.claims) o.open_now good.phase_right in
      record {
        fit = fit_from u one.0;
        round = o;
        all_fired = λ a l. not-false _ (none_counted (λ a. not (has_fired o.fired a)) meant.outline.atoms a none l);
        follows = comes_next o.before o.new phase.1 (outcome meant o.before o.new o.fired phase.2 none);
        answer = refl;
        after = ap (λ p. with_phase u (phase_ended p)) o.open_now;
      }

  early_by : first ≡ None → is_whole ≡ false → EndedTooEarly u slip AtomsMissing (with_phase u (phase_withdrawn u.phase))
  early_by clear part =
      let one = else_parts (verdict_of u) _ clear in
      let o = round_slip u slip (if_so_parts WrongSlip _ one.1) in
      let some : late o.fired ≡ 0 → ⊥ = λ e. both_ways is_whole part (eq-eqb (yet_to_fire meant u.phase) 0 (ap (yet_to_fire meant) o.open_now ∙ e)) in
      let i = some_counted (λ a. not (has_fired o.fired a)) meant.outline.atoms (omega arith) in
      record {
        fit = fit_from u one.0;
        round = o;
        atom = i.0;
        there = i.1;
        unfired = λ e. both_ways (has_fired o.fired i.0) (not-true _ i.2) e;
        is = refl;
        after = ap (λ p. with_phase u (phase_withdrawn p)) o.open_now ∙ ap (with_phase u) (sym (back_same o.before));
      }

  abbrev EndIs : Option Refusal → Bool → Reply → UnitModel → Type 0
  EndIs f b reply w = Is number_reply (refused_or f u (end_if b u)) reply w

  number_end : Good u → (f : Option Refusal) (b : Bool) → first ≡ f → is_whole ≡ b → (n : ℕ) (w : UnitModel) → EndIs f b (number_reply n) w → RoundEnded u slip n w
  number_end good None true e g n w h =
      let answered : number_reply n ≡ number_reply 0 = h.answered in
      let zero-now : n ≡ 0 = cc in
      subst (λ k. RoundEnded u slip k w) (sym zero-now) (subst (RoundEnded u slip 0) (sym h.left) (ended_by good e g))
  number_end good None false e g n w h = absurd (number≢refusal n AtomsMissing h.answered)
  number_end good (Some r) b e g n w h = absurd (number≢refusal n r h.answered)

  end_number : (n : ℕ) (w : UnitModel) → RoundEnded u slip n w → EndIs first is_whole (number_reply n) w
  end_number n w ok =
      let o = ok.round in
      let whole : is_whole ≡ true = eq-eqb (yet_to_fire meant u.phase) 0 (ap (yet_to_fire meant) o.open_now ∙ none_late o.fired ok.all_fired) in
      subst (λ f. EndIs f is_whole (number_reply n) w) (sym (first_clear ok.fit o)) (subst (λ b. EndIs None b (number_reply n) w) (sym whole) (record {
        answered = ap number_reply ok.answer;
        left = ok.after ∙ ap (λ p. with_phase u (phase_ended p)) (sym o.open_now);
      }))

  slip_end : (f : Option Refusal) (b : Bool) (s : Slip) (w : UnitModel) → EndIs f b (slip_reply s) w → ⊥
  slip_end None true s w h = number≢slip 0 s (sym h.answered)
  slip_end None false s w h = slip≢refusal s AtomsMissing h.answered
  slip_end (Some r) b s w h = slip≢refusal s r h.answered

  refused_end : (f : Option Refusal) (b : Bool) → first ≡ f → is_whole ≡ b → (r : Refusal) (w : UnitModel) → EndIs f b (refusal_reply r) w → (EndRefused u slip r × (w ≡ u)) ⊎ EndedTooEarly u slip r w
  refused_end None true e g r w h = absurd (number≢refusal 0 r (sym h.answered))
  refused_end None false e g r w h =
      let answered : refusal_reply r ≡ refusal_reply AtomsMissing = h.answered in
      let same : r ≡ AtomsMissing = cc in
      inr (subst (λ q. EndedTooEarly u slip q w) (sym same) (subst (EndedTooEarly u slip AtomsMissing) (sym h.left) (early_by e g)))
  refused_end (Some q) b e g r w h =
      let answered : refusal_reply r ≡ refusal_reply q = h.answered in
      let same : q ≡ r = cc in
      inl (first_judged.there r (e ∙ ap Some same), h.left)

  end_refused : (r : Refusal) (w : UnitModel) → (EndRefused u slip r × (w ≡ u)) ⊎ EndedTooEarly u slip r w → EndIs first is_whole (refusal_reply r) w
  end_refused r w (inl x) = subst (λ f. EndIs f is_whole (refusal_reply r) w) (sym (first_judged.back r x.0)) (record { answered = refl; left = x.1 })
  end_refused r w (inr x) =
      let o = x.round in
      let part : is_whole ≡ false = ap (λ p. eqb (yet_to_fire meant p) 0) o.open_now ∙ some_late o.fired x.atom x.there x.unfired in
      subst (λ f. EndIs f is_whole (refusal_reply r) w) (sym (first_clear x.fit o)) (subst (λ b. EndIs None b (refusal_reply r) w) (sym part) (record {
        answered = ap refusal_reply x.is;
        left = x.after ∙ ap (with_phase u) (back_same o.before) ∙ ap (λ p. with_phase u (phase_withdrawn p)) (sym o.open_now);
      }))

  pub end_rules : Good u → (reply : Reply) (w : UnitModel) → Allows u (end_call slip) reply w ↔ Is number_reply (end_round u slip) reply w
  end_rules good (number_reply n) w = (end_number n w, number_end good first is_whole refl refl n w)
  end_rules good (slip_reply s) w = (λ x. absurd x, slip_end first is_whole s w)
  end_rules good (refusal_reply r) w = (end_refused r w, refused_end first is_whole refl refl r w)
