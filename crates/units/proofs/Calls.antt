-- What every call leaves right.
use Rattle.std.proofs.Common.{◌≡◌, ℕ, zero, suc, ◌*◌, ◌/◌, ◌%◌, ◌≤◌, Bool, true, false, cond, not, ◌||◌, eqb, ltb, List, [], ◌∷◌, ◌++◌, map, length, take, drop, replicate, Some, None, Option, sym, refl, ◌∙◌, subst, arith}
use Rattle.std.proofs.ByRecursion.{All-append, All-push, All-map}
use Rattle.std.proofs.lemmas.List.{length-map}
use Rattle.std.proofs.lemmas.Bool.{and_parts, both_ways, eqb-true, eqb-false, ltb-true, not-false, or_parts}
use Rattle.std.specs.List.{AllByRecursion as All, slice_get}
use Rattle.composition.specs.Meanings.{renamed, hidden, joined}
use Rattle.language.specs.Expressions.{Truth, Reading, good, bad, truth_sees, to_the_end, read_truth, whole_truth}
use Rattle.language.proofs.Expressions.{readings_are_written}
use Rattle.model.specs.Meanings.{Meaning}
use Rattle.model.specs.States.{value, yields, Reachable, InitialState, Successor}
use Rattle.model.specs.Tests.{lowest}
use Rattle.units.specs.declared.refusal.Refusal.{Refusal}
use Rattle.model.proofs.States.{state_parts}
use Rattle.theory.specs.Enumerations.{below}
use Rattle.theory.specs.Runs as runs
use Rattle.theory.proofs.Enumerations.{length_below}
use Rattle.theory.proofs.Runs.{initial_reachable, step_reachable}
use Rattle.units.specs.Counting.{any}
use Rattle.units.specs.Evidence.{states_in, wrong_size, certificate_refusal, run_refusal}
use Rattle.units.specs.Sealing.{at_lowest, if_so, verdict, ◌else◌}
use Rattle.units.specs.Units.{Claim, Mark, open_mark, held, broken, Phase, idle, standing, in_round, UnitModel, Slip, Outcome, holds, refused_or, verdict_with, verdict_of, kept_claims, fresh_unit, claim_renamed, claim_joined, is_idle, claim_sight, claim_reading, claims_with, claims_marked, of_claim, is_held, not_all_held, round_open, wrong_value, standing_state, wrong_slip, kind_of_round, old_state, has_fired, must_wait, fire_refusal_in, phase_fired, yet_to_fire, phase_withdrawn, phase_ended, end_if, seal, rename_unit, hide_unit, join_units, claim, certify, refute, open_round, fire, end_round, stop}
use Rattle.units.specs.declared.refusal.Refusal.TheVariants.{ChoiceNotOpen, MustWait, NoAtomToFire, NotAllHeld, NotIdle, RoundOpen, WrongSize, WrongSlip, WrongValue}
use Rattle.units.proofs.Evidence.{else_parts, at_lowest_parts, if_so_parts}
use Rattle.units.proofs.Theory.{reached_state, certificates_hold, runs_break}
use Rattle.units.proofs.Claims.{HoldsThroughout, Right, open_is_true, held_is_true, broken_is_true, all_marked, renamed_right, hidden_right, left_right, right_right}
use Rattle.units.proofs.Fitness.{InRange, Keeps, keeps, fault_clear}
use Rattle.units.proofs.Rounds.{Midway, begins, fires, outcome}

-- the state that stood, if any, is reachable
abbrev pub ReachedBefore : Meaning → Option (List ℕ) → Type 0
ReachedBefore m None = Unit {0}
ReachedBefore m (Some s) = Reachable m s

-- Whatever its mark, each claim of a unit that is not idle holds throughout.
abbrev pub PhaseRight : Meaning → List Claim → Phase → Type 0
PhaseRight m cs idle = Unit {0}
PhaseRight m cs (standing s) = All (HoldsThroughout m) cs × Reachable m s
PhaseRight m cs (in_round before new fired) = All (HoldsThroughout m) cs × ReachedBefore m before × Midway m before new fired

pub record Good (u : UnitModel) : Type 0 where
  pub claims_right : All (Right u.meaning) u.claims
  pub phase_right : PhaseRight u.meaning u.claims u.phase

-- a refused call leaves the unit as it was
guarded : {A : Type 0} (P : UnitModel → Type 0) (f : Option Refusal) (u : UnitModel) (o : Outcome A) → P u → (f ≡ None → P o.unit) → P (refused_or f u o).unit
guarded P None u o h g = g refl
guarded P (Some f) u o h g = h

all_turned : {X : Type 0} (P Q : X → Type 0) (xs : List X) → ((x : X) → P x → Q x) → All P xs → All Q xs
all_turned P Q [] f h = tt
all_turned P Q (x ∷ xs) f h = (f x h.0, all_turned P Q xs f h.1)

-- units made anew

made_good : (m : Meaning) (number rounds : ℕ) (cs : List Claim) → (verdict m ≡ None → All (Right m) cs) → Good (fresh_unit m number rounds cs)
made_good m number rounds cs f = record { claims_right = go (verdict_with m (ltb 8 (length cs))) refl; phase_right = tt }
  where
    go : (v : Option Refusal) → verdict_with m (ltb 8 (length cs)) ≡ v → All (Right m) (kept_claims v cs)
    go None e = f (else_parts (verdict m) _ e).0
    go (Some v) e = tt

pub seal_good : (m : Meaning) (number : ℕ) → Good (seal m number)
seal_good m number = made_good m number 0 [] (λ _. tt)

pub rename_good : (u : UnitModel) (a b : ℕ) → Good u → Good (rename_unit u a b)
rename_good u a b g =
    let m = u.meaning in
    made_good (renamed m a b) u.number u.rounds (map (claim_renamed a b) u.claims) (λ fine.
    All-map (Right (renamed m a b)) (claim_renamed a b) u.claims
    (all_turned (Right m) (λ c. Right (renamed m a b) (claim_renamed a b c)) u.claims (renamed_right m a b (fault_clear (renamed m a b) fine)) g.claims_right))

pub hide_good : (u : UnitModel) (n : ℕ) → Good u → Good (hide_unit u n)
hide_good u n g =
    let m = u.meaning in
    made_good (hidden m n) u.number u.rounds u.claims (λ fine.
    all_turned (Right m) (Right (hidden m n)) u.claims (hidden_right m n (fault_clear (hidden m n) fine)) g.claims_right)

pub join_good : (l r : UnitModel) → Good l → Good r → Good (join_units l r)
join_good l r g h =
    let w = joined l.meaning r.meaning in
    made_good w l.number _ (map claim_joined l.claims ++ map claim_joined r.claims) (λ fine.
    let sound = fault_clear w fine in
    All-append (Right w) (map claim_joined l.claims) (map claim_joined r.claims)
    (All-map (Right w) claim_joined l.claims (all_turned (Right l.meaning) (λ c. Right w (claim_joined c)) l.claims (left_right l.meaning r.meaning sound) g.claims_right))
    (All-map (Right w) claim_joined r.claims (all_turned (Right r.meaning) (λ c. Right w (claim_joined c)) r.claims (right_right l.meaning r.meaning sound) h.claims_right)))

-- claims

good≢bad : {X : Type 0} (x : X) (end place : ℕ) → bad place ≡ good x end → ⊥
good≢bad x end place e = let z : ◌≡◌ {A = ℕ} 0 1 = cc in omega arith

whole_read : (all : ℕ) (r : Reading Truth) (p : Truth) (end : ℕ) → to_the_end all r ≡ good p end → r ≡ good p end
whole_read all (bad place) p end e = absurd (good≢bad p end place e)
whole_read all (good q stop) p end e = go (eqb stop all) e
  where
    go : (b : Bool) → cond b (good q stop) (bad stop) ≡ good p end → good q stop ≡ good p end
    go true e = e
    go false e = absurd (good≢bad p end stop e)

read_sees : (m : Meaning) (bs : List ℕ) (p : Truth) (end : ℕ) → claim_reading m bs ≡ good p end → truth_sees (claim_sight m) p ≡ true
read_sees m bs p end e = go (eqb (length bs) 0 || ltb 64 (length bs)) e
  where
    go : (b : Bool) → cond b (bad 0) (whole_truth 8 (claim_sight m) bs) ≡ good p end → truth_sees (claim_sight m) p ≡ true
    go true e = absurd (good≢bad p end 0 e)
    go false e =
        let right = (readings_are_written.truths 8 (claim_sight m) bs 0 p end (whole_read (length bs) (read_truth 8 (claim_sight m) bs 0) p end e)).0 in
        (and_parts _ _ right).1

idle_right : (m : Meaning) (cs : List Claim) (p : Phase) → is_idle p ≡ true → PhaseRight m cs p
idle_right m cs idle e = tt
idle_right m cs (standing s) e = absurd (both_ways false refl e)
idle_right m cs (in_round before new fired) e = absurd (both_ways false refl e)

pub claim_good : (u : UnitModel) (bs : List ℕ) → Good u → Good (claim u bs).unit
claim_good u bs g = guarded Good _ u _ g (λ e.
    let one = else_parts (verdict_of u) _ e in
    let two = else_parts (if_so NotIdle (not (is_idle u.phase))) _ one.1 in
    record {
      claims_right = go (claim_reading u.meaning bs) refl;
      phase_right = idle_right u.meaning _ u.phase (not-false (is_idle u.phase) (if_so_parts NotIdle _ two.0));
    })
  where
    go : (r : Reading Truth) → claim_reading u.meaning bs ≡ r → All (Right u.meaning) (claims_with u.claims r)
    go (bad place) e = g.claims_right
    go (good p end) e = All-push (Right u.meaning) u.claims (record { says = p; mark = open_mark }) g.claims_right (record { sees = read_sees u.meaning bs p end e; marked = open_is_true u.meaning p })

-- evidence

phase_marked : (m : Meaning) (cs : List Claim) (i : ℕ) (mark : Mark) (p : Phase) → PhaseRight m cs p → PhaseRight m (claims_marked i mark cs) p
phase_marked m cs i mark idle h = tt
phase_marked m cs i mark (standing s) h = (all_marked (HoldsThroughout m) cs i mark h.0 (λ c e k. k), h.1)
phase_marked m cs i mark (in_round before new fired) h = (all_marked (HoldsThroughout m) cs i mark h.0 (λ c e k. k), h.1, h.2)

-- what is asked of the claim that is there
pub asked : (o : Option Claim) (c : Claim) (check : Claim → Option Refusal) → o ≡ Some c → of_claim o check ≡ None → check c ≡ None
asked o c check e h = subst (λ x. of_claim x check ≡ None) e h

some_states : (bs : List ℕ) → wrong_size bs ≡ false → 1 ≤ length (states_in bs)
some_states bs h =
    let one = or_parts (not (eqb (length bs % 32) 0) || eqb (length bs) 0) (ltb 2048 (length bs / 32)) h in
    let two = or_parts (not (eqb (length bs % 32) 0)) (eqb (length bs) 0) one.0 in
    let whole : length bs % 32 ≡ 0 = eqb-true (length bs % 32) 0 (not-false _ two.0) in
    let some : length bs ≡ 0 → ⊥ = eqb-false (length bs) 0 two.1 in
    let long = length-map (below (length bs / 32)) (λ i. take 32 (drop (32 * i) bs)) ∙ length_below (length bs / 32) in
    omega (arith, long)

pub certify_good : (u : UnitModel) (i : ℕ) (bs : List ℕ) → Good u → Good (certify u i bs).unit
certify_good u i bs g = guarded Good _ u _ g (λ e.
    let m = u.meaning in
    let check : Claim → Option Refusal = λ c. if_so WrongSize (wrong_size bs) else certificate_refusal m (holds c) (states_in bs) in
    let one : of_claim (slice_get u.claims i) check ≡ None = (else_parts (verdict_of u) _ e).1 in
    record {
      claims_right = all_marked (Right m) u.claims i held g.claims_right (λ c there right.
          let fine = else_parts (if_so WrongSize (wrong_size bs)) (certificate_refusal m (holds c) (states_in bs)) (asked (slice_get u.claims i) c check there one) in
          record { sees = right.sees; marked = held_is_true m c.says (certificates_hold m (holds c) (states_in bs) fine.1) });
      phase_right = phase_marked m u.claims i held u.phase g.phase_right;
    })

pub refute_good : (u : UnitModel) (i : ℕ) (bs : List ℕ) → Good u → Good (refute u i bs).unit
refute_good u i bs g = guarded Good _ u _ g (λ e.
    let m = u.meaning in
    let check : Claim → Option Refusal = λ c. if_so WrongSize (wrong_size bs) else run_refusal m (holds c) (states_in bs) in
    let one : of_claim (slice_get u.claims i) check ≡ None = (else_parts (verdict_of u) _ e).1 in
    record {
      claims_right = all_marked (Right m) u.claims i broken g.claims_right (λ c there right.
          let fine = else_parts (if_so WrongSize (wrong_size bs)) (run_refusal m (holds c) (states_in bs)) (asked (slice_get u.claims i) c check there one) in
          record { sees = right.sees; marked = broken_is_true m c.says (runs_break m (holds c) (states_in bs) (some_states bs (if_so_parts WrongSize _ fine.0)) fine.1) });
      phase_right = phase_marked m u.claims i broken u.phase g.phase_right;
    })

-- rounds

held_from : (mark : Mark) → is_held mark ≡ true → mark ≡ held
held_from open_mark h = absurd (both_ways false refl h)
held_from held h = refl
held_from broken h = absurd (both_ways false refl h)

none_unheld : (m : Meaning) (cs : List Claim) → any (λ d. not (is_held d.mark)) cs ≡ false → All (Right m) cs → All (HoldsThroughout m) cs
none_unheld m [] h g = tt
none_unheld m (c ∷ cs) h g =
    let both = or_parts (not (is_held c.mark)) (any (λ d. not (is_held d.mark)) cs) h in
    (g.0.marked.held_holds (held_from c.mark (not-false _ both.0)), none_unheld m cs both.1 g.1)

all_hold : (m : Meaning) (cs : List Claim) → not_all_held cs ≡ false → All (Right m) cs → All (HoldsThroughout m) cs
all_hold m [] h g = tt
all_hold m (c ∷ cs) h g = none_unheld m (c ∷ cs) h g

stood : (m : Meaning) (cs : List Claim) (p : Phase) → PhaseRight m cs p → ReachedBefore m (standing_state p)
stood m cs idle h = tt
stood m cs (standing s) h = h.1
stood m cs (in_round before new fired) h = h.1

pub open_good : (u : UnitModel) (given : List ℕ) → length given ≡ 32 → Good u → Good (open_round u given).unit
open_good u given long g = guarded Good _ u _ g (λ e.
    let m = u.meaning in
    let one = else_parts (verdict_of u) _ e in
    let two = else_parts (if_so NotAllHeld (not_all_held u.claims)) _ one.1 in
    let three = else_parts (if_so RoundOpen (round_open u.phase)) _ two.1 in
    let four = else_parts (at_lowest WrongValue (lowest (wrong_value m.outline given) 32)) _ three.1 in
    record {
      claims_right = g.claims_right;
      phase_right = (all_hold m u.claims (if_so_parts NotAllHeld _ two.0) g.claims_right, stood m u.claims u.phase g.phase_right, begins m (standing_state u.phase) given long (at_lowest_parts WrongValue _ four.0));
    })

pub zeros : (k n : ℕ) → value (replicate k 0) n ≡ 0
zeros zero n = refl
zeros (suc k) zero = refl
zeros (suc k) (suc n) = zeros k n

pub old_in_range : (m : Meaning) (before : Option (List ℕ)) → ReachedBefore m before → InRange m.outline (value (old_state before))
old_in_range m None h = λ n. subst (λ v. v ≤ m.outline.top n) (sym (zeros 32 n)) (omega arith)
old_in_range m (Some s) h = (state_parts m.outline s (reached_state m s h)).within

fire_right : (m : Meaning) (cs : List Claim) (fit : Keeps m) (p : Phase) (a k : ℕ) → PhaseRight m cs p → fire_refusal_in m p a k ≡ None → PhaseRight m cs (phase_fired m p a k)
fire_right m cs fit idle a k h e = tt
fire_right m cs fit (standing s) a k h e = h
fire_right m cs fit (in_round before new fired) a k h e =
    let one = else_parts (if_so NoAtomToFire (not (ltb a m.outline.atoms) || has_fired fired a)) _ e in
    let two = else_parts (if_so MustWait (must_wait m.outline fired a)) _ one.1 in
    let there = or_parts (not (ltb a m.outline.atoms)) (has_fired fired a) (if_so_parts NoAtomToFire _ one.0) in (
      h.0,
      h.1,
      fires m fit before (old_in_range m before h.1) new fired h.2 a k (ltb-true a m.outline.atoms (not-false _ there.0)) there.1 (if_so_parts MustWait _ two.0) (not-false _ (if_so_parts ChoiceNotOpen _ two.1)),
    )

pub fire_good : (u : UnitModel) (slip : Slip) (a k : ℕ) → Good u → Good (fire u slip a k).unit
fire_good u slip a k g = guarded Good _ u _ g (λ e.
    let one = else_parts (verdict_of u) _ e in
    let two = else_parts (if_so WrongSlip (wrong_slip u slip)) _ one.1 in
    record {
      claims_right = g.claims_right;
      phase_right = fire_right u.meaning u.claims (keeps u.meaning (else_parts (verdict u.meaning) _ one.0).0) u.phase a k g.phase_right two.1;
    })

-- what a round yields is reachable
pub yielded_reachable : (m : Meaning) (before : Option (List ℕ)) (t : List ℕ) → ReachedBefore m before → yields m (kind_of_round before) (old_state before) t ≡ true → Reachable m t
yielded_reachable m None t h y =
    let r = initial_reachable {Initial = InitialState m} {Step = Successor m} t (record { yielded = y }) in
    record { run = r.run; trajectory = r.trajectory; ends = r.ends }
yielded_reachable m (Some s) t h y =
    let first : runs.Reachable (InitialState m) (Successor m) s = record { run = h.run; trajectory = h.trajectory; ends = h.ends } in
    let r = step_reachable {Initial = InitialState m} {Step = Successor m} s t first (record { yielded = y }) in
    record { run = r.run; trajectory = r.trajectory; ends = r.ends }

ended_right : (m : Meaning) (cs : List Claim) (p : Phase) → PhaseRight m cs p → yet_to_fire m p ≡ 0 → PhaseRight m cs (phase_ended p)
ended_right m cs idle h e = tt
ended_right m cs (standing s) h e = h
ended_right m cs (in_round before new fired) h e = (h.0, yielded_reachable m before new h.1 (outcome m before new fired h.2 e))

withdrawn_right : (m : Meaning) (cs : List Claim) (p : Phase) → PhaseRight m cs p → PhaseRight m cs (phase_withdrawn p)
withdrawn_right m cs idle h = tt
withdrawn_right m cs (standing s) h = h
withdrawn_right m cs (in_round None new fired) h = tt
withdrawn_right m cs (in_round (Some s) new fired) h = (h.0, h.1)

pub end_good : (u : UnitModel) (slip : Slip) → Good u → Good (end_round u slip).unit
end_good u slip g = guarded Good _ u _ g (λ e. go (eqb (yet_to_fire u.meaning u.phase) 0) refl)
  where
    go : (b : Bool) → eqb (yet_to_fire u.meaning u.phase) 0 ≡ b → Good (end_if b u).unit
    go true e = record { claims_right = g.claims_right; phase_right = ended_right u.meaning u.claims u.phase g.phase_right (eqb-true _ 0 e) }
    go false e = record { claims_right = g.claims_right; phase_right = withdrawn_right u.meaning u.claims u.phase g.phase_right }

pub stop_good : (u : UnitModel) → Good u → Good (stop u).unit
stop_good u g = guarded Good _ u _ g (λ e. record { claims_right = g.claims_right; phase_right = tt })
