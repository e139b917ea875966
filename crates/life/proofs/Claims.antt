-- The calls claim, certify, refute and stop follow the rules, and the rules leave no choice.
use Rattle.std.proofs.Common.{◌≡◌, ℕ, zero, suc, ◌<◌, ◌≤◌, Bool, true, false, cond, not, ◌||◌, eqb, ltb, leb, ◌↔◌, List, [], ◌∷◌, length, set, Some, None, Option, sym, refl, ap, ◌∙◌, subst, ⊎_elim, arith}
use Rattle.std.proofs.lemmas.Bool.{and_from, and_parts, both_ways, cases_Bool, cases_lt, or_from, or_parts, not-false, not-true, not_from_true, eqb-false, ne_eqb, ltb-false, le-ltb, leb-true, le-leb}
use Rattle.std.specs.List.{slice_get}
use Rattle.language.specs.Expressions.{Truth, truth_bytes, truth_levels, truth_sees, truth_right, Reading, good, bad, whole_truth}
use Rattle.language.proofs.Expressions.{whole_expressions_are_written}
use Rattle.model.specs.Meanings.{Meaning}
use Rattle.model.specs.States as states
use Rattle.model.specs.States.{value, is_state, nothing}
use Rattle.model.specs.declared.Round.TheVariants.{Initial, Update}
use Rattle.model.proofs.States.{yields_parts}
use Rattle.theory.specs.Runs as runs
use Rattle.units.specs.Accepted as accepted
use Rattle.units.specs.Evidence.{states_in, wrong_size, certificate_count, certificate_refusal, run_refusal}
use Rattle.units.specs.Models.{Mark, held, broken, Claim, Phase, idle, standing, in_round, UnitModel}
use Rattle.units.specs.Sealing.{if_so, ◌else◌}
use Rattle.units.specs.Units.{holds, verdict_of, is_idle, claim_sight, claim_reading, is_wrong_reading, claims_with, claim_refusal, with_claims, with_phase, claims_marked, of_claim, certify_refusal, refute_refusal, claim, certify, refute, stop}
use Rattle.units.specs.declared.refusal.Refusal.{Refusal}
use Rattle.units.specs.declared.refusal.Refusal.TheVariants.{NotIdle, NoRoomForClaim, WrongClaim, NoSuchClaim, WrongSize}
use Rattle.units.proofs.Evidence.{else_parts, else_from, if_so_parts}
use Rattle.units.proofs.Theory.{certificates_judged, runs_judged}
use Rattle.reactive.proofs.Outcomes.{count_of_outcomes}
use Rattle.life.specs.Fitness.{IsFit, Unfit}
use Rattle.life.specs.Promises.{Is}
use Rattle.life.specs.Reasons.{Because}
use Rattle.life.specs.Rules.{Says, ClaimMade, ClaimRefused, Evidence, Certified, Refuted, NoCertificate, NoRun, EvidenceRefused, Stopped, claim_call, certify_call, refute_call, stop_call, Reply, number_reply, slip_reply, refusal_reply, Allows}
use Rattle.life.specs.Subject.{InitialRow, NextRow, Certifies, Breaks}
use Rattle.life.proofs.Bridge.{row_from, row_state, initial_from, row_initial, next_from, row_next}
use Rattle.life.proofs.Evidence.{certificate_judged, run_judged, evidence_judged}
use Rattle.life.proofs.Fitness.{fit_from, fit_none, unit_judged}
use Rattle.life.proofs.Judging.{Judged, none≢some, judged_else, judged_if}
use Rattle.life.proofs.Replies.{Through, number_call}
use Rattle.life.proofs.Written.{writes_back, writes_right, right_writes}

-- claims

good≢bad : {X : Type 0} (x : X) (end place : ℕ) → bad place ≡ good x end → ⊥
good≢bad x end place e = let z : ◌≡◌ {A = ℕ} 0 1 = cc in omega arith

idle_from : (p : Phase) → is_idle p ≡ true → p ≡ idle
idle_from idle e = refl
idle_from (standing s) e = absurd (both_ways false refl e)
idle_from (in_round before new fired) e = absurd (both_ways false refl e)

module _ (m : Meaning) (bs : List ℕ) where
  says_read : (p : Truth) → Says m bs p → claim_reading m bs ≡ good p (length (truth_bytes p))
  says_read p s =
      let sized : (eqb (length bs) 0 || ltb 64 (length bs)) ≡ false = or_from _ _ (ne_eqb (length bs) 0 (λ e. omega (arith, s.some, e))) (le-ltb 64 (length bs) s.few) in
      let right : truth_right 8 (claim_sight m) p ≡ true = and_from _ _ (le-leb (truth_levels p) 8 s.levels) s.sees in
      ap (λ b. cond b (bad 0) (whole_truth 8 (claim_sight m) bs)) sized ∙ ap (whole_truth 8 (claim_sight m)) s.written ∙ whole_expressions_are_written.truths 8 (claim_sight m) p right

  read_says : (p : Truth) (end : ℕ) → claim_reading m bs ≡ good p end → Says m bs p
  read_says p end e = go (eqb (length bs) 0 || ltb 64 (length bs)) refl e
    where
      go : (b : Bool) → (eqb (length bs) 0 || ltb 64 (length bs)) ≡ b → cond b (bad 0) (whole_truth 8 (claim_sight m) bs) ≡ good p end → Says m bs p
      go true f h = absurd (good≢bad p end 0 h)
      go false f h =
          let sized = or_parts (eqb (length bs) 0) (ltb 64 (length bs)) f in
          let nonempty : length bs ≡ 0 → ⊥ = eqb-false (length bs) 0 sized.0 in
          let only = whole_expressions_are_written.truths_only 8 (claim_sight m) bs p end h in
          let right = and_parts (leb (truth_levels p) 8) (truth_sees (claim_sight m) p) only.0 in
          record {
            some = omega arith;
            few = ltb-false 64 (length bs) sized.1;
            written = only.1;
            levels = leb-true (truth_levels p) 8 right.0;
            sees = right.1;
          }

  wrong_judged : Judged (if_so WrongClaim (is_wrong_reading (claim_reading m bs))) (Because ((p : Truth) → Says m bs p → ⊥) WrongClaim)
  wrong_judged = judged_if (is_wrong_reading (claim_reading m bs)) ((p : Truth) → Says m bs p → ⊥) WrongClaim
      (λ h p s. both_ways (is_wrong_reading (claim_reading m bs)) (ap is_wrong_reading (says_read p s)) h)
      (λ none. go none (claim_reading m bs) refl)
    where
      go : ((p : Truth) → Says m bs p → ⊥) → (r : Reading Truth) → claim_reading m bs ≡ r → is_wrong_reading (claim_reading m bs) ≡ true
      go none (good p end) e = absurd (none p (read_says p end e))
      go none (bad place) e = ap is_wrong_reading e

not_less : (n : ℕ) → leb 8 n ≡ false → n < 8
not_less n h = ⊎_elim (λ l. l) (λ l. absurd (both_ways (leb 8 n) h (le-leb 8 n l))) (cases_lt n 8)

less_not : (n : ℕ) → n < 8 → leb 8 n ≡ false
less_not n l = ⊎_elim (λ e. let more = leb-true 8 n e in absurd (omega arith)) (λ f. f) (cases_Bool (leb 8 n))

module _ (u : UnitModel) (bs : List ℕ) where
  abbrev claimed : Reading Truth → UnitModel
  claimed r = with_claims u (claims_with u.claims r)

  idle_judged : Judged (if_so NotIdle (not (is_idle u.phase))) (Because (u.phase ≡ idle → ⊥) NotIdle)
  idle_judged = judged_if (not (is_idle u.phase)) (u.phase ≡ idle → ⊥) NotIdle
      (λ h e. both_ways (is_idle u.phase) (not-true _ h) (ap is_idle e))
      (λ ne. ⊎_elim (λ t. absurd (ne (idle_from u.phase t))) (λ f. ap not f) (cases_Bool (is_idle u.phase)))

  claim_judged : Judged (claim_refusal u bs) (ClaimRefused u bs)
  claim_judged =
      judged_else (verdict_of u) _ _ _ (unit_judged u) (λ _.
      judged_else (if_so NotIdle (not (is_idle u.phase))) _ _ _ idle_judged (λ _.
      judged_else (if_so NoRoomForClaim (leb 8 (length u.claims))) _ _ _ (judged_if (leb 8 (length u.claims)) (8 ≤ length u.claims) NoRoomForClaim (leb-true 8 (length u.claims)) (le-leb 8 (length u.claims))) (λ _.
      wrong_judged u.meaning bs)))

  claim_through : (n : ℕ) (w : UnitModel) → ClaimMade u bs n w → Through (claim_refusal u bs) (claimed (claim_reading u.meaning bs)) (length u.claims) n w
  claim_through n w ok =
      let read = says_read u.meaning bs ok.truth ok.says in
      record {
        clear =
            else_from (verdict_of u) _ (fit_none u ok.fit)
            (else_from (if_so NotIdle (not (is_idle u.phase))) _ (ap (if_so NotIdle) (not_from_true _ (ap is_idle ok.idle_now)))
            (else_from (if_so NoRoomForClaim (leb 8 (length u.claims))) _ (ap (if_so NoRoomForClaim) (less_not (length u.claims) ok.room))
            (ap (λ r. if_so WrongClaim (is_wrong_reading r)) read)));
        same = ok.number;
        left = ok.after ∙ ap claimed (sym read);
      }

  claim_made : claim_refusal u bs ≡ None → ClaimMade u bs (length u.claims) (claimed (claim_reading u.meaning bs))
  claim_made h =
      let one = else_parts (verdict_of u) _ h in
      let two = else_parts (if_so NotIdle (not (is_idle u.phase))) _ one.1 in
      let three = else_parts (if_so NoRoomForClaim (leb 8 (length u.claims))) _ two.1 in
      go (fit_from u one.0) (idle_from u.phase (not-false _ (if_so_parts NotIdle _ two.0))) (not_less (length u.claims) (if_so_parts NoRoomForClaim _ three.0)) (if_so_parts WrongClaim _ three.1) (claim_reading u.meaning bs) refl
    where
      go : IsFit u → u.phase ≡ idle → length u.claims < 8 → is_wrong_reading (claim_reading u.meaning bs) ≡ false → (r : Reading Truth) → claim_reading u.meaning bs ≡ r → ClaimMade u bs (length u.claims) (claimed (claim_reading u.meaning bs))
      go fit i room f (bad place) e = absurd (both_ways _ f (ap is_wrong_reading e))
      go fit i room f (good p end) e = record { fit = fit; idle_now = i; room = room; truth = p; says = read_says u.meaning bs p end e; number = refl; after = ap claimed e }

  pub claim_rules : (reply : Reply) (w : UnitModel) → Allows u (claim_call bs) reply w ↔ Is number_reply (claim u bs) reply w
  claim_rules (number_reply n) w = number_call (claim_refusal u bs) u (claimed (claim_reading u.meaning bs)) (length u.claims) (ClaimMade u bs) (ClaimRefused u bs) claim_judged claim_through claim_made (number_reply n) w
  claim_rules (slip_reply s) w = number_call (claim_refusal u bs) u (claimed (claim_reading u.meaning bs)) (length u.claims) (ClaimMade u bs) (ClaimRefused u bs) claim_judged claim_through claim_made (slip_reply s) w
  claim_rules (refusal_reply r) w = number_call (claim_refusal u bs) u (claimed (claim_reading u.meaning bs)) (length u.claims) (ClaimMade u bs) (ClaimRefused u bs) claim_judged claim_through claim_made (refusal_reply r) w

-- evidence

pub marked_set : (cs : List Claim) (i : ℕ) (c : Claim) (mark : Mark) → slice_get cs i ≡ Some c → claims_marked i mark cs ≡ set cs i (record { says = c.says; mark = mark })
marked_set [] i c mark e = refl
marked_set (d ∷ cs) zero c mark e = let same : d ≡ c = cc in ap (λ x. record { says = x.says; mark = mark } ∷ cs) same
marked_set (d ∷ cs) (suc i) c mark e = ap (λ x. d ∷ x) (marked_set cs i c mark e)

module _ (m : Meaning) (c : Claim) (ss : List (List ℕ)) where
  pub certificate_of : Certifies m c ss → accepted.Certificate m (holds c) ss
  certificate_of h = record {
    states = λ s k. row_state m s (h.states s k);
    true_in_each = h.true_in_each;
    initial_listed = λ t i. h.initial_listed t (initial_from m t i);
    successors_listed = λ s t k n. h.successors_listed s t k (next_from m s t (row_state m s (h.states s k)) n);
  }

  certifies_by : accepted.Certificate m (holds c) ss → Certifies m c ss
  certifies_by h = record {
    states = λ s k. row_from m s (h.states s k);
    true_in_each = h.true_in_each;
    initial_listed = λ t i. h.initial_listed t (row_initial m t i);
    successors_listed = λ s t k n. h.successors_listed s t k (row_next m s t n);
  }

module _ (m : Meaning) where
  rows_on : (s : List ℕ) (ts : List (List ℕ)) → is_state m.outline s ≡ true → states.Continues m s ts → runs.Continues (NextRow m) s ts
  rows_on s [] h c = tt
  rows_on s (t ∷ ts) h c = (next_from m s t h c.0, rows_on t ts (yields_parts m Update s t c.0.yielded).0 c.1)

  pub rows_trajectory : (ss : List (List ℕ)) → states.Trajectory m ss → runs.Trajectory (InitialRow m) (NextRow m) ss
  rows_trajectory [] h = absurd h
  rows_trajectory (s ∷ ts) h = (initial_from m s h.0, rows_on s ts (yields_parts m Initial nothing s h.0.yielded).0 h.1)

  on_rows : (s : List ℕ) (ts : List (List ℕ)) → runs.Continues (NextRow m) s ts → states.Continues m s ts
  on_rows s [] c = tt
  on_rows s (t ∷ ts) c = (row_next m s t c.0, on_rows t ts c.1)

  pub trajectory_rows : (ss : List (List ℕ)) → runs.Trajectory (InitialRow m) (NextRow m) ss → states.Trajectory m ss
  trajectory_rows [] h = absurd h
  trajectory_rows (s ∷ ts) h = (row_initial m s h.0, on_rows s ts h.1)

module _ (m : Meaning) (c : Claim) (ss : List (List ℕ)) where
  pub breaking_of : Breaks m c ss → accepted.BreakingRun m (holds c) ss
  breaking_of h = record { trajectory = trajectory_rows m ss h.trajectory; last = h.last; ends = h.ends; false_at_last = h.false_at_last }

  breaks_by : accepted.BreakingRun m (holds c) ss → Breaks m c ss
  breaks_by h = record { trajectory = rows_trajectory m ss h.trajectory; last = h.last; ends = h.ends; false_at_last = h.false_at_last }

module _ (u : UnitModel) (i : ℕ) (bs : List ℕ) where
  abbrev m : Meaning
  m = u.meaning

  -- evidence that nothing is said against
  there_is : (o : Option Claim) → slice_get u.claims i ≡ o → (check : Claim → Option Refusal) → of_claim o check ≡ None → (c : Claim) × (slice_get u.claims i ≡ Some c) × (check c ≡ None)
  there_is None e check h = absurd (none≢some NoSuchClaim (sym h))
  there_is (Some c) e check h = (c, e, h)

  clear_by : (def : Claim → List (List ℕ) → Option Refusal) → IsFit u → (e : Evidence u i bs) → def e.claim e.states ≡ None →
      (verdict_of u else of_claim (slice_get u.claims i) (λ c. if_so WrongSize (wrong_size bs) else def c (states_in bs))) ≡ None
  clear_by def fit e h =
      else_from (verdict_of u) _ (fit_none u fit)
      (subst (λ o. of_claim o (λ c. if_so WrongSize (wrong_size bs) else def c (states_in bs)) ≡ None) (sym e.there)
      (else_from (if_so WrongSize (wrong_size bs)) _ (ap (if_so WrongSize) (writes_right bs e.states e.writes)) (ap (def e.claim) (writes_back bs e.states e.writes) ∙ h)))

  pub certify_through : (n : ℕ) (w : UnitModel) → Certified u i bs n w → Through (certify_refusal u i bs) (with_claims u (claims_marked i held u.claims)) (certificate_count m (states_in bs)) n w
  certify_through n w ok =
      let e = ok.evidence in
      record {
        clear = clear_by (λ c ss. certificate_refusal m (holds c) ss) ok.fit e ((certificates_judged m (holds e.claim) e.states).1 (certificate_of m e.claim e.states ok.certifies));
        same = (count_of_outcomes m e.states n).0 ok.counted ∙ ap (certificate_count m) (sym (writes_back bs e.states e.writes));
        left = ok.after ∙ ap (with_claims u) (sym (marked_set u.claims i e.claim held e.there));
      }

  pub certify_made : certify_refusal u i bs ≡ None → Certified u i bs (certificate_count m (states_in bs)) (with_claims u (claims_marked i held u.claims))
  certify_made h =
      let one = else_parts (verdict_of u) _ h in
      let found = there_is (slice_get u.claims i) refl (λ c. if_so WrongSize (wrong_size bs) else certificate_refusal m (holds c) (states_in bs)) one.1 in
      let c = found.0 in
      let two = else_parts (if_so WrongSize (wrong_size bs)) (certificate_refusal m (holds c) (states_in bs)) found.2 in
      record {
        fit = fit_from u one.0;
        evidence = record { claim = c; there = found.1; states = states_in bs; writes = right_writes bs (if_so_parts WrongSize _ two.0) };
        certifies = certifies_by m c (states_in bs) ((certificates_judged m (holds c) (states_in bs)).0 two.1);
        counted = (count_of_outcomes m (states_in bs) (certificate_count m (states_in bs))).1 refl;
        after = ap (with_claims u) (marked_set u.claims i c held found.1);
      }

  pub refute_through : (n : ℕ) (w : UnitModel) → Refuted u i bs n w → Through (refute_refusal u i bs) (with_claims u (claims_marked i broken u.claims)) (length (states_in bs)) n w
  refute_through n w ok =
      let e = ok.evidence in
      record {
        clear = clear_by (λ c ss. run_refusal m (holds c) ss) ok.fit e ((runs_judged m (holds e.claim) e.states e.writes.some).1 (breaking_of m e.claim e.states ok.breaks));
        same = ok.counted ∙ ap length (sym (writes_back bs e.states e.writes));
        left = ok.after ∙ ap (with_claims u) (sym (marked_set u.claims i e.claim broken e.there));
      }

  pub refute_made : refute_refusal u i bs ≡ None → Refuted u i bs (length (states_in bs)) (with_claims u (claims_marked i broken u.claims))
  refute_made h =
      let one = else_parts (verdict_of u) _ h in
      let found = there_is (slice_get u.claims i) refl (λ c. if_so WrongSize (wrong_size bs) else run_refusal m (holds c) (states_in bs)) one.1 in
      let c = found.0 in
      let two = else_parts (if_so WrongSize (wrong_size bs)) (run_refusal m (holds c) (states_in bs)) found.2 in
      let w = right_writes bs (if_so_parts WrongSize _ two.0) in
      record {
        fit = fit_from u one.0;
        evidence = record { claim = c; there = found.1; states = states_in bs; writes = w };
        breaks = breaks_by m c (states_in bs) ((runs_judged m (holds c) (states_in bs) w.some).0 two.1);
        counted = refl;
        after = ap (with_claims u) (marked_set u.claims i c broken found.1);
      }

  certify_judged : Judged (certify_refusal u i bs) (EvidenceRefused NoCertificate u i bs)
  certify_judged = evidence_judged u i bs NoCertificate (λ c ss. certificate_refusal m (holds c) ss) (λ c ss _. certificate_judged m ss c)

  refute_judged : Judged (refute_refusal u i bs) (EvidenceRefused NoRun u i bs)
  refute_judged = evidence_judged u i bs NoRun (λ c ss. run_refusal m (holds c) ss) (λ c ss some. run_judged m ss c some)

  pub certify_rules : (reply : Reply) (w : UnitModel) → Allows u (certify_call i bs) reply w ↔ Is number_reply (certify u i bs) reply w
  certify_rules (number_reply n) w = number_call (certify_refusal u i bs) u (with_claims u (claims_marked i held u.claims)) (certificate_count m (states_in bs)) (Certified u i bs) (EvidenceRefused NoCertificate u i bs) certify_judged certify_through certify_made (number_reply n) w
  certify_rules (slip_reply s) w = number_call (certify_refusal u i bs) u (with_claims u (claims_marked i held u.claims)) (certificate_count m (states_in bs)) (Certified u i bs) (EvidenceRefused NoCertificate u i bs) certify_judged certify_through certify_made (slip_reply s) w
  certify_rules (refusal_reply r) w = number_call (certify_refusal u i bs) u (with_claims u (claims_marked i held u.claims)) (certificate_count m (states_in bs)) (Certified u i bs) (EvidenceRefused NoCertificate u i bs) certify_judged certify_through certify_made (refusal_reply r) w

  pub refute_rules : (reply : Reply) (w : UnitModel) → Allows u (refute_call i bs) reply w ↔ Is number_reply (refute u i bs) reply w
  refute_rules (number_reply n) w = number_call (refute_refusal u i bs) u (with_claims u (claims_marked i broken u.claims)) (length (states_in bs)) (Refuted u i bs) (EvidenceRefused NoRun u i bs) refute_judged refute_through refute_made (number_reply n) w
  refute_rules (slip_reply s) w = number_call (refute_refusal u i bs) u (with_claims u (claims_marked i broken u.claims)) (length (states_in bs)) (Refuted u i bs) (EvidenceRefused NoRun u i bs) refute_judged refute_through refute_made (slip_reply s) w
  refute_rules (refusal_reply r) w = number_call (refute_refusal u i bs) u (with_claims u (claims_marked i broken u.claims)) (length (states_in bs)) (Refuted u i bs) (EvidenceRefused NoRun u i bs) refute_judged refute_through refute_made (refusal_reply r) w

-- stop

module _ (u : UnitModel) where
  stop_through : (n : ℕ) (w : UnitModel) → Stopped u n w → Through (verdict_of u) (with_phase u idle) 0 n w
  stop_through n w ok = record { clear = fit_none u ok.fit; same = ok.answer; left = ok.after }

  stop_made : verdict_of u ≡ None → Stopped u 0 (with_phase u idle)
  stop_made h = record { fit = fit_from u h; answer = refl; after = refl }

  pub stop_rules : (reply : Reply) (w : UnitModel) → Allows u stop_call reply w ↔ Is number_reply (stop u) reply w
  stop_rules (number_reply n) w = number_call (verdict_of u) u (with_phase u idle) 0 (Stopped u) (Unfit u) (unit_judged u) stop_through stop_made (number_reply n) w
  stop_rules (slip_reply s) w = number_call (verdict_of u) u (with_phase u idle) 0 (Stopped u) (Unfit u) (unit_judged u) stop_through stop_made (slip_reply s) w
  stop_rules (refusal_reply r) w = number_call (verdict_of u) u (with_phase u idle) 0 (Stopped u) (Unfit u) (unit_judged u) stop_through stop_made (refusal_reply r) w
