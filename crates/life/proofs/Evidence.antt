-- Certificates and runs: when they are accepted, and why they are not.
use Rattle.std.proofs.Common.{◌≡◌, ℕ, ◌+◌, ◌-◌, ◌<◌, ◌≤◌, Bool, true, false, not, ◌&&◌, List, length, Some, None, Option, sym, refl, ap, ◌∙◌, subst, inl, inr, ⊎_elim, arith}
use Rattle.std.proofs.lemmas.Bool.{and_cases, and_parts, both_ways, cases_Bool, not-false, not-true}
use Rattle.std.specs.List.{slice_get}
use Rattle.model.specs.Meanings.{Meaning}
use Rattle.model.specs.States.{value, is_state, yields, nothing}
use Rattle.model.specs.Tests.{lowest}
use Rattle.model.specs.declared.Round.{Round}
use Rattle.model.specs.declared.Round.TheVariants.{Initial, Update}
use Rattle.model.proofs.Bounded.{lowest_at}
use Rattle.model.proofs.Lowest.{lowest_clear, lowest_found, clear_lowest}
use Rattle.model.proofs.States.{yields_parts}
use Rattle.theory.specs.Members.{Member}
use Rattle.units.specs.Evidence.{state_at, all_states, states_in, wrong_size, is_listed, misses_some, foreign_state_refusal, certificate_refusal, later, run_refusal}
use Rattle.units.specs.Models.{Claim, UnitModel}
use Rattle.units.specs.Sealing.{at_lowest, if_so, ◌else◌}
use Rattle.units.specs.Units.{holds, verdict_of, of_claim}
use Rattle.units.specs.declared.refusal.Refusal.{Refusal}
use Rattle.units.specs.declared.refusal.Refusal.TheVariants.{NoSuchClaim, WrongSize, NotAState, FalseIn, TrueInLast, InitialStateMissing, NotInitial, SuccessorMissing, NotASuccessor}
use Rattle.units.proofs.Evidence.{at_lowest_parts, if_so_parts}
use Rattle.units.proofs.Listed.{any_parts, none_passes, lists_parts, lists_from, all_states_exact}
use Rattle.life.specs.Reasons.{Because, AtLowest, ◌or-else◌}
use Rattle.life.specs.Rules.{Lacks, NoCertificate, NoStep, TrueAtEnd, NoRun, Against, EvidenceRefused}
use Rattle.life.specs.Subject.{StateRow, InitialRow, NextRow, IsFalseAt, WritesStates}
use Rattle.life.proofs.Bridge.{row_from, row_state, initial_from, row_initial, next_from, row_next}
use Rattle.life.proofs.Fitness.{unit_judged}
use Rattle.life.proofs.Judging.{Judged, none≢some, judged_else, judged_if, judged_lowest}
use Rattle.life.proofs.Written.{writes_back, writes_right, right_writes}

module _ (m : Meaning) (ss : List (List ℕ)) where
  listed : (r : Round) (s t : List ℕ) → misses_some m ss r s ≡ false → yields m r s t ≡ true → Member t ss
  listed r s t h y =
      let both = none_passes (λ u. yields m r s u && not (is_listed ss u)) (all_states m.outline) t h ((all_states_exact m.outline).complete t (yields_parts m r s t y).0) in
      lists_parts ss t (⊎_elim (λ e. absurd (both_ways (yields m r s t) e y)) (not-false (is_listed ss t)) (and_cases (yields m r s t) (not (is_listed ss t)) both))

  missed : (r : Round) (s : List ℕ) → misses_some m ss r s ≡ true → (t : List ℕ) × (yields m r s t ≡ true) × (Member t ss → ⊥)
  missed r s h =
      let k = any_parts (λ u. yields m r s u && not (is_listed ss u)) (all_states m.outline) h in
      let both = and_parts (yields m r s k.0) (not (is_listed ss k.0)) k.2 in
      (k.0, both.0, λ there. both_ways (is_listed ss k.0) (not-true _ both.1) (lists_from ss k.0 there))

  misses : (r : Round) (s t : List ℕ) → yields m r s t ≡ true → (Member t ss → ⊥) → misses_some m ss r s ≡ true
  misses r s t y none = ⊎_elim (λ e. e) (λ f. absurd (none (listed r s t f y))) (cases_Bool (misses_some m ss r s))

  lacks_initial : misses_some m ss Initial nothing ≡ true → Lacks (InitialRow m) ss
  lacks_initial h = let k = missed Initial nothing h in record { state = k.0; is_one = initial_from m k.0 (record { yielded = k.1 }); unlisted = k.2 }

  initial_lacks : Lacks (InitialRow m) ss → misses_some m ss Initial nothing ≡ true
  initial_lacks l = misses Initial nothing l.state (row_initial m l.state l.is_one).yielded l.unlisted

  lacks_next : (s : List ℕ) → is_state m.outline s ≡ true → misses_some m ss Update s ≡ true → Lacks (NextRow m s) ss
  lacks_next s there h = let k = missed Update s h in record { state = k.0; is_one = next_from m s k.0 there (record { yielded = k.1 }); unlisted = k.2 }

  next_lacks : (s : List ℕ) → Lacks (NextRow m s) ss → misses_some m ss Update s ≡ true
  next_lacks s l = misses Update s l.state (row_next m s l.state l.is_one).yielded l.unlisted

  foreign : (s : List ℕ) → not (is_state m.outline s) ≡ true → StateRow m s → ⊥
  foreign s h r = both_ways (is_state m.outline s) (not-true _ h) (row_state m s r)

  is_foreign : (s : List ℕ) → (StateRow m s → ⊥) → not (is_state m.outline s) ≡ true
  is_foreign s none = ⊎_elim (λ e. absurd (none (row_from m s e))) (λ f. ap not f) (cases_Bool (is_state m.outline s))

  foreign_judged : Judged (foreign_state_refusal m ss) (AtLowest (λ i. StateRow m (state_at ss i) → ⊥) (length ss) NotAState)
  foreign_judged = judged_lowest (λ i. not (is_state m.outline (state_at ss i))) (λ i. StateRow m (state_at ss i) → ⊥) (length ss) NotAState (λ i _. foreign (state_at ss i)) (λ i _. is_foreign (state_at ss i))

  own_states : foreign_state_refusal m ss ≡ None → (i : ℕ) → i < length ss → is_state m.outline (state_at ss i) ≡ true
  own_states h i l = not-false _ (lowest_clear (λ i. not (is_state m.outline (state_at ss i))) (length ss) (at_lowest_parts NotAState _ h) i l)

  module _ (c : Claim) where
    pub certificate_judged : Judged (certificate_refusal m (holds c) ss) (NoCertificate m c ss)
    certificate_judged =
        judged_else (foreign_state_refusal m ss) _ _ _ foreign_judged (λ own.
        judged_else (at_lowest FalseIn (lowest (λ i. not (holds c (state_at ss i))) (length ss))) _ _ _ (judged_lowest (λ i. not (holds c (state_at ss i))) (λ i. IsFalseAt c (value (state_at ss i))) (length ss) FalseIn (λ i _ h. not-true _ h) (λ i _ h. ap not h)) (λ _.
        judged_else (if_so InitialStateMissing (misses_some m ss Initial nothing)) _ _ _ (judged_if (misses_some m ss Initial nothing) (Lacks (InitialRow m) ss) InitialStateMissing lacks_initial initial_lacks) (λ _.
        judged_lowest (λ i. misses_some m ss Update (state_at ss i)) (λ i. Lacks (NextRow m (state_at ss i)) ss) (length ss) SuccessorMissing (λ i l. lacks_next (state_at ss i) (own_states own i l)) (λ i l. next_lacks (state_at ss i)))))

    no_step : ℕ → Bool
    no_step i = not (yields m Update (state_at ss i) (state_at ss (i + 1)))

    module _ (own : foreign_state_refusal m ss ≡ None) where
      unstepped : (i : ℕ) → no_step i ≡ true → NextRow m (state_at ss i) (state_at ss (i + 1)) → ⊥
      unfolding no_step
      unstepped i h n = both_ways (yields m Update (state_at ss i) (state_at ss (i + 1))) (not-true _ h) (row_next m (state_at ss i) (state_at ss (i + 1)) n).yielded

      is_unstepped : (i : ℕ) → i < length ss → (NextRow m (state_at ss i) (state_at ss (i + 1)) → ⊥) → no_step i ≡ true
      unfolding no_step
      is_unstepped i l none = ⊎_elim (λ e. absurd (none (next_from m (state_at ss i) (state_at ss (i + 1)) (own_states own i l) (record { yielded = e })))) (λ f. ap not f) (cases_Bool (yields m Update (state_at ss i) (state_at ss (i + 1))))

      step_found : (o : Option ℕ) → lowest no_step (length ss - 1) ≡ o → (r : Refusal) → at_lowest NotASuccessor (later o) ≡ Some r → AtLowest (NoStep m ss) (length ss) NotASuccessor r
      step_found None e r h = absurd (none≢some r h)
      step_found (Some i) e r h =
          let low = lowest_found no_step (length ss - 1) i e in
          record {
            place = i + 1;
            below = omega (arith, low.inside);
            is_so = record { before = i; next = refl; unstepped = unstepped i low.passes };
            none_lower = λ k l s. both_ways (no_step s.before) (low.below s.before (omega (arith, s.next))) (is_unstepped s.before (omega (arith, s.next, low.inside)) s.unstepped);
            is = cc;
          }

      steps_judged : Judged (at_lowest NotASuccessor (later (lowest no_step (length ss - 1)))) (AtLowest (NoStep m ss) (length ss) NotASuccessor)
      steps_judged = record {
        there = step_found (lowest no_step (length ss - 1)) refl;
        back = λ r h.
            let i = h.is_so.before in
            let place : h.place ≡ i + 1 = h.is_so.next in
            let first : lowest no_step i ≡ None = clear_lowest no_step i (λ k l. ⊎_elim (λ t. absurd (h.none_lower (k + 1) (omega arith) (record { before = k; next = refl; unstepped = unstepped k t }))) (λ f. f) (cases_Bool (no_step k))) in
            let found : lowest no_step (length ss - 1) ≡ Some i = lowest_at no_step (length ss - 1) i (omega (arith, h.below)) first (is_unstepped i (omega (arith, h.below)) h.is_so.unstepped) in
            ap (λ o. at_lowest NotASuccessor (later o)) found ∙ ap (λ k. Some (NotASuccessor k)) (sym place) ∙ ap Some (sym h.is);
      }

    end_judged : 1 ≤ length ss → Judged (if_so (TrueInLast (length ss - 1)) (holds c (state_at ss (length ss - 1)))) (TrueAtEnd c ss)
    end_judged some = record {
      there = λ r. go (holds c (state_at ss (length ss - 1))) refl r;
      back = λ r h.
          let same : h.last ≡ length ss - 1 = omega (arith, h.is_last) in
          ap (if_so (TrueInLast (length ss - 1))) (subst (λ k. holds c (state_at ss k) ≡ true) same h.true_there) ∙ ap (λ k. Some (TrueInLast k)) (sym same) ∙ ap Some (sym h.is);
    }
      where
        go : (b : Bool) → holds c (state_at ss (length ss - 1)) ≡ b → (r : Refusal) → if_so (TrueInLast (length ss - 1)) b ≡ Some r → TrueAtEnd c ss r
        go false e r h = absurd (none≢some r h)
        go true e r h = record { last = length ss - 1; is_last = omega (arith, some); true_there = e; is = cc }

    begins : Judged (if_so NotInitial (not (yields m Initial nothing (state_at ss 0)))) (Because (InitialRow m (state_at ss 0) → ⊥) NotInitial)
    begins = judged_if (not (yields m Initial nothing (state_at ss 0))) (InitialRow m (state_at ss 0) → ⊥) NotInitial
        (λ h i. both_ways (yields m Initial nothing (state_at ss 0)) (not-true _ h) (row_initial m (state_at ss 0) i).yielded)
        (λ none. ⊎_elim (λ e. absurd (none (initial_from m (state_at ss 0) (record { yielded = e })))) (λ f. ap not f) (cases_Bool (yields m Initial nothing (state_at ss 0))))

    pub run_judged : 1 ≤ length ss → Judged (run_refusal m (holds c) ss) (NoRun m c ss)
    unfolding no_step
    run_judged some =
        judged_else (foreign_state_refusal m ss) _ _ _ foreign_judged (λ own.
        judged_else (if_so NotInitial (not (yields m Initial nothing (state_at ss 0)))) _ _ _ begins (λ _.
        judged_else (at_lowest NotASuccessor (later (lowest no_step (length ss - 1)))) _ _ _ (steps_judged own) (λ _.
        end_judged some)))

-- evidence for the claim that has a number

module _ (u : UnitModel) (i : ℕ) (bytes : List ℕ) (why : Meaning → Claim → List (List ℕ) → Refusal → Type 0) (def : Claim → List (List ℕ) → Option Refusal)
    (judges : (c : Claim) (ss : List (List ℕ)) → 1 ≤ length ss → Judged (def c ss) (why u.meaning c ss)) where
  abbrev Sized : Type 0
  Sized = (ss : List (List ℕ)) → WritesStates bytes ss → ⊥

  against : (c : Claim) → slice_get u.claims i ≡ Some c → wrong_size bytes ≡ false → Judged (def c (states_in bytes)) (Against why u i bytes)
  against c e right =
      let w = right_writes bytes right in
      let j = judges c (states_in bytes) w.some in
      record {
        there = λ r h. record { evidence = record { claim = c; there = e; states = states_in bytes; writes = w }; reason = j.there r h };
        back = λ r h.
            let same : c ≡ h.evidence.claim = let f : Some c ≡ Some h.evidence.claim = sym e ∙ h.evidence.there in cc in
            let states : states_in bytes ≡ h.evidence.states = writes_back bytes h.evidence.states h.evidence.writes in
            j.back r (subst (λ x. why u.meaning x (states_in bytes) r) (sym same) (subst (λ x. why u.meaning h.evidence.claim x r) (sym states) h.reason));
      }

  sized : Judged (if_so WrongSize (wrong_size bytes)) (Because Sized WrongSize)
  sized = judged_if (wrong_size bytes) Sized WrongSize (λ h ss w. both_ways (wrong_size bytes) (writes_right bytes ss w) h) (λ none. ⊎_elim (λ t. t) (λ f. absurd (none (states_in bytes) (right_writes bytes f))) (cases_Bool (wrong_size bytes)))

  of_this : (o : Option Claim) → slice_get u.claims i ≡ o → Judged (of_claim o (λ c. if_so WrongSize (wrong_size bytes) else def c (states_in bytes))) (Because (slice_get u.claims i ≡ None) NoSuchClaim or-else Because Sized WrongSize or-else Against why u i bytes)
  of_this None e = record {
    there = λ r h. inl (record { is_so = e; is = cc });
    back = λ r h. ⊎_elim (λ b. ap Some (sym b.is)) (λ b. absurd (b.0 NoSuchClaim (record { is_so = e; is = refl }))) h;
  }
  of_this (Some c) e =
      let rest = judged_else (if_so WrongSize (wrong_size bytes)) (def c (states_in bytes)) _ _ sized (λ fine. against c e (if_so_parts WrongSize _ fine)) in
      record {
        there = λ r h. inr (λ q b. none≢some c (sym b.is_so ∙ e), rest.there r h);
        back = λ r h. ⊎_elim (λ b. absurd (none≢some c (sym b.is_so ∙ e))) (λ b. rest.back r b.1) h;
      }

  pub evidence_judged : Judged (verdict_of u else of_claim (slice_get u.claims i) (λ c. if_so WrongSize (wrong_size bytes) else def c (states_in bytes))) (EvidenceRefused why u i bytes)
  evidence_judged = judged_else (verdict_of u) _ _ _ (unit_judged u) (λ _. of_this (slice_get u.claims i) refl)
