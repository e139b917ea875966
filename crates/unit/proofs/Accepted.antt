-- Evidence is accepted exactly where it is a certificate, or a run that breaks the claim.
use Rattle.std.proofs.Common.{◌≡◌, ℕ, ◌≤◌, ◌/◌, ◌%◌, ◌↔◌, false, List, length, take, drop, not, ◌||◌, ◌*◌, eqb, ltb, Some, None, Ok, Err, Option, Result, IsOk, slice_get, refl, ap, ◌∙◌, subst, arith}
use Rattle.std.proofs.lemmas.Bool.{false≢true, eqb-false, eqb-true, not-false, or_parts}
use Rattle.std.proofs.lemmas.List.{length-map}
use Rattle.theory.specs.Enumerations.{below}
use Rattle.theory.proofs.Enumerations.{length_below}
use Rattle.units.specs.Evidence.{certificate_refusal, run_refusal, states_in, wrong_size}
use Rattle.units.specs.Sealing.{if_so, ◌else◌}
use Rattle.units.specs.Units.{Claim, UnitModel, certify, certify_refusal, holds, of_claim, refute, refute_refusal, unless, verdict_of}
use Rattle.units.specs.declared.refusal.Refusal.{Refusal}
use Rattle.units.specs.declared.refusal.Refusal.TheVariants.{WrongSize}
use Rattle.units.proofs.Evidence.{else_from, else_parts, if_so_parts}
use Rattle.units.proofs.Theory.{certificates_judged, runs_judged}
use Rattle.unit.specs.Calls.{answer_of}
use Rattle.unit.specs.Promises.{Breaks, Certifies}

-- a right size is at least one state
some_states : (bs : List ℕ) → wrong_size bs ≡ false → 1 ≤ length (states_in bs)
some_states bs h =
    let one = or_parts (not (eqb (length bs % 32) 0) || eqb (length bs) 0) (ltb 2048 (length bs / 32)) h in
    let two = or_parts (not (eqb (length bs % 32) 0)) (eqb (length bs) 0) one.0 in
    let whole : length bs % 32 ≡ 0 = eqb-true (length bs % 32) 0 (not-false _ two.0) in
    let some : length bs ≡ 0 → ⊥ = eqb-false (length bs) 0 two.1 in
    let long = length-map (below (length bs / 32)) (λ i. take 32 (drop (32 * i) bs)) ∙ length_below (length bs / 32) in
    omega (arith, long)

-- what is answered tells whether something is refused
module _ (f : Option Refusal) (u after : UnitModel) (a : ℕ) where
  none_refused : (r : Result ℕ Refusal) → answer_of r ≡ (unless f u after a).answer → IsOk r → f ≡ None
  none_refused (Ok n) e k = go f e
    where
      go : (g : Option Refusal) → answer_of (Ok n) ≡ (unless g u after a).answer → g ≡ None
      go None h = refl
      go (Some refusal) h = let z : ◌≡◌ {A = ℕ} 0 1 = cc in absurd (omega arith)
  none_refused (Err r) e k = absurd (false≢true k)

  is_accepted : (r : Result ℕ Refusal) → answer_of r ≡ (unless f u after a).answer → f ≡ None → IsOk r
  is_accepted (Ok n) e k = refl
  is_accepted (Err r) e k =
      let h : answer_of (Err r) ≡ (unless None u after a).answer = subst (λ g. answer_of (Err r) ≡ (unless g u after a).answer) k e in
      let z : ◌≡◌ {A = ℕ} 0 1 = cc in absurd (omega arith)

-- what is judged of the claim that is there, and of states in a right number
module _ (found : Option Claim) (bs : List ℕ) (check : Claim → Option Refusal) where
  judged_parts : of_claim found (λ c. if_so WrongSize (wrong_size bs) else check c) ≡ None → (c : Claim) × (found ≡ Some c) × (wrong_size bs ≡ false) × (check c ≡ None)
  judged_parts h = go found refl h
    where
      go : (o : Option Claim) → found ≡ o → of_claim o (λ c. if_so WrongSize (wrong_size bs) else check c) ≡ None → (c : Claim) × (found ≡ Some c) × (wrong_size bs ≡ false) × (check c ≡ None)
      go None e k = let z : ◌≡◌ {A = ℕ} 0 1 = cc in absurd (omega arith)
      go (Some c) e k = let p = else_parts (if_so WrongSize (wrong_size bs)) (check c) k in (c, e, if_so_parts WrongSize _ p.0, p.1)

  judged_from : (c : Claim) → found ≡ Some c → wrong_size bs ≡ false → check c ≡ None → of_claim found (λ d. if_so WrongSize (wrong_size bs) else check d) ≡ None
  judged_from c e right k =
      ap (λ o. of_claim o (λ d. if_so WrongSize (wrong_size bs) else check d)) e
      ∙ else_from (if_so WrongSize (wrong_size bs)) (check c) (ap (if_so WrongSize) right) k

module _ (u : UnitModel) (number : ℕ) (bs : List ℕ) (r : Result ℕ Refusal) where
  pub certified : answer_of r ≡ (certify u number bs).answer → IsOk r ↔ Certifies u number bs
  certified e = (
    λ k.
        let p = else_parts (verdict_of u) _ (none_refused (certify_refusal u number bs) u _ _ r e k) in
        let q = judged_parts (slice_get u.claims number) bs (λ c. certificate_refusal u.meaning (holds c) (states_in bs)) p.1 in
        record { fit = p.0; claim = q.0; there = q.1; right_size = q.2; certificate = (certificates_judged u.meaning (holds q.0) (states_in bs)).0 q.3 },
    λ h. is_accepted (certify_refusal u number bs) u _ _ r e
        (else_from (verdict_of u) _ h.fit
        (judged_from (slice_get u.claims number) bs (λ c. certificate_refusal u.meaning (holds c) (states_in bs)) h.claim h.there h.right_size
        ((certificates_judged u.meaning (holds h.claim) (states_in bs)).1 h.certificate))),
  )

  pub broken_rightly : answer_of r ≡ (refute u number bs).answer → IsOk r ↔ Breaks u number bs
  broken_rightly e = (
    λ k.
        let p = else_parts (verdict_of u) _ (none_refused (refute_refusal u number bs) u _ _ r e k) in
        let q = judged_parts (slice_get u.claims number) bs (λ c. run_refusal u.meaning (holds c) (states_in bs)) p.1 in
        record { fit = p.0; claim = q.0; there = q.1; right_size = q.2; run = (runs_judged u.meaning (holds q.0) (states_in bs) (some_states bs q.2)).0 q.3 },
    λ h. is_accepted (refute_refusal u number bs) u _ _ r e
        (else_from (verdict_of u) _ h.fit
        (judged_from (slice_get u.claims number) bs (λ c. run_refusal u.meaning (holds c) (states_in bs)) h.claim h.there h.right_size
        ((runs_judged u.meaning (holds h.claim) (states_in bs) (some_states bs h.right_size)).1 h.run))),
  )
