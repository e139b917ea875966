-- What calls on a unit answer.
use Rattle.std.specs.Prelude.{◌≡◌, ℕ, false, List, [], ◌∷◌, ◌++◌, length, nat_le, Some, None, Ok, Err, Option, Result}
use Rattle.model.specs.Rows.{row_items}
use Rattle.evidence.specs.Judging.{answer_of as unless_refused}
use Rattle.unit.specs.Claims.{claim_of}
use Rattle.unit.specs.declared.claims.Claim as claims
use Rattle.unit.specs.declared.state.Call.{Call}
use Rattle.unit.specs.declared.state.Call.TheVariants.{Claim, Certify, Refute}
use Rattle.units.specs.Evidence.{certificate_count, states_in}
use Rattle.units.specs.Units.{Answer, done, refused, Phase, idle, standing, in_round, UnitModel, claims_with, claim_reading, claim_refusal, certify_refusal, refute_refusal, is_wrong_reading}
use Rattle.units.specs.Refusals.{refusal_fault}
use Rattle.units.specs.declared.refusal.Refusal.{Refusal}
use Rattle.units.specs.declared.refusal.Refusal.TheVariants.{NotIdle}

-- what the phase of a unit refuses of a call, whatever that carries
abbrev pub phase_refusal : Call → Phase → Option Refusal
phase_refusal Claim idle = None
phase_refusal Claim (standing s) = Some NotIdle
phase_refusal Claim (in_round before new fired) = Some NotIdle
phase_refusal Certify p = None
phase_refusal Refute p = None

-- let through, unless there is a refusal
abbrev pub let_through : Option Refusal → Result (Unit {0}) Refusal
let_through None = Ok tt
let_through (Some r) = Err r

-- an answer, or a refusal
abbrev pub answer_of : {A : Type 0} → Result A Refusal → Answer A
answer_of (Ok a) = done a
answer_of (Err r) = refused r

-- the answer to `certify`: number, layer and place of a refusal, and the count, 0 where there is none
abbrev pub certify_numbers : Answer ℕ → ℕ × ℕ × ℕ × ℕ
certify_numbers (done count) = (0, 0, 0, count)
certify_numbers (refused r) = ((refusal_fault r).number, (refusal_fault r).layer, (refusal_fault r).place, 0)

-- what the states that bytes list are answered with as a certificate for a claim, and as a run that breaks it
abbrev pub certificate_judged : UnitModel → ℕ → List ℕ → Result ℕ Refusal
certificate_judged u number bs = unless_refused (certify_refusal u number bs) (certificate_count u.meaning (states_in bs))

abbrev pub run_judged : UnitModel → ℕ → List ℕ → Result ℕ Refusal
run_judged u number bs = unless_refused (refute_refusal u number bs) (length (states_in bs))

-- the bytes make this claim on the unit, which has room for it
pub record ClaimAccepted (u : UnitModel) (bs : List ℕ) (c : claims.Claim) : Type 0 where
  pub accepted : claim_refusal u bs ≡ None
  pub added : claims_with u.claims (claim_reading u.meaning bs) ≡ u.claims ++ claim_of c ∷ []
  pub written : row_items c.bytes ≡ bs
  pub read : is_wrong_reading (claim_reading u.meaning bs) ≡ false
  pub room : nat_le 8 (length u.claims) ≡ false

-- the claim that the bytes make, or why they make none
abbrev pub ClaimJudged : UnitModel → List ℕ → Result claims.Claim Refusal → Type 0
ClaimJudged u bs (Ok c) = ClaimAccepted u bs c
ClaimJudged u bs (Err r) = claim_refusal u bs ≡ Some r
