-- What every unit keeps from the call that made it on.
use Rattle.std.specs.Prelude.{◌≡◌, ℕ, ◌≤◌, false, List, replicate, slice_get, Some, None, Option}
use Rattle.model.specs.Meanings.{OutlineFacts, Meaning}
use Rattle.sealing.specs.Orders.{AtomsInOrder, atom_order}
use Rattle.unit.specs.Claims.{written_claims}
use Rattle.unit.specs.Phases.{fired_at}
use Rattle.unit.specs.States.{model_of}
use Rattle.unit.specs.declared.claims.Claims.{Claims}
use Rattle.unit.specs.declared.phase.Phase.{Phase}
use Rattle.unit.specs.declared.state.UnitState.{UnitState}
use Rattle.units.specs.Life.{Came}
use Rattle.units.specs.declared.refusal.Refusal.{Refusal}
use Rattle.units.specs.Units.{claim_reading, is_wrong_reading, verdict_of}

-- the order of the atoms that is kept: on a fit unit that of the outline, on an unfit one zeros
abbrev pub order_kept : Option Refusal → OutlineFacts → List ℕ
order_kept None o = atom_order o
order_kept (Some r) o = replicate 16 0

-- every claim is one right truth that sees variables of the module alone
abbrev pub ClaimsSee : Meaning → Claims → Type 0
ClaimsSee m cs = (number : ℕ) (bs : List ℕ) → slice_get (written_claims cs) number ≡ Some bs → is_wrong_reading (claim_reading m bs) ≡ false

-- no atom that there is not has fired
abbrev pub NoneBeyond : ℕ → Phase → Type 0
NoneBeyond atoms p = (a : ℕ) → atoms ≤ a → fired_at p a ≡ false

-- A unit whose drawing means m and that keeps s. How it came from the site is not kept, so that a type can keep the fact.
pub record UnitInvariant (m : Meaning) (s : UnitState) : Type 0 where
  pub judged : s.verdict ≡ verdict_of (model_of m s)
  pub ordered : s.order ≡ order_kept s.verdict m.outline
  pub in_order : s.verdict ≡ None → ∥ AtomsInOrder m.outline s.order ∥₁
  pub fired : NoneBeyond m.outline.atoms s.phase
  pub claims_see : ClaimsSee m s.claims
  pub came : ∥ Came (model_of m s) ∥₁
