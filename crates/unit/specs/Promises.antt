-- What units promise, in the subject's words.
use Rattle.std.specs.Prelude.{◌≡◌, ℕ, ◌↔◌, false, List, Some, None, Option, slice_get}
use Rattle.std.specs.Option.{option_map}
use Rattle.model.specs.Faults.{numbers_of}
use Rattle.model.specs.Meanings.{Meaning}
use Rattle.model.specs.States.{InitialState}
use Rattle.sealing.specs.Orders.{AtomsInOrder}
use Rattle.reactive.specs.Limits.{Limits}
use Rattle.reactive.specs.Modules.{module_of}
use Rattle.reactive.specs.Reactive.{IsModule}
use Rattle.reactive.specs.Statements.{CompletesRounds}
use Rattle.units.specs.Accepted.{BreakingRun, Certificate}
use Rattle.units.specs.Evidence.{states_in, wrong_size}
use Rattle.units.specs.Units.{Claim, UnitModel, holds, verdict_of}
use Rattle.units.specs.Refusals.{refusal_fault}
use Rattle.units.specs.declared.refusal.Refusal.{Refusal}
use Rattle.unit.specs.declared.state.UnitState.{UnitState}

-- A sealed unit is fit exactly when nothing is wrong with its drawing, its module is a reactive module, and it stays within the
-- limits. On a fit one the order that it keeps has each atom exactly once and after those that it awaits, an initial state exists,
-- and whatever values the external names are given, every round leads somewhere.
pub record SealedRightly (m : Meaning) (s : UnitState) : Type 0 where
  pub fit : (s.verdict ≡ None) ↔ ((m.outline.fault ≡ None) × IsModule (module_of m) × Limits m)
  pub ordered : s.verdict ≡ None → AtomsInOrder m.outline s.order
  pub starts : s.verdict ≡ None → (t : List ℕ) × InitialState m t
  pub goes_on : s.verdict ≡ None → CompletesRounds m

-- the verdict as number, layer and place, three times 0 when fit
abbrev pub verdict_numbers : Option Refusal → ℕ × ℕ × ℕ
verdict_numbers v = numbers_of (option_map refusal_fault v)

-- the number told is 0 exactly when there is nothing wrong
abbrev pub ZeroWhenFit : Option Refusal → Type 0
ZeroWhenFit v = ((verdict_numbers v).0 ≡ 0) ↔ (v ≡ None)

-- The bytes list a certificate for the claim with this number, on a fit unit.
pub record Certifies (u : UnitModel) (number : ℕ) (bs : List ℕ) : Type 0 where
  pub fit : verdict_of u ≡ None
  pub claim : Claim
  pub there : slice_get u.claims number ≡ Some claim
  pub right_size : wrong_size bs ≡ false
  pub certificate : Certificate u.meaning (holds claim) (states_in bs)

-- The bytes list a run that breaks the claim with this number, on a fit unit.
pub record Breaks (u : UnitModel) (number : ℕ) (bs : List ℕ) : Type 0 where
  pub fit : verdict_of u ≡ None
  pub claim : Claim
  pub there : slice_get u.claims number ≡ Some claim
  pub right_size : wrong_size bs ≡ false
  pub run : BreakingRun u.meaning (holds claim) (states_in bs)
