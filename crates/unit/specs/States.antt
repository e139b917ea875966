-- The unit that a state stands for, beside what its drawing means.
use Rattle.std.specs.Prelude.{◌≡◌, ℕ, Bool, List}
use Rattle.model.specs.Meanings.{Meaning}
use Rattle.unit.specs.Claims.{claims_of}
use Rattle.unit.specs.Phases.{phase_of}
use Rattle.unit.specs.declared.state.UnitState.{UnitState}
use Rattle.units.specs.Units.{UnitModel, Claim, idle, kept_claims, verdict_with}

abbrev pub model_of : Meaning → UnitState → UnitModel
model_of m s = record {
  meaning = m;
  number = s.number;
  rounds = s.rounds;
  crowded = s.crowded;
  claims = claims_of s.claims;
  phase = phase_of s.phase;
}

-- a unit made anew, idle; an unfit one has no claims
abbrev pub new_unit : Meaning → ℕ → ℕ → Bool → List Claim → UnitModel
new_unit m number rounds crowded cs = record {
  meaning = m;
  number = number;
  rounds = rounds;
  crowded = crowded;
  claims = kept_claims (verdict_with m crowded) cs;
  phase = idle;
}

-- the states differ in their claims alone
pub record SameButClaims (old new : UnitState) : Type 0 where
  pub number : new.number ≡ old.number
  pub rounds : new.rounds ≡ old.rounds
  pub verdict : new.verdict ≡ old.verdict
  pub crowded : new.crowded ≡ old.crowded
  pub phase : new.phase ≡ old.phase
  pub order : new.order ≡ old.order
