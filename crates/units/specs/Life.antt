-- Which units can come from the site: any that sealing makes, and what any call leaves of one, whatever the call
-- carried and whether it was refused or not. A round is opened with 32 values.
use Rattle.std.specs.Prelude.{◌≡◌, ℕ, List, length}
use Rattle.model.specs.Meanings.{Meaning}
use Rattle.units.specs.Units.{UnitModel, Slip, seal, rename_unit, hide_unit, join_units, claim, certify, refute, open_round, fire, end_round, stop}

pub data Came : UnitModel → Type 0 where
  by_seal : (m : Meaning) (number : ℕ) → Came (seal m number)
  by_claim : (u : UnitModel) (bytes : List ℕ) → Came u → Came (claim u bytes).unit
  by_certify : (u : UnitModel) (i : ℕ) (bytes : List ℕ) → Came u → Came (certify u i bytes).unit
  by_refute : (u : UnitModel) (i : ℕ) (bytes : List ℕ) → Came u → Came (refute u i bytes).unit
  by_open : (u : UnitModel) (given : List ℕ) → length given ≡ 32 → Came u → Came (open_round u given).unit
  by_fire : (u : UnitModel) (slip : Slip) (atom choice : ℕ) → Came u → Came (fire u slip atom choice).unit
  by_end : (u : UnitModel) (slip : Slip) → Came u → Came (end_round u slip).unit
  by_stop : (u : UnitModel) → Came u → Came (stop u).unit
  by_rename : (u : UnitModel) (old new : ℕ) → Came u → Came (rename_unit u old new)
  by_hide : (u : UnitModel) (name : ℕ) → Came u → Came (hide_unit u name)
  by_join : (l r : UnitModel) → Came l → Came r → Came (join_units l r)
