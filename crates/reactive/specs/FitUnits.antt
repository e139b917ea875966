-- When a unit is fit: one that is sealed, and one that is made of units.
use Rattle.std.specs.Prelude.{◌≡◌, ℕ, ◌+◌, ◌≤◌, ◌↔◌, length, None}
use Rattle.composition.specs.Meanings.{renamed, hidden, joined}
use Rattle.model.specs.Meanings.{Meaning}
use Rattle.units.specs.Units.{UnitModel, verdict_of, seal, rename_unit, hide_unit, join_units}
use Rattle.reactive.specs.Limits.{Limits}
use Rattle.reactive.specs.Modules.{module_of}
use Rattle.reactive.specs.Operations.{composed, renamed_module, hidden_module}
use Rattle.reactive.specs.Reactive.{Module, IsModule}

-- A drawing without fault whose module is to be P, to which so many claims are brought: P is a reactive module, the drawing
-- stays within the limits, and the claims are not more than eight.
pub record FitAs (m : Meaning) (P : Module) (claims : ℕ) : Type 0 where
  pub sound : m.outline.fault ≡ None
  pub fine : IsModule P
  pub limits : Limits m
  pub few : claims ≤ 8

-- A unit is fit exactly when this holds of its drawing, of the module that the drawing means, for a pile the renamed, hidden
-- or composed one of what it is made of, and of the claims that those brought.
pub record UnitsAreFitExactlyWhenModulesWithinLimits : Type 0 where
  pub sealed : (m : Meaning) (number : ℕ) → (verdict_of (seal m number) ≡ None) ↔ FitAs m (module_of m) 0
  pub renames : (u : UnitModel) (a b : ℕ) →
      (verdict_of (rename_unit u a b) ≡ None) ↔
      FitAs (renamed u.meaning a b) (renamed_module (module_of u.meaning) a b) (length u.claims)
  pub hides : (u : UnitModel) (n : ℕ) →
      (verdict_of (hide_unit u n) ≡ None) ↔
      FitAs (hidden u.meaning n) (hidden_module (module_of u.meaning) n) (length u.claims)
  pub joins : (l r : UnitModel) →
      (verdict_of (join_units l r) ≡ None) ↔
      FitAs (joined l.meaning r.meaning) (composed (module_of l.meaning) (module_of r.meaning)) (length l.claims + length r.claims)
