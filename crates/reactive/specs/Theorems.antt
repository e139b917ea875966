-- Theorems of reactive modules.
use Rattle.std.specs.Prelude.{ℕ, ◌↔◌, List}
use Rattle.reactive.specs.Descriptions.{Description, described}
use Rattle.reactive.specs.Execution.{IsOrder, LeadsTheSame, CanBeCompleted}
use Rattle.reactive.specs.Operations.{renamed_module, composed, Compatible, hidden_module}
use Rattle.reactive.specs.Reactive.{Valuation, Module, Variable, IsModule, IsState, IsInitial, Follows}

-- The composition of compatible modules is a module.
abbrev pub CompatibleModulesCompose : Type 0
CompatibleModulesCompose =
    (d e : Description) → IsModule (described d) → IsModule (described e) →
    Compatible (described d) (described e) → IsModule (composed (described d) (described e))

-- The composition's states, initial states and successors are those that both modules have.
pub record MovesAsBoth (P Q : Module) : Type 0 where
  pub states : (s : Valuation) → IsState (composed P Q) s ↔ (IsState P s × IsState Q s)
  pub initial : (s : Valuation) → IsInitial (composed P Q) s ↔ (IsInitial P s × IsInitial Q s)
  pub successors : (s t : Valuation) → Follows (composed P Q) s t ↔ (Follows P s t × Follows Q s t)

abbrev pub CompositionsMoveAsBoth : Type 0
CompositionsMoveAsBoth =
    (d e : Description) → IsModule (described d) → IsModule (described e) →
    Compatible (described d) (described e) → MovesAsBoth (described d) (described e)

-- With a variable renamed to a name that is none, a module is a module.
abbrev pub RenamedModulesAreModules : Type 0
RenamedModulesAreModules =
    (d : Description) (x y : ℕ) → IsModule (described d) →
    (Variable (described d) y → ⊥) → IsModule (renamed_module (described d) x y)

-- With a variable hidden, a module is a module.
abbrev pub HiddenModulesAreModules : Type 0
HiddenModulesAreModules = (d : Description) (x : ℕ) → IsModule (described d) → IsModule (hidden_module (described d) x)

-- The atoms of a module can be put into a consistent order.
abbrev pub EveryModuleHasAnOrder : Type 0
EveryModuleHasAnOrder =
    (d : Description) → IsModule (described d) → (order : List (described d).Index) × IsOrder (described d) order

-- A round leads to the same along every consistent order: where the actions together lead.
abbrev pub EveryOrderLeadsTheSame : Type 0
EveryOrderLeadsTheSame =
    (d : Description) → IsModule (described d) →
    (order : List (described d).Index) → IsOrder (described d) order → LeadsTheSame (described d) order

-- Every round of a module can be completed.
abbrev pub EveryRoundCanBeCompleted : Type 0
EveryRoundCanBeCompleted = (d : Description) → IsModule (described d) → CanBeCompleted (described d)
