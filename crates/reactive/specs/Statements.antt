-- What the modules of drawings have to do with reactive modules.
use Rattle.std.specs.Prelude.{◌≡◌, ℕ, true, false, ◌↔◌, List, map, Some, None}
use Rattle.composition.specs.Faults.{fault_of_renamed, fault_of_hidden, fault_of_joined}
use Rattle.composition.specs.Meanings.{renamed, hidden, joined}
use Rattle.model.specs.Meanings.{Meaning}
use Rattle.model.specs.States.{value, is_state, InitialState, Successor, Trajectory}
use Rattle.model.specs.declared.Kind.TheVariants.{External}
use Rattle.theory.specs.Members.{Member}
use Rattle.units.specs.Evidence.{certificate_count}
use Rattle.units.specs.Sealing.{sight, sees_too_much, width, too_wide, verdict}
use Rattle.reactive.specs.Counts.{AtMost, Many}
use Rattle.reactive.specs.Limits.{Sees, Way, Limits}
use Rattle.reactive.specs.Modules.{Below, module_of, Row}
use Rattle.reactive.specs.Outcomes.{CountedOver}
use Rattle.reactive.specs.Execution.{IsOrder}
use Rattle.reactive.specs.Operations.{composed, renamed_module, hidden_module, SameModule}
use Rattle.reactive.specs.Reactive.{Valuation, Agree, Variable, IsModule, FiniteTypes, IsState, IsInitial, Follows, IsTrajectory}

-- A drawing is fit exactly when nothing is wrong with it, its module is a reactive module, and it stays within the limits.
abbrev pub FitExactlyWhenAModuleWithinLimits : Type 0
FitExactlyWhenAModuleWithinLimits =
    (m : Meaning) → (verdict m ≡ None) ↔ ((m.outline.fault ≡ None) × IsModule (module_of m) × Limits m)

-- The numbers that sealing compares with the limits are the counts of which the limits speak, and it finds an atom to see
-- too much, or a drawing to be too wide, exactly where the limit is exceeded.
pub record LimitsOf (m : Meaning) : Type 0 where
  pub sight_counts : (a : ℕ) → Many (Sees m.outline a) (sight m.outline a)
  pub width_counts : Many (Way m) (width m)
  pub sights_judged : (a : ℕ) → (sees_too_much m.outline a ≡ false) ↔ AtMost (Sees m.outline a) 65536
  pub ways_judged : (too_wide m ≡ false) ↔ AtMost (Way m) 1048576

abbrev pub LimitsAreJudgedRightly : Type 0
LimitsAreJudgedRightly = (m : Meaning) → LimitsOf m

-- The count of an accepted certificate is how many outcomes there are, and no other number is.
abbrev pub TheCountIsOfOutcomes : Type 0
TheCountIsOfOutcomes = (m : Meaning) (ss : List (List ℕ)) (n : ℕ) → CountedOver m ss n ↔ (n ≡ certificate_count m ss)

-- The types of a drawing's variables are finite and not empty, whatever the drawing.
abbrev pub DrawingsHaveFiniteTypes : Type 0
DrawingsHaveFiniteTypes = (m : Meaning) → FiniteTypes (module_of m)

-- States, initial states, successors and trajectories are those of the reactive module, and each of its states is told
-- by a row.
pub record StatesAgree (m : Meaning) : Type 0 where
  pub states : (t : List ℕ) → Row m t → (is_state m.outline t ≡ true) ↔ IsState (module_of m) (value t)
  pub initial : (t : List ℕ) → Row m t → InitialState m t ↔ IsInitial (module_of m) (value t)
  pub successors : (s t : List ℕ) → Row m s → Row m t →
      ((is_state m.outline s ≡ true) × Successor m s t) ↔ Follows (module_of m) (value s) (value t)
  -- the state before may be told by any values, by a row or not
  pub follows : (s t : List ℕ) → IsState (module_of m) (value s) → Row m t →
      Successor m s t ↔ Follows (module_of m) (value s) (value t)
  -- after any values, those of a state or not, come the states to which the update action of each atom leads
  pub leads : (s t : List ℕ) → Row m t →
      Successor m s t ↔
      (IsState (module_of m) (value t) × ((i : (module_of m).Index) → ((module_of m).atom i).update (value s) (value t) (value t)))
  pub trajectories : (run : List (List ℕ)) → ((t : List ℕ) → Member t run → Row m t) →
      Trajectory m run ↔ IsTrajectory (module_of m) (map value run)
  pub told : (v : Valuation) → IsState (module_of m) v →
      (t : List ℕ) × Row m t × Agree (Variable (module_of m)) v (value t)

abbrev pub StatesAreThePublishedOnes : Type 0
StatesAreThePublishedOnes = (m : Meaning) → StatesAgree m

-- Where a join has no fault, its module is the composition of the modules of its parts.
abbrev pub JoinsAreCompositions : Type 0
JoinsAreCompositions =
    (l r : Meaning) → fault_of_joined l.outline r.outline ≡ None →
    SameModule (module_of (joined l r)) (composed (module_of l) (module_of r))

-- Where a rename has no fault, its module is the renamed module.
abbrev pub RenamesAreRenamings : Type 0
RenamesAreRenamings =
    (m : Meaning) (a b : ℕ) → fault_of_renamed m.outline a b ≡ None →
    SameModule (module_of (renamed m a b)) (renamed_module (module_of m) a b)

-- Where a hide has no fault, its module is the module with the name hidden.
abbrev pub HidesAreHidings : Type 0
HidesAreHidings =
    (m : Meaning) (n : ℕ) → fault_of_hidden m.outline n ≡ None →
    SameModule (module_of (hidden m n)) (hidden_module (module_of m) n)

-- Where a join, rename or hide has no fault, it is fit exactly when the composed, renamed or hidden module is a reactive
-- module and it stays within the limits.
pub record OperationsAreJudgedRightly : Type 0 where
  pub joins : (l r : Meaning) → fault_of_joined l.outline r.outline ≡ None →
      (verdict (joined l r) ≡ None) ↔ (IsModule (composed (module_of l) (module_of r)) × Limits (joined l r))
  pub renames : (m : Meaning) (a b : ℕ) → fault_of_renamed m.outline a b ≡ None →
      (verdict (renamed m a b) ≡ None) ↔ (IsModule (renamed_module (module_of m) a b) × Limits (renamed m a b))
  pub hides : (m : Meaning) (n : ℕ) → fault_of_hidden m.outline n ≡ None →
      (verdict (hidden m n) ≡ None) ↔ (IsModule (hidden_module (module_of m) n) × Limits (hidden m n))

-- The atoms of a fit drawing can be put into a consistent order.
abbrev pub FitUnitsHaveAnOrder : Type 0
FitUnitsHaveAnOrder =
    (m : Meaning) → verdict m ≡ None → (order : List (Below m.outline.atoms)) × IsOrder (module_of m) order

-- the external names have the same values in both
abbrev pub SameOutside : Meaning → List ℕ → List ℕ → Type 0
SameOutside m s t = (n : ℕ) → m.outline.kind n ≡ Some External → value s n ≡ value t n

-- Whatever values the external names are given, a first round leads somewhere, and so does a later one from any state.
pub record CompletesRounds (m : Meaning) : Type 0 where
  pub first : (given : List ℕ) → is_state m.outline given ≡ true →
      (t : List ℕ) × InitialState m t × SameOutside m given t
  pub later : (s given : List ℕ) → is_state m.outline s ≡ true → is_state m.outline given ≡ true →
      (t : List ℕ) × Successor m s t × SameOutside m given t

-- A fit drawing never gets stuck.
abbrev pub FitUnitsCompleteEveryRound : Type 0
FitUnitsCompleteEveryRound = (m : Meaning) → verdict m ≡ None → CompletesRounds m

-- A fit drawing has an initial state.
abbrev pub FitUnitsHaveAnInitialState : Type 0
FitUnitsHaveAnInitialState = (m : Meaning) → verdict m ≡ None → (t : List ℕ) × InitialState m t
