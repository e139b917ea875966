-- States of a unit's module, and what evidence has to show of a claim, in the words of the published definition of reactive
-- modules. A state is written as 32 values, with 0 at each name that is no variable.
use Rattle.std.specs.Prelude.{◌≡◌, ℕ, ◌≤◌, true, false, List, length, Some, None, Option}
use Rattle.std.specs.List.{flat_map}
use Rattle.language.specs.Expressions.{truth_value}
use Rattle.model.specs.Meanings.{Valuation, Meaning}
use Rattle.model.specs.States.{value, nothing}
use Rattle.reactive.specs.Modules.{module_of, Row}
use Rattle.reactive.specs.Reactive.{IsState, IsInitial, Follows}
use Rattle.theory.specs.Members.{Member}
use Rattle.theory.specs.Runs.{Trajectory, Ends}
use Rattle.units.specs.Models.{Claim}

pub record StateRow (m : Meaning) (t : List ℕ) : Type 0 where
  pub row : Row m t
  pub state : IsState (module_of m) (value t)

pub record InitialRow (m : Meaning) (t : List ℕ) : Type 0 where
  pub row : StateRow m t
  pub initial : IsInitial (module_of m) (value t)

pub record NextRow (m : Meaning) (s t : List ℕ) : Type 0 where
  pub before : StateRow m s
  pub row : StateRow m t
  pub follows : Follows (module_of m) (value s) (value t)

-- an initial state where none stood, else a successor of the one that stood
abbrev pub RowAfter : Meaning → Option (List ℕ) → List ℕ → Type 0
RowAfter m None t = InitialRow m t
RowAfter m (Some s) t = NextRow m s t

-- Evidence

abbrev pub IsTrueAt : Claim → Valuation → Type 0
IsTrueAt c v = truth_value c.says v (value nothing) ≡ true

abbrev pub IsFalseAt : Claim → Valuation → Type 0
IsFalseAt c v = truth_value c.says v (value nothing) ≡ false

-- states of the module in each of which the claim is true, with every initial state and every successor of each of them
pub record Certifies (m : Meaning) (c : Claim) (ss : List (List ℕ)) : Type 0 where
  pub states : (s : List ℕ) → Member s ss → StateRow m s
  pub true_in_each : (s : List ℕ) → Member s ss → IsTrueAt c (value s)
  pub initial_listed : (t : List ℕ) → InitialRow m t → Member t ss
  pub successors_listed : (s t : List ℕ) → Member s ss → NextRow m s t → Member t ss

-- an initialised trajectory to a state in which the claim is false
pub record Breaks (m : Meaning) (c : Claim) (ss : List (List ℕ)) : Type 0 where
  pub trajectory : Trajectory (InitialRow m) (NextRow m) ss
  pub last : List ℕ
  pub ends : Ends ss last
  pub false_at_last : IsFalseAt c (value last)

-- the bytes are those of the states, one after the other: 32 of each, and from 1 to 2,048 states
pub record WritesStates (bytes : List ℕ) (ss : List (List ℕ)) : Type 0 where
  pub written : bytes ≡ flat_map (λ s. s) ss
  pub whole : (s : List ℕ) → Member s ss → length s ≡ 32
  pub some : 1 ≤ length ss
  pub few : length ss ≤ 2048
