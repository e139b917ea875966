-- What evidence has to show, in the words of trajectories.
use Rattle.std.specs.Prelude.{◌≡◌, ℕ, Bool, true, false, List}
use Rattle.model.specs.Meanings.{Meaning}
use Rattle.model.specs.States.{is_state, InitialState, Successor, Trajectory, Ends}
use Rattle.theory.specs.Members.{Member}

-- A certificate for a test: states of the module in which it holds, with every initial state and every successor of
-- each of them.
pub record Certificate (m : Meaning) (holds : List ℕ → Bool) (ss : List (List ℕ)) : Type 0 where
  pub states : (s : List ℕ) → Member s ss → is_state m.outline s ≡ true
  pub true_in_each : (s : List ℕ) → Member s ss → holds s ≡ true
  pub initial_listed : (t : List ℕ) → InitialState m t → Member t ss
  pub successors_listed : (s t : List ℕ) → Member s ss → Successor m s t → Member t ss

-- A run that breaks a test: an initialised trajectory to a state in which it is false.
pub record BreakingRun (m : Meaning) (holds : List ℕ → Bool) (ss : List (List ℕ)) : Type 0 where
  pub trajectory : Trajectory m ss
  pub last : List ℕ
  pub ends : Ends ss last
  pub false_at_last : holds last ≡ false
