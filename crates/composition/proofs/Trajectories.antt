-- A map that takes initial states of one module to initial states of another, and successors to successors, takes
-- trajectories to trajectories.
use Rattle.std.proofs.Common.{ℕ, List, map}
use Rattle.model.specs.Meanings.{Meaning}
use Rattle.model.specs.States.{InitialState, Successor, Trajectory, Reachable}
use Rattle.theory.proofs.Runs.{map_trajectory, map_ends}
use Rattle.theory.specs.Runs.{Simulation}

abbrev pub Simulates : Meaning → Meaning → (List ℕ → List ℕ) → Type 0
Simulates m m' f = Simulation (InitialState m) (Successor m) (InitialState m') (Successor m') f

module _ {m m' : Meaning} {f : List ℕ → List ℕ} (along : Simulates m m' f) where
  pub trajectory_along : (run : List (List ℕ)) → Trajectory m run → Trajectory m' (map f run)
  trajectory_along = map_trajectory along

  pub reachable_along : (t : List ℕ) → Reachable m t → Reachable m' (f t)
  reachable_along t h = record { run = map f h.run; trajectory = trajectory_along h.run h.trajectory; ends = map_ends f h.run t h.ends }
