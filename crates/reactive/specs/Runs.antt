-- Trajectories of rows, those of a drawing, and trajectories of the module that it means.
use Rattle.std.specs.Prelude.{ℕ, List, [], ◌∷◌, map}
use Rattle.model.specs.Meanings.{Meaning}
use Rattle.model.specs.States.{value, Trajectory, Reachable}
use Rattle.reactive.specs.Counts.{Many}
use Rattle.reactive.specs.Modules.{module_of}
use Rattle.reactive.specs.Reactive.{Variables, Valuation, Agree, Variable, IsTrajectory, IsReachable}

-- the two lists are as long, and agree one by one on these variables
abbrev pub AgreeAlong : Variables → List Valuation → List Valuation → Type 0
AgreeAlong X [] [] = Unit {0}
AgreeAlong X [] (t ∷ ts) = ⊥
AgreeAlong X (s ∷ ss) [] = ⊥
AgreeAlong X (s ∷ ss) (t ∷ ts) = Agree X s t × AgreeAlong X ss ts

-- Each trajectory of the module has one of rows that agrees with it on the module's variables, and each of rows is one of
-- the module; so what is reachable is the same.
pub record TrajectoriesAgree (m : Meaning) : Type 0 where
  pub rows : (run : List Valuation) → IsTrajectory (module_of m) run →
      (told : List (List ℕ)) × Trajectory m told × AgreeAlong (Variable (module_of m)) run (map value told)
  pub published : (told : List (List ℕ)) → Trajectory m told → IsTrajectory (module_of m) (map value told)
  pub reached_row : (v : Valuation) → IsReachable (module_of m) v →
      (t : List ℕ) × Reachable m t × Agree (Variable (module_of m)) v (value t)
  pub reached : (t : List ℕ) → Reachable m t → IsReachable (module_of m) (value t)

abbrev pub TrajectoriesAreThePublishedOnes : Type 0
TrajectoriesAreThePublishedOnes = (m : Meaning) → TrajectoriesAgree m

-- The reachable states of each drawing, as rows, can be listed, so that there is a number of them.
abbrev pub ReachableStatesCanBeListed : Type 0
ReachableStatesCanBeListed = (m : Meaning) → (n : ℕ) × Many (Reachable m) n
