-- States of a module, its initial states and successors, trajectories.
use Rattle.std.specs.Prelude.{◌≡◌, ℕ, Bool, true, false, ◌&&◌, List, [], ◌∷◌, length, replicate, ℤ, pos, negsuc, ◌==◌, nat_le, slice_index}
use Rattle.model.specs.Meanings.{Valuation, OutlineFacts, Meaning}
use Rattle.model.specs.Tests.{every, some, implies}
use Rattle.model.specs.declared.Round.{Round}
use Rattle.model.specs.declared.Round.TheVariants.{Initial, Update}

-- the value that a state, written as 32 numbers, gives to a name
abbrev pub value : List ℕ → Valuation
value s n = slice_index s n

-- Is the list a state of the module: 32 values, each from 0 to the name's top. A name that is no variable
-- has top 0, so its value is 0.
abbrev pub is_state : OutlineFacts → List ℕ → Bool
is_state o s = length s == 32 && every (λ n. nat_le (value s n) (o.top n)) 32

-- the number given is this value
abbrev pub is_value : ℤ → ℕ → Bool
is_value (pos x) v = x == v
is_value (negsuc x) v = false

-- Does the atom's choice lead from old values to new ones: it is there, open at both, and gives the new
-- values of the names that the atom controls.
abbrev pub takes : Meaning → Round → ℕ → ℕ → Valuation → Valuation → Bool
takes m r a k old new =
    m.acts.opens r a k old new && every (λ n. implies (m.outline.controls a n) (is_value (m.acts.gives r a k n old new) (new n))) 32

-- Can a round of this kind lead from state s to state t: t is a state of the module, and each atom has a choice
-- that leads there.
abbrev pub yields : Meaning → Round → List ℕ → List ℕ → Bool
yields m r s t = is_state m.outline t && every (λ a. some (λ k. takes m r a k (value s) (value t)) (m.acts.choices r a)) m.outline.atoms

-- what stands for the old values in an initialization round, which sees none
abbrev pub nothing : List ℕ
nothing = replicate 32 0

pub record InitialState (m : Meaning) (t : List ℕ) : Type 0 where
  pub yielded : yields m Initial nothing t ≡ true

pub record Successor (m : Meaning) (s t : List ℕ) : Type 0 where
  pub yielded : yields m Update s t ≡ true

-- each state of the list is a successor of the one before, the first of them of s
abbrev pub Continues : Meaning → List ℕ → List (List ℕ) → Type 0
Continues m s [] = Unit {0}
Continues m s (t ∷ ts) = Successor m s t × Continues m t ts

-- An initialised trajectory: states, the first initial, each later one a successor of the one before.
abbrev pub Trajectory : Meaning → List (List ℕ) → Type 0
Trajectory m [] = ⊥
Trajectory m (s ∷ ts) = InitialState m s × Continues m s ts

-- t is the last state of the list
abbrev pub Ends : List (List ℕ) → List ℕ → Type 0
Ends [] t = ⊥
Ends (s ∷ []) t = s ≡ t
Ends (s ∷ (u ∷ ts)) t = Ends (u ∷ ts) t

-- a state is reachable when it ends an initialised trajectory
pub record Reachable (m : Meaning) (t : List ℕ) : Type 0 where
  pub run : List (List ℕ)
  pub trajectory : Trajectory m run
  pub ends : Ends run t
