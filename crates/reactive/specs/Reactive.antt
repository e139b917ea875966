-- Reactive modules: what an atom and a module are, and how a module moves in rounds. This file stands by itself: it
-- knows nothing of drawings.
use Rattle.std.specs.Prelude.{◌≡◌, ℕ, ◌⊎◌, ◌↔◌, List, [], ◌∷◌}

-- Variables are named by numbers, and so are their values.

abbrev pub Variables : Type 1
Variables = ℕ → Type 0

-- the values that each variable may have
abbrev pub Types : Type 1
Types = ℕ → ℕ → Type 0

-- a value for each variable; outside the variables that matter it may be any
abbrev pub Valuation : Type 0
Valuation = ℕ → ℕ

-- the values of these variables are of their types
abbrev pub Typed : Types → Variables → Valuation → Type 0
Typed types X s = (x : ℕ) → X x → types x (s x)

-- the two valuations are the same on these variables
abbrev pub Agree : Variables → Valuation → Valuation → Type 0
Agree X s t = (x : ℕ) → X x → s x ≡ t x

-- no variables
abbrev pub Empty : Variables
Empty x = ⊥

-- x stands in the list
abbrev pub Among : {A : Type 0} → A → List A → Type 0
Among x [] = ⊥
Among x (y ∷ ys) = (y ≡ x) ⊎ Among x ys

-- An atom controls some variables. In the first round its initial action gives them values that may depend on the new
-- values of the variables that it awaits; in each later round its update action gives them new values that may depend
-- also on the old values of the variables that it reads.
pub record Atom : Type 1 where
  pub controls : Variables
  pub reads : Variables
  pub awaits : Variables
  -- from new values of awaited variables to new values of controlled ones
  pub init : Valuation → Valuation → Type 0
  -- from old values of read variables and new values of awaited ones to new values of controlled ones
  pub update : Valuation → Valuation → Valuation → Type 0

-- A module's variables are private, interface or external; its body is a set of atoms.
pub record Module : Type 1 where
  pub private : Variables
  pub interface : Variables
  pub external : Variables
  pub typed : Types
  pub Index : Type 0
  pub atom : Index → Atom

-- those that the module controls
abbrev pub Controlled : Module → Variables
Controlled P x = P.private x ⊎ P.interface x

-- those that it has
abbrev pub Variable : Module → Variables
Variable P x = Controlled P x ⊎ P.external x

-- An action from old values of X and new values of Y to new values of Z is a relation that concerns these alone. It is
-- executable if at all values of X and Y it has results, finitely many, and each gives Z values of their types.
pub record Executable (types : Types) (X Y Z : Variables) (act : Valuation → Valuation → Valuation → Type 0)
    : Type 0 where
  pub concerned : (old new t old' new' t' : Valuation) →
      Agree X old old' → Agree Y new new' → Agree Z t t' → act old new t → act old' new' t'
  pub result : (old new : Valuation) → Typed types X old → Typed types Y new → (t : Valuation) × act old new t
  pub typed : (old new t : Valuation) → Typed types X old → Typed types Y new → act old new t → Typed types Z t
  pub finite : (old new : Valuation) → Typed types X old → Typed types Y new →
      (results : List Valuation) × ((t : Valuation) → act old new t → (u : Valuation) × Among u results × Agree Z t u)

-- The atom's sets are variables of the module, it awaits none that it controls, and its actions are executable.
pub record IsAtom (P : Module) (A : Atom) : Type 0 where
  pub controls : (x : ℕ) → A.controls x → Variable P x
  pub reads : (x : ℕ) → A.reads x → Variable P x
  pub awaits : (x : ℕ) → A.awaits x → Variable P x
  pub apart : (x : ℕ) → A.awaits x → A.controls x → ⊥
  pub init : Executable P.typed Empty A.awaits A.controls (λ old. A.init)
  pub update : Executable P.typed A.reads A.awaits A.controls A.update

-- variable x awaits y: some atom controls x and awaits y
pub record Awaits (P : Module) (x y : ℕ) : Type 0 where
  pub atom : P.Index
  pub controls : (P.atom atom).controls x
  pub awaits : (P.atom atom).awaits y

-- the transitive closure of a relation
pub data Plus {A : Type 0} (R : A → A → Type 0) : A → A → Type 0 where
  one : {x y : A} → R x y → Plus R x y
  more : {x y z : A} → R x y → Plus R y z → Plus R x z

-- the transitive closure is asymmetric
abbrev pub Acyclic : {A : Type 0} → (A → A → Type 0) → Type 0
Acyclic {A} R = (x y : A) → Plus R x y → Plus R y x → ⊥

-- finitely many variables, each of one kind
pub record IsDeclaration (P : Module) : Type 0 where
  pub finite : (xs : List ℕ) × ((x : ℕ) → Variable P x → Among x xs)
  pub private_or_interface : (x : ℕ) → P.private x → P.interface x → ⊥
  pub controlled_or_external : (x : ℕ) → Controlled P x → P.external x → ⊥

-- A module: finitely many atoms that together control the private and interface variables, each of these by one atom
-- only; and no variable awaits another that awaits it, directly or through others.
pub record IsModule (P : Module) : Type 0 where
  pub declaration : IsDeclaration P
  pub finite : (atoms : List P.Index) × ((i : P.Index) → Among i atoms)
  pub atoms : (i : P.Index) → IsAtom P (P.atom i)
  pub controls : (x : ℕ) → Controlled P x ↔ ((i : P.Index) × (P.atom i).controls x)
  pub one_controller : (i j : P.Index) (x : ℕ) → (P.atom i).controls x → (P.atom j).controls x → i ≡ j
  pub acyclic : Acyclic (Awaits P)

-- A module may have variables with infinitely many values, such as streams. Where it has none, and no type is empty, its
-- states are finitely many. So it is with every drawing's module; this is a restriction of drawings, and no part of what a
-- module is.
pub record FiniteTypes (P : Module) : Type 0 where
  pub some_value : (x : ℕ) → Variable P x → (v : ℕ) × P.typed x v
  pub finite_values : (x : ℕ) → Variable P x → (vs : List ℕ) × ((v : ℕ) → P.typed x v → Among v vs)

-- States, initial states, successors, trajectories

abbrev pub IsState : Module → Valuation → Type 0
IsState P s = Typed P.typed (Variable P) s

-- an initial state: the initial action of each atom leads there
pub record IsInitial (P : Module) (s : Valuation) : Type 0 where
  pub state : IsState P s
  pub led : (i : P.Index) → (P.atom i).init s s

-- t is a successor of s: both are states, and the update action of each atom leads from s to t
pub record Follows (P : Module) (s t : Valuation) : Type 0 where
  pub before : IsState P s
  pub state : IsState P t
  pub led : (i : P.Index) → (P.atom i).update s t t

-- each state of the list is a successor of the one before, the first of them of s
abbrev pub GoesOn : Module → Valuation → List Valuation → Type 0
GoesOn P s [] = Unit {0}
GoesOn P s (t ∷ later) = Follows P s t × GoesOn P t later

-- an initialised trajectory: states, the first initial, each later one a successor of the one before
abbrev pub IsTrajectory : Module → List Valuation → Type 0
IsTrajectory P [] = ⊥
IsTrajectory P (s ∷ later) = IsInitial P s × GoesOn P s later

-- t is the last of the list
abbrev pub EndsIn : List Valuation → Valuation → Type 0
EndsIn [] t = ⊥
EndsIn (s ∷ []) t = s ≡ t
EndsIn (s ∷ (u ∷ later)) t = EndsIn (u ∷ later) t

-- t ends an initialised trajectory
pub record IsReachable (P : Module) (t : Valuation) : Type 0 where
  pub run : List Valuation
  pub trajectory : IsTrajectory P run
  pub ends : EndsIn run t
