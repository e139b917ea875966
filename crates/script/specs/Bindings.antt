-- What the names of a script stand for.
use Rattle.std.specs.Prelude.{◌≡◌, ℕ, Bool, false, cond, ◌||◌, List, [], ◌∷◌, Some, None, box_value, Option}
use Rattle.std.specs.BTreeMap.{get_by_text}
use Rattle.std.specs.Str.{bytes_eq as same_text}
use Rattle.any_drawing.specs.Meaning.{any_meaning}
use Rattle.any_drawing.specs.Piles.{Pile}
use Rattle.model.specs.Meanings.{Meaning}
use Rattle.script.specs.declared.binding.Bound.{Bound}
use Rattle.script.specs.declared.binding.Bound.TheVariants.{Drawing, SealedUnit}
use Rattle.script.specs.declared.binding.BoundUnit.{BoundUnit}
use Rattle.script.specs.declared.bindings.ByName.{ByName}
use Rattle.unit.specs.States.{model_of}
use Rattle.units.specs.Units.{UnitModel}

-- a drawing or a unit
abbrev pub Binding : Type 0
Binding = Bound Pile BoundUnit

-- each name stands for one drawing or unit, or for nothing
abbrev pub Bindings : Type 0
Bindings = ByName Binding

abbrev pub meaning_of : Pile → Meaning
meaning_of d = any_meaning d

abbrev pub unit_of : BoundUnit → UnitModel
unit_of u = model_of (any_meaning u.unit.drawing) u.unit.state

-- what the drawing means that a name stands for, or that the unit seals
abbrev pub meaning_of_binding : Binding → Meaning
meaning_of_binding (Drawing d) = any_meaning d
meaning_of_binding (SealedUnit u) = (unit_of (box_value u)).meaning

-- what the name stands for, if anything
abbrev pub binding_of : Bindings → List ℕ → Option Binding
binding_of t name = get_by_text t.map name

-- no name stands for anything
abbrev pub IsEmpty : Bindings → Type 0
IsEmpty t = (w : List ℕ) → binding_of t w ≡ None

-- every name stands for what it stood for
abbrev pub SameBindings : Bindings → Bindings → Type 0
SameBindings old new = (w : List ℕ) → binding_of new w ≡ binding_of old w

-- the name stands for this, and every other for what it stood for
abbrev pub Binds : Bindings → Bindings → List ℕ → Binding → Type 0
Binds old new name b = (w : List ℕ) → binding_of new w ≡ cond (same_text w name) (Some b) (binding_of old w)

-- the name stands for nothing, and every other for what it stood for
abbrev pub Unbinds : Bindings → Bindings → List ℕ → Type 0
Unbinds old new name = (w : List ℕ) → binding_of new w ≡ cond (same_text w name) None (binding_of old w)

-- the name stands for this drawing
abbrev pub BindsDrawing : Bindings → List ℕ → Pile → Type 0
BindsDrawing t name d = binding_of t name ≡ Some (Drawing d)

-- it is a unit of which this holds
abbrev pub IsUnit : (BoundUnit → Type 0) → Option Binding → Type 0
IsUnit P None = ⊥
IsUnit P (Some (Drawing d)) = ⊥
IsUnit P (Some (SealedUnit u)) = P (box_value u)

-- the name stands for this unit
abbrev pub BindsUnit : Bindings → List ℕ → BoundUnit → Type 0
BindsUnit t name u = IsUnit (λ v. v ≡ u) (binding_of t name)

-- is the word one of these
abbrev pub among : List ℕ → List (List ℕ) → Bool
among w [] = false
among w (x ∷ xs) = same_text w x || among w xs

-- the names are used up, and every other stands for what it stood for
abbrev pub UnbindsAll : Bindings → Bindings → List (List ℕ) → Type 0
UnbindsAll old new used = (w : List ℕ) → binding_of new w ≡ cond (among w used) None (binding_of old w)

-- two names that stood for two drawings are used up
pub record TakesTwo (old new : Bindings) (left right : List ℕ) (l r : Pile) : Type 0 where
  pub apart : left ≡ right → ⊥
  pub left_stood : BindsDrawing old left l
  pub right_stood : BindsDrawing old right r
  pub gone : UnbindsAll old new (left ∷ right ∷ [])

-- The name stands for this; those used up stand for nothing else any more, and every other for what it stood for.
abbrev pub Rebinds : Bindings → Bindings → List (List ℕ) → List ℕ → Binding → Type 0
Rebinds old new used name b =
    (w : List ℕ) → binding_of new w ≡ cond (same_text w name) (Some b) (cond (among w used) None (binding_of old w))
