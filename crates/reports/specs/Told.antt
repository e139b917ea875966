-- What is told of a drawing.
use Rattle.std.specs.Prelude.{◌≡◌, ℕ, ℤ, zero, suc, ◌+◌, ◌^◌, ◌<◌, Bool, cond, List, [], ◌∷◌, ◌++◌, map, filter, Some, None, vec_items, vec_len, codes, Option, Vec, slice_index_or}
use Rattle.std.specs.List.{range_with_len}
use Rattle.std.specs.declared.alloc.Global.{Global}
use Rattle.model.specs.Faults.{fault_text}
use Rattle.model.specs.Meanings.{OutlineFacts, ChoiceFacts}
use Rattle.model.specs.Sets.{has}
use Rattle.model.specs.States.{value}
use Rattle.model.specs.declared.Fault.{Fault}
use Rattle.model.specs.declared.Kind.{Kind}
use Rattle.model.specs.declared.Round.TheVariants.{Initial, Update}
use Rattle.reports.specs.declared.assignment.Assignment.{Assignment}
use Rattle.model.specs.declared.Question.{Question}
use Rattle.reports.specs.declared.ask.ChoiceReport.{ChoiceReport}
use Rattle.reports.specs.declared.facts.Atom.{Atom}
use Rattle.reports.specs.declared.facts.Variable.{Variable}
use Rattle.reports.specs.declared.outline.OutlineReport.{OutlineReport}
use Rattle.reports.specs.declared.verdict.Age.{Age}
use Rattle.reports.specs.declared.verdict.Age.TheVariants.{Old, New}
use Rattle.reports.specs.declared.verdict.Seen.{Seen}
use Rattle.sealing.specs.declared.witness.Witness.{Witness}

-- the number, layer and place of a fault, or zeros
abbrev pub numbers_or_zeros : Option Fault → List ℕ
numbers_or_zeros None = codes "0 0 0"
numbers_or_zeros (Some f) = fault_text f

-- what f lists at each number below n, in their order
unfoldable pub below : {X : Type 0} → (ℕ → List X) → ℕ → List X
below f zero = []
below f (suc n) = below f n ++ f n

-- the number whose bit k is set just where p holds of k, for the k below n
unfoldable pub mask_below : (ℕ → Bool) → ℕ → ℕ
mask_below p zero = 0
mask_below p (suc n) = mask_below p n + cond (p n) (2 ^ n) 0

abbrev pub variable_of : ℕ → ℕ → Option Kind → List Variable
variable_of n top None = []
variable_of n top (Some kind) = record { name = n; kind = kind; top = top } ∷ []

-- the variable of a name, if there is one
abbrev pub variable_at : OutlineFacts → ℕ → List Variable
variable_at o n = variable_of n (o.top n) (o.kind n)

-- the sets and counts are those of the atom
pub record DescribesAtom (o : OutlineFacts) (acts : ChoiceFacts) (a : ℕ) (x : Atom) : Type 0 where
  pub controls : (n : ℕ) → has x.controls n ≡ o.controls a n
  pub reads : (n : ℕ) → has x.reads n ≡ o.reads a n
  pub awaits : (n : ℕ) → has x.awaits n ≡ o.awaits a n
  pub initial : x.initial ≡ acts.choices Initial a
  pub update : x.update ≡ acts.choices Update a

-- each atom in its place
pub record DescribesAtoms (o : OutlineFacts) (acts : ChoiceFacts) (atoms : Vec Atom Global) : Type 0 where
  pub count : vec_len atoms ≡ o.atoms
  pub each : (a : ℕ) (d : Atom) → a < o.atoms → DescribesAtom o acts a (slice_index_or (vec_items atoms) a d)

-- what the choice gives to a name, if its atom controls the name
abbrev pub assignment_at : OutlineFacts → ChoiceFacts → Question (List ℕ) → ℕ → List (Assignment ℤ)
assignment_at o acts q n =
    cond (o.controls q.atom n)
    (record { name = n; value = acts.gives q.round q.atom q.choice n (value q.old) (value q.new) } ∷ []) []

-- the choice that was asked after, whether it is open, and what it gives to each name that its atom controls
pub record TellsChoice (o : OutlineFacts) (acts : ChoiceFacts) (q : Question (List ℕ)) (r : ChoiceReport) : Type 0 where
  pub atom : r.atom ≡ q.atom
  pub choice : r.choice ≡ q.choice
  pub opens : r.«open» ≡ acts.opens q.round q.atom q.choice (value q.old) (value q.new)
  pub given : vec_items r.given ≡ below (assignment_at o acts q) 32

-- the layers, the fault, the variables and the atoms are those of the drawing
pub record TellsOutline (o : OutlineFacts) (acts : ChoiceFacts) (r : OutlineReport) : Type 0 where
  pub layers : r.layers ≡ o.layers
  pub fault : r.fault ≡ o.fault
  pub variables : vec_items r.variables ≡ below (variable_at o) 32
  pub atoms : DescribesAtoms o acts r.atoms

-- the values that a state gives to the names of a set, rising
abbrev pub values_of : Age → (ℕ → Bool) → List ℕ → List Seen
values_of age names state = map (λ n. record { age = age; name = n; value = value state n }) (filter names (range_with_len 0 32))

-- the old values of the names that are read, then the new ones of those that are awaited
abbrev pub seen_values : (ℕ → Bool) → (ℕ → Bool) → Witness → List Seen
seen_values reads awaits witness = values_of Old reads witness.old ++ values_of New awaits witness.new
