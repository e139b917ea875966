-- What a join, a rename and a hide of drawings are, told of the drawings that they are made of: the published operation
-- on their modules, with its initial states and successors.
use Rattle.std.specs.Prelude.{◌≡◌, ℕ, true, ◌↔◌, List, length, None}
use Rattle.composition.specs.Faults.{fault_of_renamed, fault_of_hidden, fault_of_joined}
use Rattle.composition.specs.Meanings.{renamed, hidden, joined}
use Rattle.composition.specs.Same.{SameAnswers}
use Rattle.composition.specs.Statements.{Swaps, Regroups}
use Rattle.composition.specs.Views.{projected, exchanged}
use Rattle.model.specs.Meanings.{Meaning}
use Rattle.model.specs.States.{is_state, InitialState, Successor}
use Rattle.reactive.specs.Modules.{module_of}
use Rattle.reactive.specs.Operations.{composed, renamed_module, hidden_module, SameModule}

-- A join without fault is the parallel composition of its parts. Its initial states are those of its states that each
-- part sees as initial, and its successors likewise; in the other order it does the same.
pub record Composition (l r : Meaning) : Type 0 where
  pub same : SameModule (module_of (joined l r)) (composed (module_of l) (module_of r))
  pub initial : (t : List ℕ) →
      InitialState (joined l r) t ↔
      ((is_state (joined l r).outline t ≡ true) ×
      InitialState l (projected l.outline t) × InitialState r (projected r.outline t))
  pub successors : (s t : List ℕ) →
      Successor (joined l r) s t ↔
      ((is_state (joined l r).outline t ≡ true) ×
      Successor l (projected l.outline s) (projected l.outline t) × Successor r (projected r.outline s) (projected r.outline t))
  pub swaps : Swaps l r

-- A third part may be joined after the two or before them, in either grouping.
pub record JoinsParts (l r : Meaning) : Type 0 where
  pub sound : fault_of_joined l.outline r.outline ≡ None → Composition l r
  pub one_after : (x : Meaning) → Regroups l r x
  pub one_before : (x : Meaning) → Regroups x l r

-- A rename without fault is the renamed module. Its initial states and successors are those of the module with the
-- values of the two names exchanged, and renaming back gives what answers as the module does.
pub record Renaming (m : Meaning) (a b : ℕ) : Type 0 where
  pub same : SameModule (module_of (renamed m a b)) (renamed_module (module_of m) a b)
  pub initial : (t : List ℕ) → length t ≡ 32 → InitialState (renamed m a b) t ↔ InitialState m (exchanged a b t)
  pub successors : (s t : List ℕ) → length t ≡ 32 →
      Successor (renamed m a b) s t ↔ Successor m (exchanged a b s) (exchanged a b t)
  pub undone : SameAnswers (renamed (renamed m a b) b a) m

abbrev pub RenamesPart : Meaning → ℕ → ℕ → Type 0
RenamesPart m a b = fault_of_renamed m.outline a b ≡ None → Renaming m a b

-- A hide without fault is the module with the name hidden, and has its initial states and successors.
pub record Hiding (m : Meaning) (n : ℕ) : Type 0 where
  pub same : SameModule (module_of (hidden m n)) (hidden_module (module_of m) n)
  pub initial : (t : List ℕ) → InitialState (hidden m n) t ↔ InitialState m t
  pub successors : (s t : List ℕ) → Successor (hidden m n) s t ↔ Successor m s t

abbrev pub HidesPart : Meaning → ℕ → Type 0
HidesPart m n = fault_of_hidden m.outline n ≡ None → Hiding m n

-- The same of all joins, renames and hides.
abbrev pub JoinsAreMadeOfParts : Type 0
JoinsAreMadeOfParts = (l r : Meaning) → JoinsParts l r

abbrev pub RenamesAreMadeOfParts : Type 0
RenamesAreMadeOfParts = (m : Meaning) (a b : ℕ) → RenamesPart m a b

abbrev pub HidesAreMadeOfParts : Type 0
HidesAreMadeOfParts = (m : Meaning) (n : ℕ) → HidesPart m n
