-- Orders of atoms in which each comes after those that it awaits.
use Rattle.std.specs.Prelude.{◌≡◌, ℕ, zero, suc, ◌-◌, ◌<◌, ◌≤◌, Bool, true, false, not, ◌&&◌, List, [], ◌∷◌, ◌++◌, length, replicate, None, Some, Option, ◌==◌, slice_index}
use Rattle.model.specs.Meanings.{OutlineFacts}
use Rattle.model.specs.Tests.{some, lowest}
use Rattle.units.specs.Counting.{any}
use Rattle.units.specs.Sealing.{awaits_atom, circular}

-- the atom awaits the other one, which is not placed yet
abbrev pub waits_for : (ℕ → ℕ → Bool) → (ℕ → Bool) → ℕ → ℕ → Bool
waits_for awaits placed a b = awaits a b && not (placed b)

-- the atom is not placed yet, and all that it awaits are
abbrev pub ready : (ℕ → ℕ → Bool) → ℕ → (ℕ → Bool) → ℕ → Bool
ready awaits atoms placed a = not (placed a) && not (some (waits_for awaits placed a) atoms)

-- the atom is one of the list
abbrev pub stands_in : List ℕ → ℕ → Bool
stands_in order a = any (λ b. a == b) order

-- the lowest atom that is ready where those of the list are placed
abbrev pub next_atom : (ℕ → ℕ → Bool) → ℕ → List ℕ → Option ℕ
next_atom awaits atoms order = lowest (ready awaits atoms (stands_in order)) atoms

-- one place more, where an atom is ready
abbrev pub with_next : List ℕ → Option ℕ → List ℕ
with_next order None = order
with_next order (Some a) = order ++ a ∷ []

-- the atoms at the first so many places: at each the lowest one that is ready
unfoldable pub first_atoms : (ℕ → ℕ → Bool) → ℕ → ℕ → List ℕ
first_atoms awaits atoms zero = []
first_atoms awaits atoms (suc place) = with_next (first_atoms awaits atoms place) (next_atom awaits atoms (first_atoms awaits atoms place))

-- sixteen places, with 0 at those behind
abbrev pub in_sixteen : List ℕ → List ℕ
in_sixteen order = order ++ replicate (16 - length order) 0

-- The order of an outline's atoms in sixteen places. Where atoms await themselves, it ends where none is ready any more.
abbrev pub atom_order : OutlineFacts → List ℕ
atom_order o = in_sixteen (first_atoms (awaits_atom o) o.atoms o.atoms)

-- the atom at a place of the order
abbrev pub atom_at : List ℕ → ℕ → ℕ
atom_at order i = slice_index order i

-- At the first places stand the atoms, each exactly once, and each after those that it awaits.
pub record InOrder (awaits : ℕ → ℕ → Bool) (atoms : ℕ) (order : List ℕ) : Type 0 where
  pub each : (a : ℕ) → a < atoms → (i : ℕ) × (i < atoms) × (atom_at order i ≡ a)
  pub only : (i : ℕ) → i < atoms → atom_at order i < atoms
  pub once : (i j : ℕ) → i < atoms → j < atoms → atom_at order i ≡ atom_at order j → i ≡ j
  pub after : (i j : ℕ) → i < atoms → j < atoms → awaits (atom_at order i) (atom_at order j) ≡ true → j < i

-- from this place on all are 0
abbrev pub ZerosFrom : ℕ → List ℕ → Type 0
ZerosFrom n order = (i : ℕ) → n ≤ i → atom_at order i ≡ 0

-- the order of an outline's atoms
abbrev pub AtomsInOrder : OutlineFacts → List ℕ → Type 0
AtomsInOrder o order = InOrder (awaits_atom o) o.atoms order

-- no atom awaits itself, directly or through others
abbrev pub NoneCircular : OutlineFacts → Type 0
NoneCircular o = (a : ℕ) → a < o.atoms → circular o a ≡ false

-- wherever none is ready, all are placed
abbrev pub NeverStuck : (ℕ → ℕ → Bool) → ℕ → Type 0
NeverStuck awaits atoms =
    (placed : ℕ → Bool) → lowest (ready awaits atoms placed) atoms ≡ None → (a : ℕ) → a < atoms → placed a ≡ true
