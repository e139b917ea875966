-- The phases of a unit.
use Rattle.std.specs.Prelude.{ℕ, Bool, true, false, ◌&&◌, List, length, Some, None, Option, ◌==◌}
use Rattle.model.specs.Sets.{AtomSet, has}
use Rattle.unit.specs.declared.phase.Phase.{Phase}
use Rattle.unit.specs.declared.phase.Phase.TheVariants.{Idle, Standing, InRound}
use Rattle.units.specs.Units.{idle, standing, in_round}
use Rattle.units.specs.Units as units

-- a mark for each of the 16 atoms: is it in the set
abbrev pub marks_of : AtomSet → List Bool
marks_of atoms = atoms.marks

abbrev pub phase_of : Phase → units.Phase
phase_of Idle = idle
phase_of (Standing s) = standing s
phase_of (InRound before new fired) = in_round before new (marks_of fired)

-- the atom is marked as one that has fired in the round that is open
abbrev pub fired_at : Phase → ℕ → Bool
fired_at Idle a = false
fired_at (Standing s) a = false
fired_at (InRound before new fired) a = has fired a

abbrev pub before_sized : Option (List ℕ) → Bool
before_sized None = true
before_sized (Some s) = length s == 32

-- states have 32 values
abbrev pub sized : Phase → Bool
sized Idle = true
sized (Standing s) = length s == 32
sized (InRound before new fired) = before_sized before && length new == 32
