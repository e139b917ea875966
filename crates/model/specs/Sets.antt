-- Sets of numbers below a bound: of names, and of atoms.
use Rattle.std.specs.Prelude.{ℕ, Bool, List, false, ◌&&◌, ◌-◌, ◌==◌, nat_lt, slice_index_or}
use Rattle.std.specs.List.{filter, range_with_len}
use Rattle.model.specs.declared.names.Marks.{Marks}
use Rattle.model.specs.declared.names.Members.{Members}

-- a set of names, 0 to 31
abbrev pub NameSet : Type 0
NameSet = Marks 32

-- a set of atoms, 0 to 15
abbrev pub AtomSet : Type 0
AtomSet = Marks 16

-- is the number in the set
abbrev pub has : {N : ℕ} → Marks N → ℕ → Bool
has s n = slice_index_or s.marks n false

-- n is the number k, which is below the bound
abbrev pub is_number : ℕ → ℕ → ℕ → Bool
is_number bound k n = n == k && nat_lt k bound

-- n is the name that the number k stands for, if any
abbrev pub is_name : ℕ → ℕ → Bool
is_name k n = is_number 32 k n

-- the names of the set, rising
abbrev pub members : NameSet → List ℕ
members s = filter (has s) (range_with_len 0 32)

-- of the set's names, those that are still to come, rising
abbrev pub members_left : Members → List ℕ
members_left m = filter (has m.set.now) (range_with_len m.left.start (m.left.end - m.left.start))
