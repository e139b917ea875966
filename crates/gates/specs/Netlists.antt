-- What the bytes of a gate list say, and what is wrong with them.
use Rattle.std.specs.Prelude.{ℕ, zero, suc, ◌+◌, ◌*◌, ◌/◌, ◌%◌, Bool, true, false, cond, not, ◌&&◌, ◌||◌, List, [], ◌++◌, length, is_some, Some, None, Option, ◌==◌, nat_lt, slice_index}
use Rattle.std.specs.Option.{option_to_list}
use Rattle.std.specs.List.{flat_map}
use Rattle.model.specs.Tests.{some, lowest}
use Rattle.gates.specs.Gates.{gate_of, parts_of}
use Rattle.gates.specs.declared.gate.Gate.{Gate}
use Rattle.gates.specs.declared.gate.Gate.TheVariants.{Not, And, Latch}
use Rattle.gates.specs.declared.gate.Part.{Part}

abbrev pub byte : List ℕ → ℕ → ℕ
byte bs k = slice_index bs k

-- Record i is the five bytes from place 5 i on: kind, a, b, out, own. This is its gate, if it is well formed.
abbrev pub gate_at : List ℕ → ℕ → Option Gate
gate_at bs i = gate_of (byte bs (5 * i)) (byte bs (5 * i + 1)) (byte bs (5 * i + 2)) (byte bs (5 * i + 3)) (byte bs (5 * i + 4))

-- the byte at place k is an out, the same number as record i's
abbrev pub same_out : List ℕ → ℕ → ℕ → Bool
same_out bs i k = k % 5 == 3 && byte bs k == byte bs (5 * i + 3)

-- the byte at place k is another field a, b, out or own of the list than record i's own, with the same number in it
abbrev pub same_own : List ℕ → ℕ → ℕ → Bool
same_own bs i k = not (k % 5 == 0) && not (k == 5 * i + 4) && byte bs k == byte bs (5 * i + 4)

abbrev pub is_latch : Option Gate → Bool
is_latch None = false
is_latch (Some (Not a out)) = false
is_latch (Some (And a b out)) = false
is_latch (Some (Latch set reset out own)) = true

-- the gates of the first n records
unfoldable pub gates_upto : List ℕ → ℕ → List Gate
gates_upto bs zero = []
gates_upto bs (suc n) = gates_upto bs n ++ option_to_list (gate_at bs n)

-- the atoms of the first n records
abbrev pub parts_upto : List ℕ → ℕ → List Part
parts_upto bs n = flat_map parts_of (gates_upto bs n)

-- Record i breaks a rule: it is not well formed, an earlier record has its out, it is a latch whose own some other
-- field has, or with it there are more than 16 atoms.
abbrev pub breaks : List ℕ → ℕ → Bool
breaks bs i =
    not (is_some (gate_at bs i)) || some (same_out bs i) (5 * i) || is_latch (gate_at bs i) && some (same_own bs i) (length bs) || nat_lt 16 (length (parts_upto bs (suc i)))

-- The place of the fault: 0 where the length is no multiple of five, else the first byte of the first record that
-- breaks a rule.
abbrev pub first_record : Option ℕ → Option ℕ
first_record None = None
first_record (Some i) = Some (5 * i)

abbrev pub fault_place : List ℕ → Option ℕ
fault_place bs = cond (length bs % 5 == 0) (first_record (lowest (breaks bs) (length bs / 5))) (Some 0)

-- What a gate list says: the place of its fault if any, and its atoms, of which there are none beside a fault.
pub record Netlist : Type 0 where
  pub fault_place : Option ℕ
  pub parts : List Part

abbrev pub faulty : ℕ → Netlist
faulty place = record { fault_place = Some place; parts = [] }

abbrev pub netlist_at : Option ℕ → List ℕ → Netlist
netlist_at None bs = record { fault_place = None; parts = parts_upto bs (length bs / 5) }
netlist_at (Some place) bs = faulty place

-- what these bytes say
abbrev pub netlist_from : List ℕ → Netlist
netlist_from bs = netlist_at (fault_place bs) bs
