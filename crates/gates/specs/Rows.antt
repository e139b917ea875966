-- What is found and kept while a gate list is read.
use Rattle.std.specs.Prelude.{◌≡◌, ◌*◌, ◌<◌, ◌⊎◌, ℕ, Bool, List, ◌++◌, length, IsTrue, Some, None, Result, Ok, Err, MatchResult}
use Rattle.model.specs.Rows.{row_items}
use Rattle.model.specs.declared.row.Full.{Full}
use Rattle.model.specs.declared.row.Row.{Row}
use Rattle.gates.specs.Netlists.{Netlist, faulty, is_latch, same_out, same_own}
use Rattle.gates.specs.declared.gate.Gate.{Gate}
use Rattle.gates.specs.declared.gate.Part.{Part}

-- the row has more atoms at its end, or there would be more than 16
abbrev pub Grown : Row Part 16 → List Part → Row Part 16 → Result (Unit {0}) Full → Type 0
Grown old more new r = MatchResult r (λ _. row_items new ≡ row_items old ++ more) (λ _. 16 < length (row_items old ++ more))

-- the atoms of a list without fault, or the place of the fault and no atoms
abbrev pub netlist_in : Result (Row Part 16) ℕ → Netlist
netlist_in (Ok row) = record { fault_place = None; parts = row_items row }
netlist_in (Err place) = faulty place

-- the test passes at some number below n
abbrev pub Found : (ℕ → Bool) → ℕ → Type 0
Found p n = (i : ℕ) × (i < n) × IsTrue (p i)

-- an earlier record has the out of record i, or it is a latch and some other field has its own
abbrev pub Clashes : List ℕ → ℕ → Gate → Type 0
Clashes bs i g = Found (same_out bs i) (5 * i) ⊎ (IsTrue (is_latch (Some g)) × Found (same_own bs i) (length bs))
