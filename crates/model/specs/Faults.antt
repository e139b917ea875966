-- Faults by their number and place.
use Rattle.std.specs.Prelude.{ℕ, List, ◌++◌, codes, decimal, Some, None, Option}
use Rattle.model.specs.declared.Fault.{Fault}

-- a fault of the top layer itself
abbrev pub own : ℕ → ℕ → Fault
own number place = record { number = number; layer = 0; place = place }

-- a fault as its three numbers; no fault is three times 0
abbrev pub numbers_of : Option Fault → ℕ × ℕ × ℕ
numbers_of None = (0, 0, 0)
numbers_of (Some f) = (f.number, f.layer, f.place)

-- a fault as text: its number, layer and place
abbrev pub fault_text : Fault → List ℕ
fault_text f = decimal f.number ++ (codes " " ++ (decimal f.layer ++ (codes " " ++ decimal f.place)))
