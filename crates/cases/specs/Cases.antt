-- Worked cases: what is asked, and the four numbers that the definitions answer it with.
use Rattle.std.specs.Prelude.{ℕ, ◌+◌, List, [], ◌∷◌, ◌++◌, take, drop, replicate, Some, None, Option, slice_set}
use Rattle.std.specs.List.{flat_map}
use Rattle.composition.specs.Meanings.{renamed, hidden, joined}
use Rattle.gates.specs.Meanings.{gates_meaning}
use Rattle.language.specs.Meanings.{table_meaning}
use Rattle.model.specs.Meanings.{Meaning}
use Rattle.model.specs.declared.Fault.{Fault}
use Rattle.theory.specs.Enumerations.{below as numbers_below}
use Rattle.units.specs.Refusals.{refusal_fault}
use Rattle.units.specs.declared.refusal.Refusal.{Refusal}
use Rattle.units.specs.Units.{UnitModel, Answer, done, refused, seal, verdict_of, claim, certify, refute}

-- number, layer and place, and the count or length where there is one
pub record Numbers : Type 0 where
  pub number : ℕ
  pub layer : ℕ
  pub place : ℕ
  pub count : ℕ

abbrev pub accepted : ℕ → Numbers
accepted n = record { number = 0; layer = 0; place = 0; count = n }

abbrev pub below : ℕ → ℕ → ℕ → Numbers
below number layer place = record { number = number; layer = layer; place = place; count = 0 }

-- in the top layer
abbrev pub wrong : ℕ → ℕ → Numbers
wrong number place = below number 0 place

abbrev pub of_fault : Option Fault → Numbers
of_fault None = accepted 0
of_fault (Some f) = below f.number f.layer f.place

abbrev pub of_refusal : Option Refusal → Numbers
of_refusal None = accepted 0
of_refusal (Some r) = of_fault (Some (refusal_fault r))

abbrev pub of_answer : Answer ℕ → Numbers
of_answer (done n) = accepted n
of_answer (refused r) = of_refusal (Some r)

-- A question, and what the definitions answer: what is wrong with a drawing, the verdict on it when sealed, and what is answered to a
-- certificate and to a run for the only claim on such a unit.
pub data Question : Type 0 where
  fault_of : Meaning → Question
  verdict_on : Meaning → Question
  certifying : Meaning → List ℕ → List ℕ → Question
  refuting : Meaning → List ℕ → List ℕ → Question

-- a unit over the module that carries one claim
abbrev pub unit_claiming : Meaning → List ℕ → UnitModel
unit_claiming m says = (claim (seal m 1) says).unit

abbrev pub answer_to : Question → Numbers
answer_to (fault_of m) = of_fault m.outline.fault
answer_to (verdict_on m) = of_refusal (verdict_of (seal m 1))
answer_to (certifying m says states) = of_answer (certify (unit_claiming m says) 0 states).answer
answer_to (refuting m says states) = of_answer (refute (unit_claiming m says) 0 states).answer

pub record Case : Type 0 where
  pub asked : Question
  pub answer : Numbers

-- the toggle: one interface variable, name 0, top 1, that starts at 0 and becomes 1 minus its old value
abbrev pub toggle : List ℕ
toggle = 1 ∷ 0 ∷ 1 ∷ 1 ∷ 1 ∷ 0 ∷ 0 ∷ 0 ∷ 1 ∷ 0 ∷ 0 ∷ 0 ∷ 1 ∷ 0 ∷ 0 ∷ 0 ∷ 0 ∷ 1 ∷ 1 ∷ 1 ∷ 21 ∷ 2 ∷ 0 ∷ 0 ∷ 1 ∷ 21 ∷ 5 ∷ 4 ∷ 0 ∷ 1 ∷ 1 ∷ 0 ∷ []

abbrev pub toggles : Meaning
toggles = table_meaning toggle

-- AND on the names 0 and 1, shown at 2
abbrev pub conjunction : Meaning
conjunction = gates_meaning (1 ∷ 0 ∷ 1 ∷ 2 ∷ 255 ∷ [])

-- NOT of one name, shown at another
abbrev pub inverter : ℕ → ℕ → Meaning
inverter a out = gates_meaning (0 ∷ a ∷ 255 ∷ out ∷ 255 ∷ [])

-- so many external variables of top 1, and no atoms
abbrev pub external_bits : ℕ → Meaning
external_bits n = table_meaning (n ∷ (flat_map (λ name. name ∷ 2 ∷ 1 ∷ []) (numbers_below n) ++ (0 ∷ [])))

-- An atom that controls name 2, awaits two external bytes at 0 and 1, which is 65,536 values, and reads the names of a
-- set, 0 or 2.
abbrev pub sees_two_bytes : ℕ → Meaning
sees_two_bytes reads =
    table_meaning (3 ∷ 0 ∷ 2 ∷ 255 ∷ 1 ∷ 2 ∷ 255 ∷ 2 ∷ 1 ∷ 1 ∷ 1 ∷ 0 ∷ 0 ∷ 0 ∷ 4 ∷ 0 ∷ 0 ∷ 0 ∷ reads ∷ 0 ∷ 0 ∷ 0 ∷ 3 ∷ 1 ∷ 1 ∷ 1 ∷ 21 ∷ 2 ∷ 0 ∷ 0 ∷ 1 ∷ 21 ∷ 2 ∷ 0 ∷ 0 ∷ [])

-- claims: name 0 is less than 2, is less than 1, and true
abbrev pub below_2 : List ℕ
below_2 = 17 ∷ 1 ∷ 0 ∷ 0 ∷ 2 ∷ []

abbrev pub below_1 : List ℕ
below_1 = 17 ∷ 1 ∷ 0 ∷ 0 ∷ 1 ∷ []

abbrev pub always_true : List ℕ
always_true = 21 ∷ []

-- a state by the values of its first names, 0 elsewhere
abbrev pub only : ℕ → List ℕ
only v = v ∷ replicate 31 0

abbrev pub wires : ℕ → ℕ → ℕ → List ℕ
wires a b out = a ∷ b ∷ out ∷ replicate 29 0

abbrev pub listed : List ℕ → List ℕ
listed vs = flat_map only vs

-- the toggle with so many negations, fewer than 64, in front of the guard of its first choice
abbrev pub guarded_toggle : ℕ → Meaning
guarded_toggle n = table_meaning (take 19 toggle ++ ((n + 1) ∷ (replicate n 18 ++ drop 20 toggle)))

-- NOTs of name 31, so many of them, shown at the names from 0 on
abbrev pub inverters : ℕ → List ℕ
inverters n = flat_map (λ out. 0 ∷ 31 ∷ 255 ∷ out ∷ 255 ∷ []) (numbers_below n)

-- a latch whose own name is the input of a NOT
abbrev pub own_read_elsewhere : Meaning
own_read_elsewhere = gates_meaning (2 ∷ 0 ∷ 1 ∷ 2 ∷ 3 ∷ 0 ∷ 3 ∷ 255 ∷ 4 ∷ 255 ∷ [])

-- two NOTs that are both shown at name 1
abbrev pub two_outputs : Meaning
two_outputs = joined (inverter 0 1) (inverter 2 1)

abbrev pub cases : List Case
cases =
    record { asked = fault_of (table_meaning (take 31 toggle)); answer = wrong 2 31 }
    ∷ record { asked = fault_of (table_meaning (toggle ++ (0 ∷ []))); answer = wrong 6 32 }
    ∷ record { asked = fault_of (table_meaning (slice_set toggle 3 0)); answer = wrong 3 3 }
    ∷ record { asked = fault_of (table_meaning (slice_set toggle 8 3)); answer = wrong 4 5 }
    ∷ record { asked = fault_of (table_meaning (slice_set toggle 22 1)); answer = wrong 5 23 }
    ∷ record { asked = fault_of (guarded_toggle 7); answer = accepted 0 }
    ∷ record { asked = fault_of (guarded_toggle 8); answer = wrong 5 28 }
    ∷ record { asked = fault_of (gates_meaning (inverters 16)); answer = accepted 0 }
    ∷ record { asked = fault_of (gates_meaning (inverters 17)); answer = wrong 18 80 }
    ∷ record { asked = fault_of own_read_elsewhere; answer = wrong 18 0 }
    ∷ record { asked = verdict_on (table_meaning (slice_set toggle 29 2)); answer = wrong 16 0 }
    ∷ record { asked = certifying toggles below_2 (listed (0 ∷ 1 ∷ [])); answer = accepted 3 }
    ∷ record { asked = certifying toggles below_2 (listed (0 ∷ [])); answer = wrong 27 0 }
    ∷ record { asked = certifying toggles below_2 (listed (1 ∷ [])); answer = wrong 26 0 }
    ∷ record { asked = certifying toggles below_2 (listed (0 ∷ 0 ∷ 1 ∷ [])); answer = accepted 4 }
    ∷ record { asked = refuting toggles below_1 (listed (0 ∷ 1 ∷ [])); answer = accepted 2 }
    ∷ record { asked = refuting toggles below_1 (listed (0 ∷ [])); answer = wrong 25 0 }
    ∷ record { asked = refuting toggles below_1 (listed (0 ∷ 0 ∷ [])); answer = wrong 27 1 }
    ∷ record { asked = certifying conjunction always_true (wires 0 0 0 ++ (wires 1 0 0 ++ (wires 0 1 0 ++ wires 1 1 1))); answer = accepted 25 }
    ∷ record { asked = verdict_on (joined (inverter 0 1) (inverter 1 0)); answer = wrong 13 0 }
    ∷ record { asked = verdict_on two_outputs; answer = wrong 9 1 }
    ∷ record { asked = verdict_on (renamed (hidden two_outputs 1) 0 5); answer = below 9 2 1 }
    ∷ record { asked = verdict_on (joined (inverter 5 6) (hidden two_outputs 1)); answer = below 9 3 1 }
    ∷ record { asked = verdict_on (external_bits 20); answer = accepted 0 }
    ∷ record { asked = verdict_on (external_bits 21); answer = wrong 17 0 }
    ∷ record { asked = verdict_on (sees_two_bytes 4); answer = wrong 14 0 }
    ∷ []

-- A claim that a run breaks on a part, and a certificate holds on the join

-- name 0, always 1
abbrev pub always_on : Meaning
always_on =
    table_meaning (1 ∷ 0 ∷ 1 ∷ 1 ∷ 1 ∷ 0 ∷ 0 ∷ 0 ∷ 1 ∷ 0 ∷ 0 ∷ 0 ∷ 0 ∷ 0 ∷ 0 ∷ 0 ∷ 0 ∷ 1 ∷ 1 ∷ 1 ∷ 21 ∷ 2 ∷ 0 ∷ 1 ∷ 1 ∷ 21 ∷ 2 ∷ 0 ∷ 1 ∷ [])

-- name 1 is off
abbrev pub off_at_1 : List ℕ
off_at_1 = 16 ∷ 1 ∷ 1 ∷ 0 ∷ 0 ∷ []
