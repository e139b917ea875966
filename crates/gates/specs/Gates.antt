-- Gates and the atoms that they are made of.
use Rattle.std.specs.Prelude.{◌≡◌, ℕ, Bool, false, cond, ◌&&◌, ◌||◌, List, [], ◌∷◌, Some, None, Option, Result, MatchResult, ◌==◌, nat_lt, slice_index}
use Rattle.std.specs.List.{list_any, list_all}
use Rattle.model.specs.Sets.{is_name}
use Rattle.gates.specs.declared.gate.Field.{Field}
use Rattle.gates.specs.declared.gate.Field.TheVariants.{Input, Out, Own}
use Rattle.gates.specs.declared.gate.Gate.{Gate}
use Rattle.gates.specs.declared.gate.Gate.TheVariants.{Not, And, Latch}
use Rattle.gates.specs.declared.gate.Malformed.{Malformed}
use Rattle.gates.specs.declared.gate.Part.{Part}
use Rattle.gates.specs.declared.gate.Part.TheVariants.{Inverter, Conjunction, LatchOutput, LatchStore}

-- The gate that five bytes describe. Kind 0 is NOT, 1 AND, 2 a latch, with a as its set and b as its reset.
-- Names are at most 31; a field that the kind does not use is 255.
abbrev pub gate_of : ℕ → ℕ → ℕ → ℕ → ℕ → Option Gate
gate_of kind a b out own =
    cond (kind == 0 && nat_lt a 32 && b == 255 && nat_lt out 32 && own == 255) (Some (Not a out))
    (cond (kind == 1 && nat_lt a 32 && nat_lt b 32 && nat_lt out 32 && own == 255) (Some (And a b out))
    (cond (kind == 2 && nat_lt a 32 && nat_lt b 32 && nat_lt out 32 && nat_lt own 32) (Some (Latch a b out own)) None))

-- the gate that a record of five bytes describes
abbrev pub gate_in : List ℕ → Option Gate
gate_in r = gate_of (slice_index r 0) (slice_index r 1) (slice_index r 2) (slice_index r 3) (slice_index r 4)

-- the record describes the gate, or none where there is an error
abbrev pub Describes : List ℕ → Result Gate Malformed → Type 0
Describes r result = MatchResult result (λ gate. gate_in r ≡ Some gate) (λ _. gate_in r ≡ None)

-- the atoms of a gate: a latch is two, its output before its store
abbrev pub parts_of : Gate → List Part
parts_of (Not a out) = Inverter a out ∷ []
parts_of (And a b out) = Conjunction a b out ∷ []
parts_of (Latch set reset out own) = LatchOutput out own ∷ LatchStore set reset own ∷ []

-- is the name n used by the part, as an input, as its output or as what a latch keeps for itself
abbrev pub uses : Field → Part → ℕ → Bool
uses Input (Inverter a out) n = n == a
uses Input (Conjunction a b out) n = n == a || n == b
uses Input (LatchOutput out own) n = false
uses Input (LatchStore set reset own) n = n == set || n == reset
uses Out (Inverter a out) n = n == out
uses Out (Conjunction a b out) n = n == out
uses Out (LatchOutput out own) n = n == out
uses Out (LatchStore set reset own) n = false
uses Own (Inverter a out) n = false
uses Own (Conjunction a b out) n = false
uses Own (LatchOutput out own) n = n == own
uses Own (LatchStore set reset own) n = n == own

-- the name that a part controls
abbrev pub target : Part → ℕ
target (Inverter a out) = out
target (Conjunction a b out) = out
target (LatchOutput out own) = out
target (LatchStore set reset own) = own

abbrev pub controls_of : Part → ℕ → Bool
controls_of p n = is_name (target p) n

abbrev pub reads_of : Part → ℕ → Bool
reads_of (Inverter a out) n = false
reads_of (Conjunction a b out) n = false
reads_of (LatchOutput out own) n = is_name own n
reads_of (LatchStore set reset own) n = is_name own n

abbrev pub awaits_of : Part → ℕ → Bool
awaits_of (Inverter a out) n = is_name a n
awaits_of (Conjunction a b out) n = is_name a n || is_name b n
awaits_of (LatchOutput out own) n = false
awaits_of (LatchStore set reset own) n = is_name set n || is_name reset n

-- each name of the part is a name
abbrev pub small : Part → Bool
small (Inverter a out) = nat_lt a 32 && nat_lt out 32
small (Conjunction a b out) = nat_lt a 32 && nat_lt b 32 && nat_lt out 32
small (LatchOutput out own) = nat_lt out 32 && nat_lt own 32
small (LatchStore set reset own) = nat_lt set 32 && nat_lt reset 32 && nat_lt own 32

abbrev pub all_small : List Part → Bool
all_small ps = list_all small ps

-- is the name in such a field of some part
abbrev pub used : Field → List Part → ℕ → Bool
used f ps n = list_any (λ p. uses f p n) ps
