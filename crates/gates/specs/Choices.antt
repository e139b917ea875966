-- The choices of a gate's atoms: one list for each atom and kind of round, what opens a choice beside what it gives.
use Rattle.std.specs.Prelude.{ℕ, Bool, true, false, ◌&&◌, List, [], ◌∷◌, ◌++◌, length, Some, None, Option, ◌==◌}
use Rattle.std.specs.List.{slice_get}
use Rattle.model.specs.Meanings.{Valuation}
use Rattle.model.specs.declared.Round.{Round}
use Rattle.model.specs.declared.Round.TheVariants.{Initial, Update}
use Rattle.gates.specs.declared.gate.Part.{Part}
use Rattle.gates.specs.declared.gate.Part.TheVariants.{Inverter, Conjunction, LatchOutput, LatchStore}

-- the new value of the name is the bit
pub record Condition : Type 0 where
  pub name : ℕ
  pub bit : ℕ

-- what a choice gives: a bit, or the old value of a name
pub data Value : Type 0 where
  Bit : ℕ → Value
  OldValue : ℕ → Value

-- A choice is open where all conditions of its guard hold.
pub record Choice : Type 0 where
  pub guard : List Condition
  pub value : Value

infix 70 ◌shows◌
abbrev pub ◌shows◌ : ℕ → ℕ → List Condition
n shows b = record { name = n; bit = b } ∷ []

infixr 60 ◌and◌
abbrev pub ◌and◌ : List Condition → List Condition → List Condition
g and h = g ++ h

abbrev pub always : List Condition
always = []

infix 50 ◌gives◌
abbrev pub ◌gives◌ : List Condition → Value → Choice
g gives v = record { guard = g; value = v }

-- The choices of each atom, numbered in this order.
abbrev pub choices_of : Round → Part → List Choice
choices_of r (Inverter a out) =
    (a shows 0 gives Bit 1)
    ∷ (a shows 1 gives Bit 0)
    ∷ []
choices_of r (Conjunction a b out) =
    (a shows 0 gives Bit 0)
    ∷ (b shows 0 gives Bit 0)
    ∷ (a shows 1 and b shows 1 gives Bit 1)
    ∷ []
choices_of Initial (LatchOutput out own) =
    (always gives Bit 0)
    ∷ (always gives Bit 1)
    ∷ []
choices_of Update (LatchOutput out own) =
    (always gives OldValue own)
    ∷ []
choices_of Initial (LatchStore set reset own) =
    (set shows 1 gives Bit 1)
    ∷ (reset shows 1 gives Bit 0)
    ∷ (set shows 0 and reset shows 0 gives Bit 0)
    ∷ []
choices_of Update (LatchStore set reset own) =
    (set shows 1 gives Bit 1)
    ∷ (reset shows 1 gives Bit 0)
    ∷ (set shows 0 and reset shows 0 gives OldValue own)
    ∷ []

-- do all conditions hold at these new values
abbrev pub holds : List Condition → Valuation → Bool
holds [] new = true
holds (c ∷ cs) new = new c.name == c.bit && holds cs new

abbrev pub worth : Value → Valuation → ℕ
worth (Bit b) old = b
worth (OldValue n) old = old n

-- how many choices the atom has
abbrev pub choice_count : Round → Part → ℕ
choice_count r p = length (choices_of r p)

-- is a choice that may be there open
abbrev pub is_open : Option Choice → Valuation → Bool
is_open None new = false
is_open (Some c) new = holds c.guard new

abbrev pub given_by : Option Choice → Valuation → ℕ
given_by None old = 0
given_by (Some c) old = worth c.value old

-- is choice k open at these new values; one that is not there is closed
abbrev pub opens_of : Round → Part → ℕ → Valuation → Bool
opens_of r p k new = is_open (slice_get (choices_of r p) k) new

-- what choice k gives to the name that the atom controls; one that is not there gives 0
abbrev pub gives_of : Round → Part → ℕ → Valuation → ℕ
gives_of r p k old = given_by (slice_get (choices_of r p) k) old
