-- How gates behave, in the words of an electrician: what each gate's wires show after a round.
use Rattle.std.specs.Prelude.{◌≡◌, ℕ, ◌/◌, true, ◌↔◌, List, length, None}
use Rattle.std.specs.List.{AllByRecursion}
use Rattle.model.specs.Meanings.{Valuation, Meaning}
use Rattle.model.specs.States.{value, is_state, InitialState, Successor, nothing}
use Rattle.model.specs.declared.Round.{Round}
use Rattle.model.specs.declared.Round.TheVariants.{Initial, Update}
use Rattle.gates.specs.Netlists.{fault_place, gates_upto}
use Rattle.gates.specs.declared.gate.Gate.{Gate}
use Rattle.gates.specs.declared.gate.Gate.TheVariants.{Not, And, Latch}

abbrev pub On : Valuation → ℕ → Type 0
On v n = v n ≡ 1

abbrev pub Off : Valuation → ℕ → Type 0
Off v n = v n ≡ 0

-- NOT shows the negation of its new input
pub record Negates (new : Valuation) (a out : ℕ) : Type 0 where
  pub when_off : Off new a → On new out
  pub when_on : On new a → Off new out

-- AND shows the conjunction of its new inputs
pub record Conjoins (new : Valuation) (a b out : ℕ) : Type 0 where
  pub both_on : On new a → On new b → On new out
  pub first_off : Off new a → Off new out
  pub second_off : Off new b → Off new out

-- the stored bit before a round: 0 before the first
abbrev pub WasStored : Round → Valuation → ℕ → ℕ → Type 0
WasStored Initial old own v = v ≡ 0
WasStored Update old own v = v ≡ old own

-- a latch shows the bit that it had stored; it comes up showing either
abbrev pub Shows : Round → Valuation → Valuation → ℕ → ℕ → Type 0
Shows Initial old new out own = Unit {0}
Shows Update old new out own = new out ≡ old own

-- It stores 1 if set, 0 if reset, either if both, and what it had stored if neither.
pub record Stores (r : Round) (old new : Valuation) (set reset own : ℕ) : Type 0 where
  pub set_only : On new set → Off new reset → On new own
  pub reset_only : Off new set → On new reset → Off new own
  pub neither : Off new set → Off new reset → WasStored r old own (new own)

abbrev pub Works : Round → Valuation → Valuation → Gate → Type 0
Works r old new (Not a out) = Negates new a out
Works r old new (And a b out) = Conjoins new a b out
Works r old new (Latch set reset out own) = Shows r old new out own × Stores r old new set reset own

-- the gates of a list, in its order
abbrev pub gates_of : List ℕ → List Gate
gates_of bs = gates_upto bs (length bs / 5)

-- For a list without fault, the initial states and the successors of a state are those states of the module in which
-- every gate has worked.
pub record GatesWork (bs : List ℕ) (m : Meaning) : Type 0 where
  pub initially : fault_place bs ≡ None → (t : List ℕ) → InitialState m t ↔ ((is_state m.outline t ≡ true) × AllByRecursion (Works Initial (value nothing) (value t)) (gates_of bs))
  pub later : fault_place bs ≡ None → (s t : List ℕ) → Successor m s t ↔ ((is_state m.outline t ≡ true) × AllByRecursion (Works Update (value s) (value t)) (gates_of bs))
