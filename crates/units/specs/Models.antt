-- What a unit is: its claims, their marks, and where it stands.
use Rattle.std.specs.Prelude.{ℕ, Bool, List, Some, None, Option}
use Rattle.language.specs.Expressions.{Truth}
use Rattle.model.specs.Meanings.{Meaning}
use Rattle.model.specs.States.{nothing}
use Rattle.model.specs.declared.Round.{Round}
use Rattle.model.specs.declared.Round.TheVariants.{Initial, Update}

-- A claim is a truth about one state, whose values it sees as old ones, with the mark that evidence has given it.
pub data Mark : Type 0 where
  open_mark : Mark
  held : Mark
  broken : Mark

pub record Claim : Type 0 where
  pub says : Truth
  pub mark : Mark

-- A unit is idle, has a state standing, or is in the middle of a round. A round has the state that stood before, none
-- in an initialization, the values given and made so far, and the atoms that have fired.
pub data Phase : Type 0 where
  idle : Phase
  standing : List ℕ → Phase
  in_round : Option (List ℕ) → List ℕ → List Bool → Phase

-- A unit: its module, its number, how many rounds were opened, whether it was joined with more claims than it can
-- carry, its claims and its phase.
pub record UnitModel : Type 0 where
  pub meaning : Meaning
  pub number : ℕ
  pub rounds : ℕ
  pub crowded : Bool
  pub claims : List Claim
  pub phase : Phase

-- a slip is known by its two numbers alone
pub record Slip : Type 0 where
  pub unit : ℕ
  pub round : ℕ

-- the state that stands, in a round the one that stood before it
abbrev pub standing_state : Phase → Option (List ℕ)
standing_state idle = None
standing_state (standing s) = Some s
standing_state (in_round before new fired) = before

-- the kind of a round that began with this state standing, and the old values in it
abbrev pub kind_of_round : Option (List ℕ) → Round
kind_of_round None = Initial
kind_of_round (Some s) = Update

abbrev pub old_state : Option (List ℕ) → List ℕ
old_state None = nothing
old_state (Some s) = s
