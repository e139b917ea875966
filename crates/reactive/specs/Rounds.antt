-- Where rounds of a unit lead: to the initial states and successors of its module, and to each of them.
use Rattle.std.specs.Prelude.{◌≡◌, ℕ, ◌<◌, false, List, Some, None, Option}
use Rattle.model.specs.States.{value}
use Rattle.units.specs.Life.{Came}
use Rattle.units.specs.Rounds.{Accepted, RoundTo}
use Rattle.units.specs.Units.{UnitModel, Slip, standing, standing_state, verdict_of, not_all_held, round_open, end_round}
use Rattle.reactive.specs.Modules.{module_of, Row}
use Rattle.reactive.specs.Reactive.{Valuation, Agree, Module, Variable, IsInitial, Follows}

-- an initial state where none stood, else a successor of the one that stood
abbrev pub ComesNext : Module → Option (List ℕ) → Valuation → Type 0
ComesNext P None t = IsInitial P t
ComesNext P (Some s) t = Follows P (value s) t

-- What stands after a round is told by a row, and comes next after what stood before.
pub record EndedAsTheModuleMay (before after : UnitModel) : Type 0 where
  pub state : List ℕ
  pub row : Row before.meaning state
  pub stands_now : after.phase ≡ standing state
  pub next : ComesNext (module_of before.meaning) (standing_state before.phase) (value state)

-- An end that is accepted, of any unit that can come from the site, leaves an initial state or a successor.
abbrev pub RoundsEndAsTheModuleMay : Type 0
RoundsEndAsTheModuleMay =
    (u : UnitModel) → Came u → (slip : Slip) →
    Accepted (end_round u slip).answer → EndedAsTheModuleMay u (end_round u slip).unit

-- From a fit unit with claims that are all held, no round open and rounds left to count, a round of accepted calls leads
-- to each state that may come next.
abbrev pub RoundsLeadWhereverTheModuleMay : Type 0
RoundsLeadWhereverTheModuleMay =
    (u : UnitModel) →
    verdict_of u ≡ None → not_all_held u.claims ≡ false → round_open u.phase ≡ false → u.rounds < 4294967295 →
    (v : Valuation) → ComesNext (module_of u.meaning) (standing_state u.phase) v →
    (t : List ℕ) × Agree (Variable (module_of u.meaning)) v (value t) × RoundTo u t
