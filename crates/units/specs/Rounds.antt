-- What rounds lead to.
use Rattle.std.specs.Prelude.{◌≡◌, ℕ, ◌+◌, ◌<◌, false, List, [], ◌∷◌, length, Some, None, Option}
use Rattle.model.specs.Meanings.{Meaning}
use Rattle.model.specs.States.{InitialState, Successor}
use Rattle.units.specs.Life.{Came}
use Rattle.units.specs.Units.{UnitModel, Slip, Answer, done, refused, standing, standing_state, verdict_of, not_all_held, round_open, open_round, fire, end_round}

abbrev pub Accepted : {A : Type 0} → Answer A → Type 0
Accepted (done a) = Unit {0}
Accepted (refused f) = ⊥

-- an initial state where none stood, else a successor of the one that stood
abbrev pub Follows : Meaning → Option (List ℕ) → List ℕ → Type 0
Follows m None t = InitialState m t
Follows m (Some s) t = Successor m s t

-- An end that is not refused leaves standing a state that follows the one that stood.
pub record EndedInOutcome (u after : UnitModel) : Type 0 where
  pub state : List ℕ
  pub stands_now : after.phase ≡ standing state
  pub follows : Follows u.meaning (standing_state u.phase) state

abbrev pub RoundsEndOnlyInOutcomes : Type 0
RoundsEndOnlyInOutcomes = (u : UnitModel) → Came u → (slip : Slip) → Accepted (end_round u slip).answer → EndedInOutcome u (end_round u slip).unit

-- calls of fire one after the other, each with an atom and a choice: what they leave, and that each is accepted
abbrev pub after_fires : UnitModel → Slip → List (ℕ × ℕ) → UnitModel
after_fires u slip [] = u
after_fires u slip (step ∷ steps) = after_fires (fire u slip step.0 step.1).unit slip steps

abbrev pub FiresAccepted : UnitModel → Slip → List (ℕ × ℕ) → Type 0
FiresAccepted u slip [] = Unit {0}
FiresAccepted u slip (step ∷ steps) = Accepted (fire u slip step.0 step.1).answer × FiresAccepted (fire u slip step.0 step.1).unit slip steps

-- the slip of the next round
abbrev pub next_slip : UnitModel → Slip
next_slip u = record { unit = u.number; round = u.rounds + 1 }

-- A whole round of accepted calls, open, fires and end, after which t stands.
pub record RoundTo (u : UnitModel) (t : List ℕ) : Type 0 where
  pub given : List ℕ
  pub long : length given ≡ 32
  pub opened : (open_round u given).answer ≡ done (next_slip u)
  pub steps : List (ℕ × ℕ)
  pub fired : FiresAccepted (open_round u given).unit (next_slip u) steps
  pub ended : Accepted (end_round (after_fires (open_round u given).unit (next_slip u) steps) (next_slip u)).answer
  pub stands_now : (end_round (after_fires (open_round u given).unit (next_slip u) steps) (next_slip u)).unit.phase ≡ standing t

-- On a fit unit with claims that are all held, no round open and rounds left to count, there is one to each state that
-- follows.
abbrev pub RoundsReachEveryOutcome : Type 0
RoundsReachEveryOutcome =
    (u : UnitModel) → verdict_of u ≡ None → not_all_held u.claims ≡ false → round_open u.phase ≡ false → u.rounds < 4294967295 →
    (t : List ℕ) → Follows u.meaning (standing_state u.phase) t → RoundTo u t
