-- Rounds of units lead to the initial states and successors of their modules, and to each of them.
use Rattle.std.proofs.Common.{◌≡◌, ℕ, true, List, Some, None, Option, refl}
use Rattle.model.specs.Meanings.{Meaning}
use Rattle.model.specs.States.{value, is_state, nothing}
use Rattle.model.specs.declared.Round.TheVariants.{Initial, Update}
use Rattle.model.proofs.States.{yields_parts}
use Rattle.units.specs.Rounds as rounds
use Rattle.units.specs.Units.{standing_state}
use Rattle.units.proofs.Lives.{every_unit_sound}
use Rattle.units.proofs.Outcomes.{end_in_outcomes, reach_outcomes}
use Rattle.units.proofs.Theory.{reached_state}
use Rattle.reactive.specs.Modules.{module_of}
use Rattle.reactive.specs.Reactive.{Valuation, Agree, Variable}
use Rattle.reactive.specs.Rounds.{ComesNext, RoundsEndAsTheModuleMay, RoundsLeadWhereverTheModuleMay}
use Rattle.reactive.proofs.Runs.{initial_same, follows_same}
use Rattle.reactive.proofs.States.{states_agree, follows, row_of}

module _ (m : Meaning) where
  -- what follows by rows comes next
  next_state : (before : Option (List ℕ)) (t : List ℕ) → rounds.Follows m before t → is_state m.outline t ≡ true
  next_state None t i = (yields_parts m Initial nothing t i.yielded).0
  next_state (Some s) t u = (yields_parts m Update s t u.yielded).0

  comes_next : (before : Option (List ℕ)) (t : List ℕ) → ((s : List ℕ) → before ≡ Some s → is_state m.outline s ≡ true) → rounds.Follows m before t → ComesNext (module_of m) before (value t)
  comes_next None t h i = ((states_agree m).initial t (row_of m t (next_state None t i))).0 i
  comes_next (Some s) t h u =
      let state = h s refl in
      ((states_agree m).successors s t (row_of m s state) (row_of m t (next_state (Some s) t u))).0 (state, u)

  -- what comes next is told by a row that follows
  next_row : (before : Option (List ℕ)) (v : Valuation) → ComesNext (module_of m) before v → (t : List ℕ) × Agree (Variable (module_of m)) v (value t) × rounds.Follows m before t
  next_row None v i =
      let (t, row, same) = (states_agree m).told v i.state in
      (t, same, ((states_agree m).initial t row).1 (initial_same m v (value t) same i))
  next_row (Some s) v u =
      let (t, row, same) = (states_agree m).told v u.state in
      (t, same, (follows m s t u.before row).1 (follows_same m (value s) v (value s) (value t) (λ x _. refl) same u))

pub rounds_end : RoundsEndAsTheModuleMay
rounds_end u came slip accepted =
    let ended = end_in_outcomes u came slip accepted in
    let before : (s : List ℕ) → standing_state u.phase ≡ Some s → is_state u.meaning.outline s ≡ true =
    λ s e. reached_state u.meaning s ((every_unit_sound u came).state s e).reached in
    record {
      state = ended.state;
      row = row_of u.meaning ended.state (next_state u.meaning (standing_state u.phase) ended.state ended.follows);
      stands_now = ended.stands_now;
      next = comes_next u.meaning (standing_state u.phase) ended.state before ended.follows;
    }

pub rounds_lead : RoundsLeadWhereverTheModuleMay
rounds_lead u fit held closed left v next =
    let (t, same, follows_row) = next_row u.meaning (standing_state u.phase) v next in
    (t, same, reach_outcomes u fit held closed left t follows_row)
