-- States as rows, of the published definition and of the definitions that the calls are made of.
use Rattle.std.proofs.Common.{◌≡◌, ℕ, true, List, arith}
use Rattle.composition.specs.laws.Faults.{none_from}
use Rattle.model.specs.Meanings.{Meaning}
use Rattle.model.specs.States.{is_state, nothing, InitialState, Successor}
use Rattle.model.specs.declared.Round.TheVariants.{Initial, Update}
use Rattle.model.proofs.States.{state_parts, yields_parts}
use Rattle.reactive.specs.Modules.{Row}
use Rattle.reactive.specs.Statements.{StatesAgree}
use Rattle.reactive.proofs.States.{states_are}
use Rattle.life.specs.Subject.{StateRow, InitialRow, NextRow}

module _ (m : Meaning) where
  agree : StatesAgree m
  agree = states_are m

  row : (t : List ℕ) → is_state m.outline t ≡ true → Row m t
  row t h =
      let parts = state_parts m.outline t h in
      record {
        long = parts.long;
        zero = λ n e. let most = parts.within n in let top = m.outline_laws.no_top n (none_from (m.outline.kind n) e) in omega arith;
      }

  pub row_from : (t : List ℕ) → is_state m.outline t ≡ true → StateRow m t
  row_from t h = record { row = row t h; state = (agree.states t (row t h)).0 h }

  pub row_state : (t : List ℕ) → StateRow m t → is_state m.outline t ≡ true
  row_state t r = (agree.states t r.row).1 r.state

  pub initial_from : (t : List ℕ) → InitialState m t → InitialRow m t
  initial_from t i =
      let r = row_from t (yields_parts m Initial nothing t i.yielded).0 in
      record { row = r; initial = (agree.initial t r.row).0 i }

  pub row_initial : (t : List ℕ) → InitialRow m t → InitialState m t
  row_initial t i = (agree.initial t i.row.row).1 i.initial

  pub next_from : (s t : List ℕ) → is_state m.outline s ≡ true → Successor m s t → NextRow m s t
  next_from s t h u =
      let before = row_from s h in
      let after = row_from t (yields_parts m Update s t u.yielded).0 in
      record { before = before; row = after; follows = (agree.successors s t before.row after.row).0 (h, u) }

  pub row_next : (s t : List ℕ) → NextRow m s t → Successor m s t
  row_next s t n = ((agree.successors s t n.before.row n.row.row).1 n.follows).1
