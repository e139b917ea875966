-- The count that an accepted certificate is answered with, said by lists without repetition.
use Rattle.std.specs.Prelude.{◌≡◌, ℕ, ◌+◌, ◌<◌, true, List, [], ◌∷◌, length, pos}
use Rattle.model.specs.Meanings.{Meaning}
use Rattle.model.specs.States.{value, nothing}
use Rattle.model.specs.declared.Round.{Round}
use Rattle.model.specs.declared.Round.TheVariants.{Initial, Update}
use Rattle.reactive.specs.Counts.{Many}
use Rattle.reactive.specs.Modules.{module_of, Row}
use Rattle.reactive.specs.Reactive.{IsState}

-- A state and, for each atom, a choice that there is, that is open at the old values in s and the new ones in the state,
-- and that gives the state's values of the names that the atom controls.
pub record Outcome (m : Meaning) (r : Round) (s : List ℕ) (pair : List ℕ × List ℕ) : Type 0 where
  pub row : Row m pair.0
  pub state : IsState (module_of m) (value pair.0)
  pub long : length pair.1 ≡ m.outline.atoms
  pub there : (a : ℕ) → a < m.outline.atoms → value pair.1 a < m.acts.choices r a
  pub opened : (a : ℕ) → a < m.outline.atoms → m.acts.opens r a (value pair.1 a) (value s) (value pair.0) ≡ true
  pub given : (a n : ℕ) → m.outline.controls a n ≡ true →
      m.acts.gives r a (value pair.1 a) n (value s) (value pair.0) ≡ pos (value pair.0 n)

-- so many outcomes have rounds from each of the listed states, counted together, a state as often as it is listed
abbrev pub OutcomesFrom : Meaning → List (List ℕ) → ℕ → Type 0
OutcomesFrom m [] n = n ≡ 0
OutcomesFrom m (s ∷ ss) n =
    (here : ℕ) × (others : ℕ) × Many (Outcome m Update s) here × OutcomesFrom m ss others × (n ≡ here + others)

-- so many has the first round, and rounds from each of the listed states
pub record CountedOver (m : Meaning) (ss : List (List ℕ)) (n : ℕ) : Type 0 where
  pub first : ℕ
  pub later : ℕ
  pub of_first : Many (Outcome m Initial nothing) first
  pub of_later : OutcomesFrom m ss later
  pub together : n ≡ first + later
