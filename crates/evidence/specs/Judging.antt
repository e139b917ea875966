-- What judging evidence answers.
use Rattle.std.specs.Prelude.{◌≡◌, ℕ, ◌<◌, Bool, true, cond, List, length, Some, None, Option, Result, Ok, Err}
use Rattle.model.specs.Meanings.{Meaning}
use Rattle.model.specs.States.{is_state}
use Rattle.sealing.specs.Orders.{AtomsInOrder}
use Rattle.units.specs.Evidence.{state_at, misses_some, outcomes, certificate_refusal, certificate_count, run_refusal}
use Rattle.units.specs.Sealing.{verdict}
use Rattle.units.specs.Units.{kind_of_round, old_state}
use Rattle.units.specs.declared.refusal.Refusal.{Refusal}

-- whatever the test answers of a state of the list is what p says
abbrev pub Judges : (List ℕ → Bool → Type 0) → (List ℕ → Bool) → List (List ℕ) → Type 0
Judges answered p ss = (i : ℕ) (b : Bool) → i < length ss → answered (state_at ss i) b → b ≡ p (state_at ss i)

-- the number, where nothing is refused
abbrev pub answer_of : Option Refusal → ℕ → Result ℕ Refusal
answer_of None number = Ok number
answer_of (Some refusal) number = Err refusal

-- a certificate is answered with its count
abbrev pub certificate_answer : Meaning → (List ℕ → Bool) → List (List ℕ) → Result ℕ Refusal
certificate_answer m holds ss = answer_of (certificate_refusal m holds ss) (certificate_count m ss)

-- a run is answered with its length
abbrev pub run_answer : Meaning → (List ℕ → Bool) → List (List ℕ) → Result ℕ Refusal
run_answer m holds ss = answer_of (run_refusal m holds ss) (length ss)

-- how many outcomes a round has, none where one of them is not listed
abbrev pub round_answer : Meaning → Option (List ℕ) → List (List ℕ) → Option ℕ
round_answer m before ss =
    cond (misses_some m ss (kind_of_round before) (old_state before)) None (Some (length (outcomes m (kind_of_round before) (old_state before))))

-- a round of a fit module goes from a state of it, or is an initialization; the atoms are in order
pub record RoundReady (m : Meaning) (before : Option (List ℕ)) (order : List ℕ) : Type 0 where
  pub fit : verdict m ≡ None
  pub from_state : is_state m.outline (old_state before) ≡ true
  pub ordered : AtomsInOrder m.outline order
