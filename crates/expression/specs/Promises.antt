-- What the checks promise of written forms, for numbers and for truths.
use Rattle.std.specs.Prelude.{◌≡◌, ℕ, ◌+◌, ◌<◌, ◌≤◌, Bool, true, List, length, take, Ok, Err, Result}
use Rattle.language.specs.Expressions.{Seen, number_bytes, truth_bytes, number_right, truth_right, Reading, to_the_end, expression_fault, read_number, read_truth}
use Rattle.language.specs.Fronts.{Same}
use Rattle.expression.specs.Checking.{checked}

-- what a check that reads so answers to these bytes
abbrev pub verdict : {E : Type 0} → (List ℕ → ℕ → Reading E) → List ℕ → Result (Unit {0}) ℕ
verdict read bs = checked (expression_fault (to_the_end (length bs) (read bs 0)))

-- the bytes are the written form of exactly one right expression
pub record Sole {E : Type 0} (right : E → Bool) (form : E → List ℕ) (bs : List ℕ) : Type 0 where
  pub expression : E
  pub is_right : right expression ≡ true
  pub written : bs ≡ form expression
  pub only : (e : E) → right e ≡ true → bs ≡ form e → e ≡ expression

-- The fault lies at a byte or just past the last one; bytes that are the same up to it have the same fault, whatever
-- follows; and bytes that are cut short before it end too early, and have no other fault.
pub record FirstFault {E : Type 0} (read : List ℕ → ℕ → Reading E) (bs : List ℕ) (place : ℕ) : Type 0 where
  pub inside : place ≤ length bs
  pub settled : (cs : List ℕ) → Same bs cs (place + 1) → verdict read cs ≡ Err place
  pub cut : (n : ℕ) → n < place → verdict read (take n bs) ≡ Err n

-- what passes is one right expression, each right expression passes, and a fault is the first
pub record Judged {E : Type 0} (right : E → Bool) (form : E → List ℕ) (read : List ℕ → ℕ → Reading E) (bs : List ℕ) (r : Result (Unit {0}) ℕ) : Type 0 where
  pub passed : r ≡ Ok tt → Sole right form bs
  pub passes : (e : E) → right e ≡ true → bs ≡ form e → r ≡ Ok tt
  pub faulty : (place : ℕ) → r ≡ Err place → FirstFault read bs place

abbrev pub NumberJudged : Seen → List ℕ → Result (Unit {0}) ℕ → Type 0
NumberJudged s = Judged (number_right 8 s) number_bytes (read_number 8 s)

abbrev pub TruthJudged : Seen → List ℕ → Result (Unit {0}) ℕ → Type 0
TruthJudged s = Judged (truth_right 8 s) truth_bytes (read_truth 8 s)
