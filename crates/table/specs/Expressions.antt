-- Expressions that are checked.
use Rattle.std.specs.Prelude.{◌≡◌, ℕ, ◌+◌, ◌≤◌, List, length, Some, None, Err, Option, Result}
use Rattle.expression.specs.Checking.{checked}
use Rattle.language.specs.declared.rules.Rule.TheVariants.{WrongExpression}
use Rattle.language.specs.Tables.{Step, fine, wrong, and_then, between, byte_item}
use Rattle.table.specs.Reads.{any_part}

-- a fault that is answered lies in the bytes or just past them
abbrev pub FaultsInside : (List ℕ → Result (Unit {0}) ℕ → Type 0) → Type 0
FaultsInside answered = (part : List ℕ) (place : ℕ) → answered part (Err place) → place ≤ length part

-- whatever is answered is the fault told, if any
abbrev pub Checks : (List ℕ → Result (Unit {0}) ℕ → Type 0) → (List ℕ → Option ℕ) → Type 0
Checks answered fault = (part : List ℕ) (r : Result (Unit {0}) ℕ) → answered part r → r ≡ checked (fault part)

-- bytes from place k up to `end`, by their fault
abbrev pub judged_part : ℕ → ℕ → Option ℕ → Step (Unit {0})
judged_part k end None = fine tt end
judged_part k end (Some place) = wrong WrongExpression (k + place) end

-- an expression behind its length byte, by its fault
abbrev pub judged_item : (List ℕ → Option ℕ) → List ℕ → ℕ → Step (Unit {0})
judged_item fault bs k = and_then (byte_item WrongExpression (between 1 64) bs k) (λ size k. and_then (any_part size bs k) (λ part end. judged_part k end (fault part)))
