-- What the checks answer.
use Rattle.std.specs.Prelude.{ℕ, Bool, cond, List, Some, None, Ok, Err, Option, Result, ◌==◌}
use Rattle.language.specs.Expressions.{Seen as Sight, Reading, good, bad, old_value, as_name, read_byte}
use Rattle.model.specs.Sets.{has}
use Rattle.expression.specs.declared.checking.Seen.{Seen}

-- the names seen, as sets
abbrev pub seen_of : Seen → Sight
seen_of s = record { old = has s.old; new = has s.new }

-- where a reading ends, or its fault's place
abbrev pub read_end : {X : Type 0} → Reading X → Result ℕ ℕ
read_end (good x end) = Ok end
read_end (bad place) = Err place

-- where a name of the set ends; what it is the name of makes no difference
abbrev pub name_end : (ℕ → Bool) → List ℕ → ℕ → Result ℕ ℕ
name_end names bs k = read_end (read_byte (as_name old_value names) bs k)

-- an expression that ends here, of so many bytes: what is left over is a fault
abbrev pub ended : ℕ → ℕ → Result (Unit {0}) ℕ
ended all end = cond (end == all) (Ok tt) (Err end)

-- right, or the place of the fault
abbrev pub checked : Option ℕ → Result (Unit {0}) ℕ
checked None = Ok tt
checked (Some place) = Err place
