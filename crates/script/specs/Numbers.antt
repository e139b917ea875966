-- Numbers in decimal digits.
use Rattle.std.specs.Prelude.{◌≡◌, ℕ, ◌<◌, Bool, true, cond, ◌&&◌, List, length, Ok, Err, Result, nat_lt}
use Rattle.std.specs.Str.Parse.{digits_value}
use Rattle.std.specs.Str.{all_ascii_digits}
use Rattle.script.specs.declared.mistake.Mistake.{Mistake}

-- the word is a number below the limit, in decimal digits and nothing else; as a statement and as a test
abbrev pub Numeral : ℕ → List ℕ → Type 0
Numeral limit w = (all_ascii_digits w ≡ true) × (0 < length w) × (digits_value 10 w < limit)

abbrev pub is_numeral : ℕ → List ℕ → Bool
is_numeral limit w = all_ascii_digits w && (nat_lt 0 (length w) && nat_lt (digits_value 10 w) limit)

-- the number that the word is, or else this mistake
abbrev pub number_in : ℕ → Mistake → List ℕ → Result ℕ Mistake
number_in limit mistake w = cond (is_numeral limit w) (Ok (digits_value 10 w)) (Err mistake)
