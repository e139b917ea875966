-- The bytes that the tests share.
use Rattle.std.specs.Prelude.{ℕ, zero, suc, List, [], ◌∷◌, ◌++◌}

-- the toggle's table: one bit, 0 at first, then this number less its old value
abbrev pub toggle_from : ℕ → List ℕ
toggle_from n =
    1 ∷ 0 ∷ 1 ∷ 1 ∷ 1 ∷ 0 ∷ 0 ∷ 0 ∷ 1 ∷ 0 ∷ 0 ∷ 0 ∷ 1 ∷ 0 ∷ 0 ∷ 0 ∷ 0 ∷ 1 ∷ 1
    ∷ 1 ∷ 21 ∷ 2 ∷ 0 ∷ 0 ∷ 1 ∷ 21 ∷ 5 ∷ 4 ∷ 0 ∷ n ∷ 1 ∷ 0 ∷ []

-- the record of a NOT gate
abbrev pub inverter_record : ℕ → ℕ → List ℕ
inverter_record a out = 0 ∷ a ∷ 255 ∷ out ∷ 255 ∷ []

-- a sum that halves so many times, down to the constant 255
unfoldable pub sum_form : ℕ → List ℕ
sum_form zero = 0 ∷ 255 ∷ []
sum_form (suc k) = 3 ∷ sum_form k ++ sum_form k

-- a NOT gate's record and one of a kind that there is not
abbrev pub wrong_second_record : List ℕ
wrong_second_record = 0 ∷ 0 ∷ 255 ∷ 1 ∷ 255 ∷ 7 ∷ 0 ∷ 255 ∷ 2 ∷ 255 ∷ []
