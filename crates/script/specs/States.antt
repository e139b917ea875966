-- States in words: NAME=VALUE, parted by commas; states are parted by semicolons. A name that is not written has the value 0.
use Rattle.std.specs.Prelude.{ℕ, Bool, cond, List, [], ◌∷◌, ◌++◌, map, replicate, length, Some, None, Ok, Err, Option, Result, is_some, ◌==◌, nat_lt, unwrap_or, slice_index_or, slice_set}
use Rattle.std.specs.List.{range_with_len, before_first, after_first, position_or_len}
use Rattle.script.specs.Numbers.{number_in}
use Rattle.script.specs.declared.mistake.Mistake.{Mistake}
use Rattle.script.specs.declared.mistake.Mistake.TheVariants.{BadAssignment, NameTwice}

-- the text has the mark somewhere
abbrev pub has_mark : ℕ → List ℕ → Bool
has_mark mark text = nat_lt (position_or_len (λ c. c == mark) text) (length text)

-- what stands before the first mark, and what after it
abbrev pub before_mark : ℕ → List ℕ → List ℕ
before_mark mark text = before_first (λ c. c == mark) text

abbrev pub after_mark : ℕ → List ℕ → List ℕ
after_mark mark text = after_first (λ c. c == mark) text

abbrev pub put_first : ℕ → List (List ℕ) → List (List ℕ)
put_first c [] = (c ∷ []) ∷ []
put_first c (part ∷ parts) = (c ∷ part) ∷ parts

-- the parts of a text round its marks, one more than there are marks
unfoldable pub parts : ℕ → List ℕ → List (List ℕ)
parts mark [] = [] ∷ []
parts mark (c ∷ text) = cond (c == mark) ([] ∷ parts mark text) (put_first c (parts mark text))

-- the next step on a value, or the mistake
abbrev pub then : {A B : Type 0} → Result A Mistake → (A → Result B Mistake) → Result B Mistake
then (Ok a) f = f a
then (Err e) f = Err e

-- the values of the 32 names, as far as they are given
abbrev pub Given : Type 0
Given = List (Option ℕ)

-- one more value is given; none may be given twice
abbrev pub give : Given → ℕ → ℕ → Result Given Mistake
give given name value = cond (is_some (slice_index_or given name None)) (Err NameTwice) (Ok (slice_set given name (Some value)))

-- NAME=VALUE, a name below 32 and a value below 256
abbrev pub assign : Given → List ℕ → Result Given Mistake
assign given text =
    cond (has_mark 61 text)
    (then (number_in 256 BadAssignment (before_mark 61 text)) (λ name.
    then (number_in 256 BadAssignment (after_mark 61 text)) (λ value.
    cond (nat_lt name 32) (give given name value) (Err BadAssignment))))
    (Err BadAssignment)

unfoldable pub assign_all : Given → List (List ℕ) → Result Given Mistake
assign_all given [] = Ok given
assign_all given (part ∷ parts) = then (assign given part) (λ given. assign_all given parts)

-- the value that a name is given, or else 0
abbrev pub value_given : Given → ℕ → ℕ
value_given given name = unwrap_or (slice_index_or given name None) 0

-- the state that assignments parted by commas spell
abbrev pub state_in_words : List ℕ → Result (List ℕ) Mistake
state_in_words text = then (assign_all (replicate 32 None) (parts 44 text)) (λ given. Ok (map (value_given given) (range_with_len 0 32)))

-- the states that are parted by semicolons, one after the other
unfoldable pub all_states : List (List ℕ) → Result (List ℕ) Mistake
all_states [] = Ok []
all_states (part ∷ parts) = then (state_in_words part) (λ state. then (all_states parts) (λ states. Ok (state ++ states)))

abbrev pub states_in_words : List ℕ → Result (List ℕ) Mistake
states_in_words text = all_states (parts 59 text)
