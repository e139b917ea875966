-- What assignments give, part by part.
use Rattle.std.proofs.Common.{◌≡◌, ℕ, ◌<◌, true, false, cond, Some, None, is_some, slice_index_or, slice_set, List, [], Ok, Err, Result, refl, length, ◌==◌, nat_lt, rules, tests, get_or, map, sym, ◌∙◌, arith}
use Rattle.std.specs.List.{range_with_len, before_first, after_first, position_or_len}
use Rattle.std.proofs.lemmas.List.{ext_get_or}
use Rattle.std.proofs.lemmas.List.FromFn.{length-map-range_with_len, get_or-map-range_with_len}
use Rattle.script.specs.States.{Given, parts, then, value_given, give, assign, assign_all, has_mark}
use Rattle.script.specs.Numbers.{number_in}
use Rattle.script.specs.declared.mistake.Mistake.TheVariants.{BadAssignment, NameTwice}
use Rattle.script.specs.declared.mistake.Mistake.{Mistake}
use Rattle.script.proofs.Parts.{parts_cut, parts_whole}

last : (r : Result Given Mistake) → r ≡ then r (λ given. assign_all given [])
unfolding assign_all
last (Ok given) = refl
last (Err e) = refl

-- one assignment alone
pub assign_one : (given : Given) (text : List ℕ) → position_or_len (λ c. c == 44) text ≡ length text → assign given text ≡ assign_all given (parts 44 text)
unfolding assign_all
assign_one given text all = rw (parts_whole 44 text all) (last (assign given text))

-- an assignment before others
pub assign_first : (given : Given) (text : List ℕ) → position_or_len (λ c. c == 44) text < length text →
    assign_all given (parts 44 text) ≡ then (assign given (before_first (λ c. c == 44) text)) (λ more. assign_all more (parts 44 (after_first (λ c. c == 44) text)))
unfolding assign_all
assign_first given text few = rw (parts_cut 44 text few) refl

by_numbers : (given : Given) (n v : Result ℕ Mistake) (name value : ℕ) → n ≡ Ok name → v ≡ Ok value → name < 32 →
    then n (λ name. then v (λ value. cond (nat_lt name 32) (give given name value) (Err BadAssignment))) ≡ give given name value
by_numbers given n v name value named valued few = let small : nat_lt name 32 ≡ true = search (rules, tests) in rw (named, valued, small) refl

-- a name below 32 and its value
pub assigned : (given : Given) (text : List ℕ) (name value : ℕ) → position_or_len (λ c. c == 61) text < length text →
    number_in 256 BadAssignment (before_first (λ c. c == 61) text) ≡ Ok name → number_in 256 BadAssignment (after_first (λ c. c == 61) text) ≡ Ok value → name < 32 →
    assign given text ≡ give given name value
assigned given text name value cut named valued few =
    let mark : has_mark 61 text ≡ true = search (rules, tests) in
    rw mark (by_numbers given _ _ name value named valued few)

pub given_twice : (given : Given) (name value : ℕ) → is_some (slice_index_or given name None) ≡ true → give given name value ≡ Err NameTwice
given_twice given name value is = rw is refl

pub given_once : (given : Given) (name value : ℕ) → is_some (slice_index_or given name None) ≡ false → give given name value ≡ Ok (slice_set given name (Some value))
given_once given name value is = rw is refl

-- a list of the values that the names are given
pub values_are : (given : Given) (ys : List ℕ) → length ys ≡ 32 → ((i : ℕ) → i < 32 → get_or ys i 0 ≡ value_given given i) → map (value_given given) (range_with_len 0 32) ≡ ys
values_are given ys long each =
    ext_get_or 0 (map (value_given given) (range_with_len 0 32)) ys (length-map-range_with_len (value_given given) 0 32 ∙ sym long)
    (λ i few. get_or-map-range_with_len (value_given given) 0 32 i i 0 (omega (arith, few, length-map-range_with_len (value_given given) 0 32)) (omega arith) ∙ sym (each i (omega (arith, few, length-map-range_with_len (value_given given) 0 32))))
