-- Lists of all numbers below a bound, all pairs from two lists, and all rows of numbers under given tops.
use Rattle.std.specs.Prelude.{◌≡◌, ℕ, ◌+◌, ◌*◌, ◌<◌, ◌≤◌, List, [], ◌∷◌, map, length, slice_index}
use Rattle.std.specs.List.{range_with_len, flat_map}

-- the numbers below n, rising
unfoldable pub below : ℕ → List ℕ
below n = range_with_len 0 n

-- x with each of ys
abbrev pub with_each : {A B : Type 0} → List B → A → List (A × B)
with_each {A} {B} ys x = map {B = A × B} (λ y. (x, y)) ys

-- each element of xs with each of ys: the first parts in their order and, under each, the second parts in theirs
unfoldable pub pairs : {A B : Type 0} → List A → List B → List (A × B)
pairs xs ys = flat_map (with_each ys) xs

-- a pair of a number and a row as one row
abbrev pub row : ℕ × List ℕ → List ℕ
row p = p.0 ∷ p.1

-- all rows as long as tops with each number at most its top, in rising lexicographic order
unfoldable pub ranges : List ℕ → List (List ℕ)
ranges [] = [] ∷ []
ranges (top ∷ tops) = map row (pairs (below (top + 1)) (ranges tops))

-- the row is as long as tops, and each of its numbers is at most its top
pub record Within (tops v : List ℕ) : Type 0 where
  pub long : length v ≡ length tops
  pub under : (i : ℕ) → i < length tops → slice_index v i ≤ slice_index tops i

-- how many rows there are under the tops
abbrev pub room : List ℕ → ℕ
room [] = 1
room (top ∷ tops) = (top + 1) * room tops
