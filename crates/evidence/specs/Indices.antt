-- Indices of a list of states, in the order of the states.
use Rattle.std.specs.Prelude.{ℕ, Bool, List, length, slice_index_or}
use Rattle.std.specs.Cmp.Lexicographic.{slice_cmp}
use Rattle.std.specs.List.{range_with_len}
use Rattle.std.specs.List.Sorted.{IsPermutation, IsSortedBy}
use Rattle.std.specs.Ordering.{is_lt, nat_cmp}
use Rattle.std.specs.declared.cmp.Ordering.{Ordering}
use Rattle.model.specs.States.{nothing}

-- the state at an index, none of whose values is above 0 where there is none
abbrev pub state_or_nothing : List (List ℕ) → ℕ → List ℕ
state_or_nothing ss i = slice_index_or ss i nothing

-- how the states at two indices compare, value by value
abbrev pub index_cmp : List (List ℕ) → ℕ → ℕ → Ordering
index_cmp ss i j = slice_cmp nat_cmp (state_or_nothing ss i) (state_or_nothing ss j)

-- the state at the first index is lower
abbrev pub is_lower : List (List ℕ) → ℕ → ℕ → Bool
is_lower ss i j = is_lt (index_cmp ss i j)

-- each index of the list once, in the order of the states
pub record IndexesStates (ss : List (List ℕ)) (indices : List ℕ) : Type 0 where
  pub permutation : IsPermutation (range_with_len 0 (length ss)) indices
  pub sorted : IsSortedBy (is_lower ss) indices
