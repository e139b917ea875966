-- How many things there are: limits and counts of things, said by lists without repetition.
use Rattle.std.specs.Prelude.{◌≡◌, ℕ, ◌≤◌, List, length}
use Rattle.theory.specs.Members.{Member, Distinct, Exactly}

-- no list without repetition of things with P is longer than n
abbrev pub AtMost : {A : Type 0} → (A → Type 0) → ℕ → Type 0
AtMost {A} P n = (xs : List A) → Distinct xs → ((x : A) → Member x xs → P x) → length xs ≤ n

-- there are n things with P: so long is a list of exactly these without repetition
pub record Many {A : Type 0} (P : A → Type 0) (n : ℕ) : Type 0 where
  pub all : List A
  pub distinct : Distinct all
  pub exactly : Exactly P all
  pub count : length all ≡ n
