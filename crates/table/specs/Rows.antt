-- Rows of what was made of parts.
use Rattle.std.specs.Prelude.{◌≡◌, ℕ, List, length, take, Some, None, Option}
use Rattle.std.specs.List.{slice_get}

-- both are there and go together, or neither is
abbrev pub Paired : {X R : Type 0} → (X → R → Type 0) → Option X → Option R → Type 0
Paired P (Some x) (Some r) = P x r
Paired P (Some x) None = ⊥
Paired P None (Some r) = ⊥
Paired P None None = Unit {0}

-- as many as there are parts, and each goes with its part behind the parts before
pub record Each {X R : Type 0} (P : List X → X → R → Type 0) (xs : List X) (rs : List R) : Type 0 where
  pub counted : length rs ≡ length xs
  pub each : (k : ℕ) → Paired (P (take k xs)) (slice_get xs k) (slice_get rs k)
