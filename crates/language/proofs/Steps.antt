-- The readers of several parts, one part at a time.
use Rattle.std.proofs.Common.{◌≡◌, ℕ, ◌+◌, List, [], ◌∷◌, refl, add-one}
use Rattle.language.specs.Tables.{Step, fine, and_then, many, read_variable, read_variables}

pub many_none : {X : Type 0} (read : List ℕ → ℕ → Step X) (bs : List ℕ) (k : ℕ) → many read 0 bs k ≡ fine [] k
unfolding many
many_none read bs k = refl

pub many_more : {X : Type 0} (read : List ℕ → ℕ → Step X) (n : ℕ) (bs : List ℕ) (k : ℕ) → many read (n + 1) bs k ≡ and_then (read bs k) (λ x next. and_then (many read n bs next) (λ xs end. fine (x ∷ xs) end))
unfolding many
many_more read n bs k = rw add-one refl

pub variables_none : (lowest : ℕ) (bs : List ℕ) (k : ℕ) → read_variables lowest 0 bs k ≡ fine [] k
unfolding read_variables
variables_none lowest bs k = refl

pub variables_more : (lowest n : ℕ) (bs : List ℕ) (k : ℕ) → read_variables lowest (n + 1) bs k ≡ and_then (read_variable lowest bs k) (λ v k. and_then (read_variables (v.name + 1) n bs k) (λ vs end. fine (v ∷ vs) end))
unfolding read_variables
variables_more lowest n bs k = rw add-one refl
