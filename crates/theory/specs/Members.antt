-- Members of a list, and lists without repetition.
use Rattle.std.specs.Prelude.{◌≡◌, ◌⊎◌, List, [], ◌∷◌}

-- x stands in the list
abbrev pub Member : {A : Type 0} → A → List A → Type 0
Member x [] = ⊥
Member x (y ∷ ys) = (y ≡ x) ⊎ Member x ys

-- no element stands in the list twice
abbrev pub Distinct : {A : Type 0} → List A → Type 0
Distinct [] = Unit {0}
Distinct (x ∷ xs) = (Member x xs → ⊥) × Distinct xs

-- each member of xs is one of ys
abbrev pub Included : {A : Type 0} → List A → List A → Type 0
Included {A} xs ys = (x : A) → Member x xs → Member x ys

-- the members of the list are exactly the elements with P
pub record Exactly {A : Type 0} (P : A → Type 0) (xs : List A) : Type 0 where
  pub complete : (x : A) → P x → Member x xs
  pub sound : (x : A) → Member x xs → P x
