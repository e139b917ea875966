-- The words of a line, parted by white space.
use Rattle.std.specs.Prelude.{◌≡◌, ℕ, ◌<◌, List, [], ◌∷◌, ◌++◌, length}
use Rattle.std.specs.Borrow.{Bor}
use Rattle.std.specs.Char.{is_whitespace, is_not_whitespace}
use Rattle.std.specs.Str.{NoCharPasses, EmptyOrStartsWithPassing}

-- line is white space, the word w, and rest, which is empty or begins with white space
pub record First (line w rest : List ℕ) : Type 0 where
  pub gap : List ℕ
  pub cut : line ≡ gap ++ (w ++ rest)
  pub some : 0 < length w
  pub blank : NoCharPasses is_not_whitespace gap
  pub solid : NoCharPasses is_whitespace w
  pub ends : (more : List ℕ) × EmptyOrStartsWithPassing is_whitespace rest more

-- these are the words of the line
abbrev pub Words : List ℕ → List (Bor (List ℕ)) → Type 0
Words line [] = NoCharPasses is_not_whitespace line
Words line (w ∷ ws) = (rest : List ℕ) × First line w.now rest × Words rest ws
