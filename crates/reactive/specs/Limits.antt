-- The limits that sealing sets besides, said by how many things there are, and by none of the products that it compares.
use Rattle.std.specs.Prelude.{◌≡◌, ℕ, ◌<◌, ◌≤◌, max, true, List, length, Some}
use Rattle.model.specs.Meanings.{OutlineFacts, Meaning}
use Rattle.model.specs.States.{value}
use Rattle.model.specs.declared.Kind.TheVariants.{External}
use Rattle.model.specs.declared.Round.TheVariants.{Initial, Update}
use Rattle.reactive.specs.Counts.{AtMost}

-- 32 values, from 0 to its top at each name of the set, and 0 at every other
pub record ValuesAt (o : OutlineFacts) (X : ℕ → Type 0) (s : List ℕ) : Type 0 where
  pub long : length s ≡ 32
  pub inside : (n : ℕ) → X n → value s n ≤ o.top n
  pub zero : (n : ℕ) → (X n → ⊥) → value s n ≡ 0

-- what atom a may see: old values of the names that it reads, and new ones of those that it awaits
pub record Sees (o : OutlineFacts) (a : ℕ) (pair : List ℕ × List ℕ) : Type 0 where
  pub old : ValuesAt o (λ n. o.reads a n ≡ true) pair.0
  pub new : ValuesAt o (λ n. o.awaits a n ≡ true) pair.1

-- a way for a round to go: values of the external names and, for each atom, a number below the larger of its two counts
-- of choices
pub record Way (m : Meaning) (pair : List ℕ × List ℕ) : Type 0 where
  pub given : ValuesAt m.outline (λ n. m.outline.kind n ≡ Some External) pair.0
  pub long : length pair.1 ≡ m.outline.atoms
  pub chosen : (a : ℕ) → a < m.outline.atoms →
      value pair.1 a < max (m.acts.choices Initial a) (m.acts.choices Update a)

-- No atom sees more than 65,536 combinations of values, and a round can go in no more than 1,048,576 ways.
pub record Limits (m : Meaning) : Type 0 where
  pub sights : (a : ℕ) → a < m.outline.atoms → AtMost (Sees m.outline a) 65536
  pub ways : AtMost (Way m) 1048576
