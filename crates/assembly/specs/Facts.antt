-- A pile in normal form: what it tells by name, and for each atom its sets and where it comes from.
use Rattle.std.specs.Prelude.{ℕ, Bool, Option, slice_index_or}
use Rattle.model.specs.Meanings.{Valuation}
use Rattle.model.specs.declared.Fault.{Fault}
use Rattle.model.specs.declared.Kind.{Kind}
use Rattle.assembly.specs.declared.by_number.ByNumber.{ByNumber}

-- An atom: its sets under the names of the whole; the leaf that it comes from, and its number there; and what each name
-- of the leaf is called in the whole, and the other way about.
pub record AtomFacts : Type 0 where
  pub controls : ℕ → Bool
  pub reads : ℕ → Bool
  pub awaits : ℕ → Bool
  pub leaf : ℕ
  pub number : ℕ
  pub in_whole : ℕ → ℕ
  pub in_leaf : ℕ → ℕ

pub record FormFacts : Type 0 where
  pub fault : Option Fault
  pub layers : ℕ
  pub kind : ℕ → Option Kind
  pub top : ℕ → ℕ
  pub atoms : ℕ
  pub atom : ℕ → Option AtomFacts

-- values of the whole as the leaf sees them
abbrev pub seen_by : AtomFacts → Valuation → Valuation
seen_by t v n = v (t.in_whole n)

-- what the table has for a name; past the 32 names each number stands for itself
abbrev pub name_in : ByNumber ℕ 32 → ℕ → ℕ
name_in names n = slice_index_or names.items n n
