-- What reading a byte string answers.
use Rattle.std.specs.Prelude.{◌≡◌, ℕ, List, Some, Ok, Err, Result}
use Rattle.language.specs.Tables.{TableSyntax, opens_as, opening_of, table_fault}
use Rattle.model.specs.declared.Fault.{Fault}
use Rattle.table.specs.Layouts.{IsLayout}
use Rattle.table.specs.declared.parts.Layout.{Layout}

-- the bytes are a table, and this is its layout
pub record Opens (bs : List ℕ) (l : Layout) : Type 0 where
  pub table : TableSyntax
  pub is : opening_of bs ≡ opens_as table
  pub laid : IsLayout bs 0 table l

-- A layout is answered where the bytes are a table, and is that table's; else their first fault, by its number and place.
abbrev pub IsAnswer : List ℕ → Result Layout Fault → Type 0
IsAnswer bs (Ok l) = Opens bs l
IsAnswer bs (Err fault) = table_fault bs ≡ Some fault
