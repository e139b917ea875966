-- The bytes that an opened table keeps.
use Rattle.std.specs.Prelude.{◌≡◌, ℕ, ◌<◌, List, length, replicate, Ok, Err, Result}
use Rattle.model.specs.Rows.{row_items}
use Rattle.model.specs.declared.row.Row.{Row}

-- The byte string that is kept in a row with room for 4,096 bytes. Of a longer one only the length is kept, and any
-- string of that length stands for it: all of them have the same fault, and no other answer looks at them.
abbrev pub contents_of : Result (Row ℕ 4096) ℕ → List ℕ
contents_of (Ok row) = row_items row
contents_of (Err size) = replicate size 0

-- the bytes are those of the row, or they are too many for it, and so many
abbrev pub IsCopy : List ℕ → Result (Row ℕ 4096) ℕ → Type 0
IsCopy bs (Ok row) = row_items row ≡ bs
IsCopy bs (Err size) = (size ≡ length bs) × (4096 < length bs)
