-- What byte tables mean.
use Rattle.std.specs.Prelude.{ℕ, List}
use Rattle.model.specs.Meanings.{Meaning}
use Rattle.language.specs.Tables.{table_fault, table_of, table_outline, table_acts}
use Rattle.language.specs.laws.Tables.{choice_laws, outline_laws, table_sound}

-- what the table that these bytes hold means, or an empty one where there is a fault
abbrev pub table_meaning : List ℕ → Meaning
table_meaning bs =
    record {
      outline = table_outline bs;
      acts = table_acts (table_of bs);
      outline_laws = outline_laws (table_of bs) (table_sound bs).right (table_fault bs) (table_sound bs).numbered (table_sound bs).empty;
      choice_laws = choice_laws (table_of bs) (table_sound bs).right (table_fault bs);
    }
