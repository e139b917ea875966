-- What an opened table holds, part by part.
use Rattle.model.specs.Tests.{count}
use Rattle.std.specs.Prelude.{ℕ, Bool, true, false, List, [], Some, None, Option}
use Rattle.std.specs.List.{slice_get}
use Rattle.std.specs.Option.{option_map}
use Rattle.model.specs.Meanings.{OutlineFacts, Meaning}
use Rattle.model.specs.declared.Round.{Round}
use Rattle.language.specs.Expressions.{Number, number_bytes, truth_bytes}
use Rattle.language.specs.Meanings.{table_meaning}
use Rattle.language.specs.Tables.{TableAtom, TableChoice, bit, variable_at, table_of, table_outline, choices_in, numbers_of}
use Rattle.table.specs.Variables.{kind_and_top}
use Rattle.table.specs.declared.variables.Variable.{Variable}
use Rattle.table.specs.Contents.{contents_of}
use Rattle.table.specs.declared.table.Table.{Table}

-- the byte string that was opened, or one that stands for it where it was too long
abbrev pub contents : Table → List ℕ
contents t = contents_of t.bytes

abbrev pub outline_of : Table → OutlineFacts
outline_of t = table_outline (contents t)

abbrev pub meaning_of : Table → Meaning
meaning_of t = table_meaning (contents t)

-- the variable of the name n, but for the name
abbrev pub variable_of : Table → ℕ → Option Variable
variable_of t n = option_map kind_and_top (variable_at (table_of (contents t)).variables n)

abbrev pub atom_of : Table → ℕ → Option TableAtom
atom_of t a = slice_get (table_of (contents t)).atoms a

abbrev pub choice_of : Table → Round → ℕ → ℕ → Option TableChoice
choice_of t r a k = slice_get (choices_in r (atom_of t a)) k

-- the written form of a choice's guard, nothing where there is no choice
abbrev pub guard_bytes : Option TableChoice → List ℕ
guard_bytes None = []
guard_bytes (Some c) = truth_bytes c.guard

-- the number at a place among those of a choice, if the name that it is for is controlled
abbrev pub number_if : Bool → ℕ → Option TableChoice → Option Number
number_if false place c = None
number_if true place c = slice_get (numbers_of c) place

-- what the choice gives to the name n: its number for the place of n among the controlled names, rising
abbrev pub number_for : Option TableAtom → ℕ → Option TableChoice → Option Number
number_for None n c = None
number_for (Some a) n c = number_if (bit a.controls n) (count (bit a.controls) n) c

abbrev pub bytes_of_number : Option Number → List ℕ
bytes_of_number None = []
bytes_of_number (Some e) = number_bytes e

-- the written form of what the choice of an opened table gives to the name n, nothing where it gives it nothing
abbrev pub number_bytes_of : Table → Round → ℕ → ℕ → ℕ → List ℕ
number_bytes_of t r a k n = bytes_of_number (number_for (atom_of t a) n (choice_of t r a k))
