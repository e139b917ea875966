-- Variables that are read.
use Rattle.std.specs.Prelude.{◌≡◌, ℕ, List, None, Option, slice_index_or}
use Rattle.std.specs.Option.{option_map}
use Rattle.language.specs.Tables.{TableVariable, variable_at}
use Rattle.table.specs.declared.variables.Variable.{Variable}
use Rattle.table.specs.declared.variables.Variables.{Variables}

-- what is kept of a variable beside its name
abbrev pub kind_and_top : TableVariable → Variable
kind_and_top v = record { kind = v.kind; top = v.top }

abbrev pub IsVariable : TableVariable → ℕ × Variable → Type 0
IsVariable v (name, u) = v ≡ record { name = name; kind = u.kind; top = u.top }

-- the variable that the name stands for, if any
abbrev pub at : Variables → ℕ → Option Variable
at l n = slice_index_or l.rows n None

-- each name stands for what it does among the variables
abbrev pub AreVariables : List TableVariable → Variables → Type 0
AreVariables vs l = (n : ℕ) → at l n ≡ option_map kind_and_top (variable_at vs n)
