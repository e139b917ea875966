-- Sets of names, and how they are judged.
use Rattle.std.specs.Prelude.{◌≡◌, ℕ, Bool, false, Some, None, Option}
use Rattle.language.specs.Tables.{bit}
use Rattle.model.specs.Sets.{has}
use Rattle.model.specs.Tests.{implies}
use Rattle.model.specs.Sets.{NameSet}
use Rattle.table.specs.Variables.{at}
use Rattle.table.specs.declared.variables.Variable.{Variable}
use Rattle.table.specs.declared.variables.Variables.{Variables}

-- the set that the number stands for
abbrev pub NamesOf : ℕ → NameSet → Type 0
NamesOf w names = (n : ℕ) → has names n ≡ bit w n

-- whatever is answered of a set is what p says of its number
abbrev pub Judges : (NameSet → Bool → Type 0) → (ℕ → Bool) → Type 0
Judges answered p = (w : ℕ) (names : NameSet) (b : Bool) → NamesOf w names → answered names b → b ≡ p w

-- it is a variable, and p holds of it
abbrev pub passes : (Variable → Bool) → Option Variable → Bool
passes p None = false
passes p (Some v) = p v

-- if the name is in the set, it stands for a variable of which p holds
abbrev pub passes_in : (Variable → Bool) → Variables → NameSet → ℕ → Bool
passes_in p variables names n = implies (has names n) (passes p (at variables n))
