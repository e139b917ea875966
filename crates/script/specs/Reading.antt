-- How what code reads compares with what there is to be read.
use Rattle.std.specs.Prelude.{◌≡◌, ◌⊎◌, Ok, Err, Result}
use Rattle.script.specs.declared.mistake.Mistake.{Mistake}
use Rattle.script.specs.declared.mistake.Mistake.TheVariants.{NoMemory}

-- The result, seen by `view`, is what there is to be read, a mistake included; but memory may always be wanting.
abbrev pub Reads : {A B : Type 0} → (A → B) → Result B Mistake → Result A Mistake → Type 0
Reads view wanted (Ok a) = wanted ≡ Ok (view a)
Reads view wanted (Err e) = (wanted ≡ Err e) ⊎ (e ≡ NoMemory)
