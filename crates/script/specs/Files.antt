-- Files, of which nothing is said but why they are refused.
use Rattle.std.specs.Prelude.{◌≡◌, ℕ, ◌⊎◌, Result, Vec, IfErr}
use Rattle.std.specs.declared.alloc.Global.{Global}
use Rattle.script.specs.declared.mistake.Mistake.{Mistake}
use Rattle.script.specs.declared.mistake.Mistake.TheVariants.{Unreadable, NoMemory}

-- any bytes, or the file cannot be read, or memory is wanting
abbrev pub IsReadFile : Result (Vec ℕ Global) Mistake → Type 0
IsReadFile r = IfErr r (λ e. (e ≡ Unreadable) ⊎ (e ≡ NoMemory))
