-- Bytes as a state.
use Rattle.std.specs.Prelude.{ℕ, cond, List, length, Ok, Err, Result, ◌==◌}
use Rattle.script.specs.declared.mistake.Mistake.{Mistake}
use Rattle.script.specs.declared.mistake.Mistake.TheVariants.{NotAState}

-- the bytes as a state, which has 32
abbrev pub state_of : List ℕ → Result (List ℕ) Mistake
state_of bytes = cond (length bytes == 32) (Ok bytes) (Err NotAState)
