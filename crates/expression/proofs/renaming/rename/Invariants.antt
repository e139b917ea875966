use Rattle.std.proofs.Common.{◌≡◌, ◌++◌, take, drop}
use Rattle.language.specs.Expressions.{operator, bytes_renamed}
use Rattle.expression.specs.Renaming.{next_of}
use Rattle.expression.proofs.renaming.rename.Given as goal

-- what is done, and then what is left, is the whole
abbrev pub invariant-loop-byte : goal.invariant-loop-byte
invariant-loop-byte l = take l.byte-index l.bytes ++ bytes_renamed l.a l.b (next_of l.next) (drop l.byte-index l.bytes) ≡ bytes_renamed l.a l.b operator l.initial.bytes
