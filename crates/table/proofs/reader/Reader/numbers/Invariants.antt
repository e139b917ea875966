use Rattle.expression.specs.Checking.{seen_of}
use Rattle.language.specs.Expressions.{whole_number}
use Rattle.language.specs.Tables.{expression_item}
use Rattle.table.proofs.Rows.{SoFar}
use Rattle.table.proofs.reader.Reader.numbers.Given as goal

abbrev pub invariant-loop : goal.invariant-loop
invariant-loop l = SoFar (expression_item (whole_number 8 (seen_of l.seen))) l.fn.self l.count l.counter l.self (λ made. Unit {0})
