use Rattle.table.proofs.VariableRows.{VariablesSoFar}
use Rattle.table.proofs.reader.Reader.variables.Given as goal

abbrev pub invariant-loop : goal.invariant-loop
invariant-loop l = VariablesSoFar l.fn.self l.count l.counter l.lowest l.self l.rows
