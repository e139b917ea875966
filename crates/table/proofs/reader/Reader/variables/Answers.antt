use Rattle.std.proofs.Common.{arith}
use Rattle.std.proofs.lemmas.Result.{err_from_is_err_and}
use Rattle.table.proofs.VariableRows.{name_small, variables_none, variables_stop, variables_more, variables_all}
use Rattle.table.proofs.reader.Reader.variables.Goals as goal

pub loop-init : goal.loop-init
loop-init c = variables_none c.args.self.now c.args.count

pub returns-in_err-name : goal.returns-in_err-name
returns-in_err-name c =
    let p = err_from_is_err_and c.from_residual.result c.from_residual.ensures.1 in
    rw (p.1, p.2) (variables_stop c.loop.invariant (omega arith) c.in_err-name.ensures)

pub bounds-rows-name : goal.bounds-rows-name
bounds-rows-name c = omega (arith, name_small c.loop.lowest c.in_ok-name.ensures)

pub overflow_add-lowest : goal.overflow_add-lowest
overflow_add-lowest c = omega (arith, name_small c.loop.lowest c.in_ok-name.ensures)

pub loop-preserved : goal.loop-preserved
loop-preserved c = variables_more c.loop.invariant (omega arith) c.in_ok-name.ensures

pub returns : goal.returns
returns c = variables_all c.loop.invariant (omega arith) _
