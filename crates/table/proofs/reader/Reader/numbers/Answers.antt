use Rattle.std.proofs.Common.{arith}
use Rattle.std.proofs.lemmas.Result.{err_from_is_err_and}
use Rattle.table.proofs.Rows.{many_stop, passes_more, passes_all}
use Rattle.table.proofs.reader.Reader.numbers.Goals as goal

pub returns-in_err-number : goal.returns-in_err-number
returns-in_err-number c =
    let p = err_from_is_err_and c.from_residual.result c.from_residual.ensures.1 in
    rw (p.1, p.2) (many_stop c.loop.invariant (omega arith) c.in_err-number.ensures)

pub loop-preserved : goal.loop-preserved
loop-preserved c = passes_more c.loop.invariant (λ made. Unit {0}) (omega arith) c.in_ok-number.ensures (λ x e q. tt)

pub returns : goal.returns
returns c = passes_all c.loop.invariant (omega arith)
