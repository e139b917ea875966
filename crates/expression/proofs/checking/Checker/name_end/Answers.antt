use Rattle.std.proofs.Common.{sym, arith}
use Rattle.expression.proofs.Steps.{byte_inside}
use Rattle.expression.proofs.checking.Checker.name_end.Goals as goal

pub overflow_add-result : goal.overflow_add-result
overflow_add-result c = omega (arith, byte_inside c.args.self.now.bytes.now c.args.place c.in-Some.name (sym c.in-Some.ensures))
