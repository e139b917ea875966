use Rattle.std.proofs.Common.{sym, ◌∙◌, arith}
use Rattle.expression.proofs.Steps.{byte_inside}
use Rattle.expression.proofs.checking.Checker.constant_end.Goals as goal

pub overflow_add-result : goal.overflow_add-result
overflow_add-result c = omega (arith, byte_inside c.args.self.now.bytes.now c.args.place _ (sym c.byte_at.ensures ∙ c.in_ok-ok_or.ensures.ok_part))
