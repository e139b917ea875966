use Rattle.std.proofs.Common.{◌≡◌, ◌<◌, length, ap, ◌∙◌, arith}
use Rattle.language.specs.Expressions.{operator, bytes_renamed}
use Rattle.expression.specs.Renaming.{next_of}
use Rattle.expression.proofs.Renamed.{at_operator, at_constant, at_name, all_done, names_exchanged}
use Rattle.expression.proofs.renaming.rename.Goals as goal
use Rattle.expression.proofs.renaming.rename.Goals.{in-Operator, in-Constant, in-Name}

pub loop-byte-preserved : goal.loop-byte-preserved
loop-byte-preserved c =
    let inside : c.loop-byte.byte-index < length c.loop-byte.bytes = omega arith in
    elim c.match-next.branch [
      | in-Operator w ↦ at_operator c.args.a c.args.b c.loop-byte.bytes c.match-next.bytes c.loop-byte.byte-index inside c.loop-byte.next c.match-next.next w.in-Operator.is (ap next_of w.next-is ∙ w.after_operator-next.ensures) w.bytes-is ∙ c.loop-byte.invariant
      | in-Constant w ↦ at_constant c.args.a c.args.b c.loop-byte.bytes c.match-next.bytes c.loop-byte.byte-index inside c.loop-byte.next c.match-next.next w.in-Constant.is w.next-is w.bytes-is ∙ c.loop-byte.invariant
      | in-Name w ↦ at_name c.args.a c.args.b c.loop-byte.bytes c.match-next.bytes c.loop-byte.byte-index inside c.loop-byte.next c.match-next.next w.exchanged.result w.in-Name.is w.next-is w.exchanged.ensures w.bytes-is ∙ c.loop-byte.invariant
    ]

pub returns : goal.returns
returns c =
    let is : c.loop-byte.bytes ≡ bytes_renamed c.args.a c.args.b operator c.args.bytes.now =
    all_done c.args.a c.args.b c.loop-byte.bytes _ c.loop-byte.byte-index (next_of c.loop-byte.next) (omega arith) c.loop-byte.invariant in
    record { renamed = is; means = names_exchanged c.args.a c.args.b c.args.bytes.now c.loop-byte.bytes is }
