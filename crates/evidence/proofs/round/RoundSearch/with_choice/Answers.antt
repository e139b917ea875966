use Rattle.std.proofs.Common.{arith}
use Rattle.evidence.proofs.Steps.{made_all}
use Rattle.evidence.proofs.round.RoundSearch.with_choice.Goals as goal

pub returns : goal.returns
returns g c =
    let m = g.D.Drawing.meaning c.args.self.now.drawing.now in
    made_all m c.args.self.now.before c.args.new c.args.atom c.args.choice c.loop-name.made c.loop-name.invariant.long (λ n l. c.loop-name.invariant.done n (omega arith))
