use Rattle.std.proofs.Common.{◌≡◌, ap, ◌∙◌, arith}
use Rattle.sealing.specs.Awaits.{direct}
use Rattle.model.specs.Sets.{has}
use Rattle.sealing.proofs.Through.{behind, behind_none, behind_more}
use Rattle.sealing.proofs.circles.all_behind.Goals as goal

pub loop-others-init : goal.loop-others-init
loop-others-init c = λ a. c.one_more-behind.ensures a ∙ behind_none (direct c.args.table.now) c.args.table.now.atoms c.args.goal (has c.none.result) c.none.ensures a

pub loop-others-preserved : goal.loop-others-preserved
loop-others-preserved c =
    λ a. c.one_more-behind-in-loop-others.ensures a ∙ behind_more (direct c.args.table.now) c.args.table.now.atoms c.args.goal c.loop-others._others (has c.loop-others.behind) c.loop-others.invariant a

pub returns : goal.returns
returns c =
    let same : c.loop-others._others ≡ c.args.table.now.atoms = omega arith in
    λ a. c.loop-others.invariant a ∙ ap (λ n. behind (direct c.args.table.now) c.args.table.now.atoms c.args.goal n a) same
