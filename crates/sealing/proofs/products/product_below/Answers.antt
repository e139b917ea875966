use Rattle.std.proofs.Common.{arith}
use Rattle.sealing.proofs.Limits.{stopped_none, stopped_more}
use Rattle.sealing.proofs.products.product_below.Goals as goal

pub loop-number-init : goal.loop-number-init
loop-number-init g c = λ f h. stopped_none f c.args.most c.requires.limit

pub loop-number-preserved : goal.loop-number-preserved
loop-number-preserved g c =
    λ f h. stopped_more f c.loop-number.number c.args.most c.loop-number.all _ _ (c.loop-number.invariant f h) (h _ _ (omega arith) c.factor.ensures) c.times-all.ensures
