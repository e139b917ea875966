use Rattle.std.proofs.Common.{ap, arith}
use Rattle.model.proofs.Filled.{filled}
use Rattle.sealing.proofs.Tables.{told_by_set}
use Rattle.sealing.proofs.await_table.AwaitTable.of.Goals as goal

pub returns-clause-right : goal.returns-clause-right
returns-clause-right g c = λ a b l m.
    told_by_set (g.D.Outline.outline c.args.drawing.now) c.from_fn.result a b l m c.from_fn.ensures.items.long
    (λ s. (filled _ (λ f k y f' h. ap (λ x. record { 0 = x }) h.met.0) _ c.from_fn.result 0 16 c.from_fn.ensures.items.each a s (omega arith) l).1.met.1)
