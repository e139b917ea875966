use Rattle.std.proofs.Common.{false, rules, tests, arith}
use Rattle.model.proofs.Filled.{filled}
use Rattle.model.proofs.Gathered.{gathered}
use Rattle.model.proofs.names.Marks.gather.Goals as goal

pub returns : goal.returns
returns g c =
    let marks = c.from_fn.result in
    λ p h. gathered g.row.N (goal.F-post g c.args.test) p h marks c.from_fn.ensures.items.long
    (λ n l. let call = (filled _ (λ f k y q e. search rules) _ marks 0 g.row.N c.from_fn.ensures.items.each n false (omega arith) (omega arith)).1 in search (rules, tests))
