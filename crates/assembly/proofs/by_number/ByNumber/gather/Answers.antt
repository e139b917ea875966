use Rattle.std.proofs.Common.{rules, tests, arith}
use Rattle.model.proofs.Filled.{filled}
use Rattle.assembly.proofs.by_number.ByNumber.gather.Goals as goal

pub returns : goal.returns
returns g c n d l =
    let call = (filled _ (λ f k y q e. search rules) _ c.from_fn.result 0 g.row.N c.from_fn.ensures.items.each n d (omega arith) (omega arith)).1 in
    search (rules, tests)
