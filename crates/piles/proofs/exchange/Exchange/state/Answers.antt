use mathlib.Core.Path.{fun_ext}
use Rattle.std.proofs.Common.{arith}
use Rattle.composition.proofs.Views.{exchange_getD}
use Rattle.piles.proofs.exchange.Exchange.state.Goals as goal

pub returns : goal.returns
returns c =
    let e = c.args.self.now in
    rw (c.swap.ensures.by_index.3 0) (fun_ext (exchange_getD c.args.state 0 e.one e.other (omega arith) (omega arith)))
