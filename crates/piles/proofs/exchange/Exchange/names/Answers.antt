use Rattle.std.proofs.Common.{◌∙◌, rules}
use Rattle.model.specs.Exchange.{exchange}
use Rattle.model.specs.Sets.{has}
use Rattle.piles.proofs.Sets.{gathered_all}
use Rattle.piles.proofs.exchange.Exchange.names.Goals as goal

pub returns : goal.returns
returns c n =
    let e = c.args.self.now in
    c.gather.ensures (λ k. has c.args.names (exchange e.one e.other k)) (λ k b l t. search rules) n ∙ gathered_all c.args.names e.one e.other e.one_name e.other_name n
