use Rattle.std.proofs.Common.{rules, ℕ, Bool, ◌&&◌, ltb, ◌∙◌}
use Rattle.sealing.specs.Awaits.{direct, leads_to}
use Rattle.model.specs.Sets.{has}
use Rattle.sealing.proofs.Through.{gathered}
use Rattle.sealing.proofs.circles.one_more.Goals as goal

pub returns : goal.returns
returns c = λ a.
    let table = c.args.table.now in
    let leads : ℕ → Bool = leads_to (direct table) table.atoms (has c.args.behind.now) c.args.goal in
    c.gather.ensures (λ k. ltb k table.atoms && leads k) (λ k b l h. search (rules, h)) a ∙ gathered table.atoms table.few a (leads a)
