use Rattle.std.proofs.Common.{◌≤◌, sym, ap, ◌∙◌, subst}
use Rattle.model.specs.Meanings.{OutlineFacts}
use Rattle.sealing.specs.Awaits.{direct}
use Rattle.sealing.specs.Orders.{atom_order}
use Rattle.sealing.proofs.Acyclic.{ordered_by}
use Rattle.sealing.proofs.Pinned.{pinned_by}
use Rattle.sealing.proofs.order.order_of.Goals as goal

pub returns-clause-pinned : goal.returns-clause-pinned
returns-clause-pinned g c =
    let table = c.of.result in
    let m = g.D.Drawing.meaning c.args.drawing.now in
    let o = g.D.Outline.outline c.args.drawing.now in
    let agree = g.met.D.Drawing.agree c.args.drawing.now in
    pinned_by o (subst (λ (p : OutlineFacts). p.atoms ≤ 16) agree m.outline_laws.few_atoms) (direct table) c.of.ensures.right table.atoms c.of.ensures.counted c.order_by.result c.order_by.ensures.pinned
    ∙ ap atom_order (sym agree)

pub returns-clause-ordered : goal.returns-clause-ordered
returns-clause-ordered g c =
    let table = c.of.result in
    ordered_by (g.D.Drawing.meaning c.args.drawing.now) (g.D.Outline.outline c.args.drawing.now) (g.met.D.Drawing.agree c.args.drawing.now) (direct table) c.of.ensures.right table.atoms c.of.ensures.counted c.order_by.result c.order_by.ensures.ordered
