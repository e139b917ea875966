use Rattle.std.proofs.Common.{rules, ◌≡◌, ◌≤◌, ◌&&◌, ltb, ap, ◌∙◌, subst, arith}
use Rattle.model.specs.Meanings.{OutlineFacts}
use Rattle.model.specs.Tests.{lowest}
use Rattle.units.specs.Sealing.{circular}
use Rattle.sealing.specs.Awaits.{direct, reaches}
use Rattle.sealing.proofs.Through.{circular_by}
use Rattle.sealing.proofs.circles.lowest_circular.Goals as goal

pub returns : goal.returns
returns g c =
    let o = g.D.Outline.outline c.args.drawing.now in
    let n = c.atoms.result in
    let awaits = direct c.of-table.result in
    let few : o.atoms ≤ 16 = subst (λ (p : OutlineFacts). p.atoms ≤ 16) (g.met.D.Drawing.agree c.args.drawing.now) (g.D.Drawing.meaning c.args.drawing.now).outline_laws.few_atoms in
    let all : n ≡ o.atoms = omega arith in
    c.lowest_below.ensures (circular o)
    (λ a b l h. let is : b ≡ (ltb a n && reaches awaits n n a a) = search (rules, h, c.atoms.ensures) in is ∙ circular_by o awaits c.of-table.ensures.right few n all a l)
    ∙ ap (lowest (circular o)) all
