use Rattle.std.proofs.Common.{sym, ap, ◌∙◌, subst}
use Rattle.sealing.specs.Orders.{AtomsInOrder}
use Rattle.language.specs.laws.Expressions.{none_some}
use Rattle.unit.proofs.Sealing.{no_circle, kept_fit, kept_unfit}
use Rattle.unit.proofs.state.UnitState.new.Goals as goal
use Rattle.unit.proofs.state.UnitState.new.Goals.{in-None, in-Some}

pub returns-clause-ordered : goal.returns-clause-ordered
returns-clause-ordered g c =
    let m = g.D.Drawing.meaning c.args.drawing.now in
    let verdict = c.verdict_with-verdict in
    elim c.match-verdict.branch [
      | in-None w ↦ kept_fit verdict.result m.outline c.match-verdict.claims.1 w.in-None.is (ap (λ p. p.1) w.claims-is ∙ w.order_of.ensures.pinned)
      | in-Some w ↦ kept_unfit verdict.result m.outline c.match-verdict.claims.1 w.in-Some.field-0 w.in-Some.is (ap (λ p. p.1) w.claims-is)
    ]

pub returns-clause-in_order : goal.returns-clause-in_order
returns-clause-in_order g c = λ fit.
    let m = g.D.Drawing.meaning c.args.drawing.now in
    elim c.match-verdict.branch [
      | in-None w ↦ subst (AtomsInOrder m.outline) (sym (ap (λ p. p.1) w.claims-is)) (w.order_of.ensures.ordered (no_circle m c.args.crowded (sym c.verdict_with-verdict.ensures ∙ fit)))
      | in-Some w ↦ absurd (none_some _ (sym fit ∙ w.in-Some.is))
    ]
