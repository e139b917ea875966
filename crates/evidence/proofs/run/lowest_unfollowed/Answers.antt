use Rattle.std.proofs.Common.{◌+◌, ◌-◌, not, length, sym, ◌∙◌}
use Rattle.std.proofs.lemmas.Bool.{not_from_true, not_from_false}
use Rattle.model.specs.States.{yields}
use Rattle.model.specs.declared.Round.TheVariants.{Update}
use Rattle.model.proofs.Bounded.{lowest_none, lowest_more, lowest_at}
use Rattle.units.specs.Evidence.{state_at}
use Rattle.evidence.proofs.run.lowest_unfollowed.Goals as goal

pub loop-index-init : goal.loop-index-init
loop-index-init g c = lowest_none (λ i. not (yields (g.D.Drawing.meaning c.args.drawing.now) Update (state_at c.args.states.now i) (state_at c.args.states.now (i + 1))))

pub returns-then-not-yields : goal.returns-then-not-yields
returns-then-not-yields g c =
    let m = g.D.Drawing.meaning c.args.drawing.now in
    let ss = c.args.states.now in
    let i = c.loop-index.index in
    sym (lowest_at (λ i. not (yields m Update (state_at ss i) (state_at ss (i + 1)))) (length ss - 1) i c.loop-index-test.true c.loop-index.invariant
    (not_from_false (yields m Update (state_at ss i) (state_at ss (i + 1))) (sym c.yields.ensures ∙ c.if-not-yields.true)))

pub loop-index-preserved : goal.loop-index-preserved
loop-index-preserved g c =
    let m = g.D.Drawing.meaning c.args.drawing.now in
    let ss = c.args.states.now in
    let i = c.loop-index.index in
    lowest_more (λ i. not (yields m Update (state_at ss i) (state_at ss (i + 1)))) i c.loop-index.invariant
    (not_from_true (yields m Update (state_at ss i) (state_at ss (i + 1))) (sym c.yields.ensures ∙ c.if-not-yields.false))
