use Rattle.std.proofs.Common.{◌≡◌, ◌<◌, not, length, sym, ap, ◌∙◌, arith}
use Rattle.std.proofs.lemmas.Bool.{not_from_true, not_from_false}
use Rattle.model.specs.Tests.{lowest}
use Rattle.model.proofs.Bounded.{lowest_none, lowest_more, lowest_at}
use Rattle.units.specs.Evidence.{state_at}
use Rattle.evidence.proofs.states.lowest_failing.Goals as goal

pub loop-index-init : goal.loop-index-init
loop-index-init g c = λ p h. lowest_none (λ i. not (p (state_at c.args.states.now i)))

pub returns-then-not-test : goal.returns-then-not-test
returns-then-not-test g c = λ p h.
    let index = c.loop-index.index in
    let low : index < length c.args.states.now = c.loop-index-test.true in
    sym (lowest_at (λ i. not (p (state_at c.args.states.now i))) (length c.args.states.now) index low (c.loop-index.invariant p h)
    (not_from_false (p (state_at c.args.states.now index)) (sym (h index c.test.result low c.test.ensures) ∙ c.if-not-test.true)))

pub loop-index-preserved : goal.loop-index-preserved
loop-index-preserved g c = λ p h.
    let index = c.loop-index.index in
    let low : index < length c.args.states.now = c.loop-index-test.true in
    lowest_more (λ i. not (p (state_at c.args.states.now i))) index (c.loop-index.invariant p h)
    (not_from_true (p (state_at c.args.states.now index)) (sym (h index c.test.result low c.test.ensures) ∙ c.if-not-test.false))

pub returns : goal.returns
returns g c = λ p h. let all : c.loop-index.index ≡ length c.args.states.now = omega arith in sym (sym (ap (lowest (λ i. not (p (state_at c.args.states.now i)))) all) ∙ c.loop-index.invariant p h)
