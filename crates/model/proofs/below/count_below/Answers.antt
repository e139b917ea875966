use Rattle.std.proofs.Common.{◌+◌, sym, ap, ◌∙◌, arith}
use Rattle.model.proofs.Bounded.{count_none, count_pass, count_fail}
use Rattle.model.proofs.below.count_below.Goals as goal
use Rattle.model.proofs.below.count_below.Goals.{then-test, else-test}

pub loop-number-init : goal.loop-number-init
loop-number-init g c = (omega arith, λ p h. sym (count_none p))

pub loop-number-preserved : goal.loop-number-preserved
loop-number-preserved g c =
    let i = c.loop-number.number in
    elim c.if-test.branch [
      | then-test w ↦ (omega (arith, w.found-is), λ p h. w.found-is ∙ ap (λ x. x + 1) (c.loop-number.invariant.1 p h) ∙ sym (count_pass p i (sym (h _ _ (omega arith) c.test.ensures) ∙ w.if-test.true)))
      | else-test w ↦ (omega (arith, w.found-is), λ p h. w.found-is ∙ c.loop-number.invariant.1 p h ∙ sym (count_fail p i (sym (h _ _ (omega arith) c.test.ensures) ∙ w.if-test.false)))
    ]
