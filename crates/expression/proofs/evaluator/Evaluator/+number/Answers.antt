use Rattle.std.proofs.Common.{Some, ap, ◌∙◌, arith}
use Rattle.language.specs.Expressions.{number_operator}
use Rattle.expression.specs.Operators.{number_operator_of}
use Rattle.expression.proofs.Here.{no_number_left, no_number, roomy, constant_here, old_here, new_here, no_sum, sum_here, no_difference, difference_here}
use Rattle.expression.proofs.Steps.{operator_inside}
use Rattle.expression.proofs.Worths.{sum_fits, sum_is, difference_fits, difference_is}
use Rattle.expression.proofs.evaluator.Evaluator.+number.Goals as goal

pub number-returns-in_err-inner : goal.number-returns-in_err-inner
number-returns-in_err-inner t c = rw c.from_residual.ensures (no_number_left c.args.self.now c.args.place c.in_err-inner.ensures)

pub number-returns-in_err-operator : goal.number-returns-in_err-operator
number-returns-in_err-operator t c = rw c.from_residual-in_err-operator.ensures (no_number c.args.self.now c.args.place c.in_err-operator.ensures)

pub number-overflow_add-first : goal.number-overflow_add-first
number-overflow_add-first t c = omega (arith, operator_inside number_operator c.args.self.now.bytes.now c.args.place (number_operator_of c.in_ok-operator.operator) c.in_ok-operator.ensures)

pub number-returns-in-Constant : goal.number-returns-in-Constant
number-returns-in-Constant t c = c.constant.ensures ∙ constant_here c.args.self.now c.args.place c.in_ok-inner.inner c.in_ok-inner.ensures c.in_ok-operator.operator c.in_ok-operator.ensures c.in-Constant.is

pub number-returns-in-OldValue : goal.number-returns-in-OldValue
number-returns-in-OldValue t c = c.value.ensures ∙ old_here c.args.self.now c.args.place c.in_ok-inner.inner c.in_ok-inner.ensures c.in_ok-operator.operator c.in_ok-operator.ensures c.in-OldValue.is

pub number-returns-in-NewValue : goal.number-returns-in-NewValue
number-returns-in-NewValue t c = c.value-in-NewValue.ensures ∙ new_here c.args.self.now c.args.place c.in_ok-inner.inner c.in_ok-inner.ensures c.in_ok-operator.operator c.in_ok-operator.ensures c.in-NewValue.is

pub number-returns-in_err-a-in-Sum : goal.number-returns-in_err-a-in-Sum
number-returns-in_err-a-in-Sum t c = rw c.from_residual-in_err-a-in-Sum.ensures (no_sum c.args.self.now c.args.place c.in_ok-inner.inner c.in_ok-inner.ensures c.in_ok-operator.operator c.in_ok-operator.ensures c.in-Sum.is c.in_err-a-in-Sum.ensures)

pub number-overflow_add-result : goal.number-overflow_add-result
number-overflow_add-result t c =
    let both = roomy c.args.self.now c.args.place c.in_ok-inner.inner c.in_ok-inner.ensures _ _ _ c.in_ok-a-in-Sum.ensures in
    sum_fits c.in_ok-a-in-Sum.a c.in_ok-a-in-Sum.b both.0 both.1

pub number-returns-in_ok-a-in-Sum : goal.number-returns-in_ok-a-in-Sum
number-returns-in_ok-a-in-Sum t c =
    let both = roomy c.args.self.now c.args.place c.in_ok-inner.inner c.in_ok-inner.ensures _ _ _ c.in_ok-a-in-Sum.ensures in
    ap (λ z. Some (z, c.in_ok-a-in-Sum.end)) (sum_is c.in_ok-a-in-Sum.a c.in_ok-a-in-Sum.b both.0 both.1)
    ∙ sum_here c.args.self.now c.args.place c.in_ok-inner.inner c.in_ok-inner.ensures c.in_ok-operator.operator c.in_ok-operator.ensures _ _ _ c.in-Sum.is c.in_ok-a-in-Sum.ensures

pub number-returns-in_err-a-in-Difference : goal.number-returns-in_err-a-in-Difference
number-returns-in_err-a-in-Difference t c = rw c.from_residual-in_err-a-in-Difference.ensures (no_difference c.args.self.now c.args.place c.in_ok-inner.inner c.in_ok-inner.ensures c.in_ok-operator.operator c.in_ok-operator.ensures c.in-Difference.is c.in_err-a-in-Difference.ensures)

pub number-overflow_sub-result : goal.number-overflow_sub-result
number-overflow_sub-result t c =
    let both = roomy c.args.self.now c.args.place c.in_ok-inner.inner c.in_ok-inner.ensures _ _ _ c.in_ok-a-in-Difference.ensures in
    difference_fits c.in_ok-a-in-Difference.a c.in_ok-a-in-Difference.b both.0 both.1

pub number-returns-in_ok-a-in-Difference : goal.number-returns-in_ok-a-in-Difference
number-returns-in_ok-a-in-Difference t c =
    let both = roomy c.args.self.now c.args.place c.in_ok-inner.inner c.in_ok-inner.ensures _ _ _ c.in_ok-a-in-Difference.ensures in
    ap (λ z. Some (z, c.in_ok-a-in-Difference.end)) (difference_is c.in_ok-a-in-Difference.a c.in_ok-a-in-Difference.b both.0 both.1)
    ∙ difference_here c.args.self.now c.args.place c.in_ok-inner.inner c.in_ok-inner.ensures c.in_ok-operator.operator c.in_ok-operator.ensures _ _ _ c.in-Difference.is c.in_ok-a-in-Difference.ensures
