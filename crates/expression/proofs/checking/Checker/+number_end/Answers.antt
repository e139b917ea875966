use Rattle.std.proofs.Common.{sym, ap, ◌∙◌, arith}
use Rattle.std.proofs.lemmas.Result.{err_from_is_err_and}
use Rattle.language.specs.Expressions.{old_value, new_value, number_operator}
use Rattle.model.specs.Sets.{has}
use Rattle.expression.specs.Checking.{seen_of, read_end}
use Rattle.expression.specs.Operators.{number_operator_of, number_meant}
use Rattle.expression.specs.declared.operators.NumberOperator.TheVariants.{Constant, OldValue, NewValue}
use Rattle.expression.proofs.Ends.{name_ends, number_pair_ends, number_pair_fails}
use Rattle.expression.proofs.Steps.{level_less, no_level, number_none, number_stops, number_goes, operator_inside, place_told}
use Rattle.expression.proofs.checking.Checker.+number_end.Goals as goal

pub returns-in_err-inner : goal.returns-in_err-inner
returns-in_err-inner t c =
    let p = err_from_is_err_and c.from_residual.result c.from_residual.ensures.1 in
    let none = c.in_err-inner.ensures.ok_part in
    rw (p.1, p.2, place_told c.checked_sub.result c.args.place c.in_err-inner.field-0.0 none c.in_err-inner.ensures.value)
    (sym (ap read_end (number_none c.args.levels (seen_of c.args.self.now.seen.now) c.args.self.now.bytes.now c.args.place (no_level none c.checked_sub.ensures))))

pub returns-in_err-operator : goal.returns-in_err-operator
returns-in_err-operator t c =
    let p = err_from_is_err_and c.from_residual-in_err-operator.result c.from_residual-in_err-operator.ensures.1 in
    let none = c.in_err-operator.ensures.ok_part in
    rw (p.1, p.2, place_told c.at.result c.args.place c.in_err-operator.field-0.0 none c.in_err-operator.ensures.value)
    (sym (ap read_end (number_stops c.args.levels (seen_of c.args.self.now.seen.now) c.args.self.now.bytes.now c.args.place (ap number_meant (sym none) ∙ c.at.ensures))))

pub overflow_add-first : goal.overflow_add-first
overflow_add-first t c = omega (arith, operator_inside number_operator c.args.self.now.bytes.now c.args.place (number_operator_of c.in_ok-operator.operator) (ap number_meant (sym c.in_ok-operator.ensures.ok_part) ∙ c.at.ensures))

pub returns-in-Constant : goal.returns-in-Constant
returns-in-Constant t c = c.constant_end.ensures ∙ sym (ap read_end (number_goes c.args.levels c.in_ok-inner.inner (seen_of c.args.self.now.seen.now) c.args.self.now.bytes.now c.args.place c.in_ok-operator.operator Constant (level_less c.in_ok-inner.ensures.ok_part c.checked_sub.ensures) (ap number_meant (sym c.in_ok-operator.ensures.ok_part) ∙ c.at.ensures) c.in-Constant.is))

pub returns-in-OldValue : goal.returns-in-OldValue
returns-in-OldValue t c =
    c.name_end.ensures ∙ sym (ap read_end (number_goes c.args.levels c.in_ok-inner.inner (seen_of c.args.self.now.seen.now) c.args.self.now.bytes.now c.args.place c.in_ok-operator.operator OldValue (level_less c.in_ok-inner.ensures.ok_part c.checked_sub.ensures) (ap number_meant (sym c.in_ok-operator.ensures.ok_part) ∙ c.at.ensures) c.in-OldValue.is) ∙ name_ends old_value (has c.args.self.now.seen.now.old) c.args.self.now.bytes.now _)

pub returns-in-NewValue : goal.returns-in-NewValue
returns-in-NewValue t c =
    c.name_end-in-NewValue.ensures ∙ sym (ap read_end (number_goes c.args.levels c.in_ok-inner.inner (seen_of c.args.self.now.seen.now) c.args.self.now.bytes.now c.args.place c.in_ok-operator.operator NewValue (level_less c.in_ok-inner.ensures.ok_part c.checked_sub.ensures) (ap number_meant (sym c.in_ok-operator.ensures.ok_part) ∙ c.at.ensures) c.in-NewValue.is) ∙ name_ends new_value (has c.args.self.now.seen.now.new) c.args.self.now.bytes.now _)

pub returns-in_err-second-in-Sum : goal.returns-in_err-second-in-Sum
returns-in_err-second-in-Sum t c =
    let p = err_from_is_err_and c.from_residual-in_err-second-in-Sum.result c.from_residual-in_err-second-in-Sum.ensures.1 in
    rw (p.1, p.2) (sym (number_pair_fails c.args.levels c.in_ok-inner.inner (seen_of c.args.self.now.seen.now) c.args.self.now.bytes.now c.args.place c.in_ok-operator.operator (level_less c.in_ok-inner.ensures.ok_part c.checked_sub.ensures) (ap number_meant (sym c.in_ok-operator.ensures.ok_part) ∙ c.at.ensures) c.in-Sum.is _ c.in_err-second-in-Sum.ensures))

pub returns-in_ok-second-in-Sum : goal.returns-in_ok-second-in-Sum
returns-in_ok-second-in-Sum t c =
    c.number_end-in-Sum.ensures ∙ sym (number_pair_ends c.args.levels c.in_ok-inner.inner (seen_of c.args.self.now.seen.now) c.args.self.now.bytes.now c.args.place c.in_ok-operator.operator (level_less c.in_ok-inner.ensures.ok_part c.checked_sub.ensures) (ap number_meant (sym c.in_ok-operator.ensures.ok_part) ∙ c.at.ensures) c.in-Sum.is c.in_ok-second-in-Sum.second c.in_ok-second-in-Sum.ensures)
