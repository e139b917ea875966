use Rattle.std.proofs.Common.{sym, ap, ◌∙◌, arith}
use Rattle.std.proofs.lemmas.Result.{err_from_is_err_and}
use Rattle.language.specs.Expressions.{negation, truth_operator, read_truth}
use Rattle.expression.specs.Checking.{seen_of, read_end}
use Rattle.expression.specs.Operators.{truth_operator_of, truth_meant}
use Rattle.expression.specs.declared.operators.TruthOperator.TheVariants.{Not, True}
use Rattle.expression.proofs.Ends.{one_ends, comparison_ends, comparison_fails, truth_pair_ends, truth_pair_fails}
use Rattle.expression.proofs.Steps.{level_less, no_level, truth_none, truth_stops, truth_goes, operator_inside, place_told}
use Rattle.expression.proofs.checking.Checker.+truth_end.Goals as goal

pub returns-in_err-inner : goal.returns-in_err-inner
returns-in_err-inner t c =
    let p = err_from_is_err_and c.from_residual.result c.from_residual.ensures.1 in
    let none = c.in_err-inner.ensures.ok_part in
    rw (p.1, p.2, place_told c.checked_sub.result c.args.place c.in_err-inner.field-0.0 none c.in_err-inner.ensures.value)
    (sym (ap read_end (truth_none c.args.levels (seen_of c.args.self.now.seen.now) c.args.self.now.bytes.now c.args.place (no_level none c.checked_sub.ensures))))

pub returns-in_err-operator : goal.returns-in_err-operator
returns-in_err-operator t c =
    let p = err_from_is_err_and c.from_residual-in_err-operator.result c.from_residual-in_err-operator.ensures.1 in
    let none = c.in_err-operator.ensures.ok_part in
    rw (p.1, p.2, place_told c.at.result c.args.place c.in_err-operator.field-0.0 none c.in_err-operator.ensures.value)
    (sym (ap read_end (truth_stops c.args.levels (seen_of c.args.self.now.seen.now) c.args.self.now.bytes.now c.args.place (ap truth_meant (sym none) ∙ c.at.ensures))))

pub overflow_add-first : goal.overflow_add-first
overflow_add-first t c = omega (arith, operator_inside truth_operator c.args.self.now.bytes.now c.args.place (truth_operator_of c.in_ok-operator.operator) (ap truth_meant (sym c.in_ok-operator.ensures.ok_part) ∙ c.at.ensures))

pub returns-in_err-second-in-Equal : goal.returns-in_err-second-in-Equal
returns-in_err-second-in-Equal t c =
    let p = err_from_is_err_and c.from_residual-in_err-second-in-Equal.result c.from_residual-in_err-second-in-Equal.ensures.1 in
    rw (p.1, p.2) (sym (comparison_fails c.args.levels c.in_ok-inner.inner (seen_of c.args.self.now.seen.now) c.args.self.now.bytes.now c.args.place c.in_ok-operator.operator (level_less c.in_ok-inner.ensures.ok_part c.checked_sub.ensures) (ap truth_meant (sym c.in_ok-operator.ensures.ok_part) ∙ c.at.ensures) c.in-Equal.is _ c.in_err-second-in-Equal.ensures))

pub returns-in_ok-second-in-Equal : goal.returns-in_ok-second-in-Equal
returns-in_ok-second-in-Equal t c =
    c.number_end-in-Equal.ensures ∙ sym (comparison_ends c.args.levels c.in_ok-inner.inner (seen_of c.args.self.now.seen.now) c.args.self.now.bytes.now c.args.place c.in_ok-operator.operator (level_less c.in_ok-inner.ensures.ok_part c.checked_sub.ensures) (ap truth_meant (sym c.in_ok-operator.ensures.ok_part) ∙ c.at.ensures) c.in-Equal.is c.in_ok-second-in-Equal.second c.in_ok-second-in-Equal.ensures)

pub returns-in-Not : goal.returns-in-Not
returns-in-Not t c =
    c.truth_end.ensures ∙ sym (ap read_end (truth_goes c.args.levels c.in_ok-inner.inner (seen_of c.args.self.now.seen.now) c.args.self.now.bytes.now c.args.place c.in_ok-operator.operator Not (level_less c.in_ok-inner.ensures.ok_part c.checked_sub.ensures) (ap truth_meant (sym c.in_ok-operator.ensures.ok_part) ∙ c.at.ensures) c.in-Not.is) ∙ one_ends negation (read_truth _ (seen_of c.args.self.now.seen.now) c.args.self.now.bytes.now) _)

pub returns-in_err-second-in-And : goal.returns-in_err-second-in-And
returns-in_err-second-in-And t c =
    let p = err_from_is_err_and c.from_residual-in_err-second-in-And.result c.from_residual-in_err-second-in-And.ensures.1 in
    rw (p.1, p.2) (sym (truth_pair_fails c.args.levels c.in_ok-inner.inner (seen_of c.args.self.now.seen.now) c.args.self.now.bytes.now c.args.place c.in_ok-operator.operator (level_less c.in_ok-inner.ensures.ok_part c.checked_sub.ensures) (ap truth_meant (sym c.in_ok-operator.ensures.ok_part) ∙ c.at.ensures) c.in-And.is _ c.in_err-second-in-And.ensures))

pub returns-in_ok-second-in-And : goal.returns-in_ok-second-in-And
returns-in_ok-second-in-And t c =
    c.truth_end-in-And-2.ensures ∙ sym (truth_pair_ends c.args.levels c.in_ok-inner.inner (seen_of c.args.self.now.seen.now) c.args.self.now.bytes.now c.args.place c.in_ok-operator.operator (level_less c.in_ok-inner.ensures.ok_part c.checked_sub.ensures) (ap truth_meant (sym c.in_ok-operator.ensures.ok_part) ∙ c.at.ensures) c.in-And.is c.in_ok-second-in-And.second c.in_ok-second-in-And.ensures)

pub returns-in-True : goal.returns-in-True
returns-in-True t c = sym (ap read_end (truth_goes c.args.levels c.in_ok-inner.inner (seen_of c.args.self.now.seen.now) c.args.self.now.bytes.now c.args.place c.in_ok-operator.operator True (level_less c.in_ok-inner.ensures.ok_part c.checked_sub.ensures) (ap truth_meant (sym c.in_ok-operator.ensures.ok_part) ∙ c.at.ensures) c.in-True.is))
