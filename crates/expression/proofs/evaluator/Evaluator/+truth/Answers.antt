use Rattle.std.proofs.Common.{Some, ap, ◌∙◌, arith, w16, SFits, rules}
use Rattle.language.specs.Expressions.{truth_operator}
use Rattle.expression.specs.Operators.{truth_operator_of}
use Rattle.expression.proofs.Here.{no_truth_left, no_truth, always_here, no_negation, negation_here, no_equal, equal_here, no_less, less_here, no_conjunction, conjunction_here, no_disjunction, disjunction_here}
use Rattle.expression.proofs.Steps.{operator_inside}
use Rattle.expression.proofs.Worths.{equal_is, less_is}
use Rattle.expression.proofs.evaluator.Evaluator.+truth.Goals as goal

pub truth-returns-in_err-inner : goal.truth-returns-in_err-inner
truth-returns-in_err-inner t c = rw c.from_residual.ensures (no_truth_left c.args.self.now c.args.place c.in_err-inner.ensures)

pub truth-returns-in_err-operator : goal.truth-returns-in_err-operator
truth-returns-in_err-operator t c = rw c.from_residual-in_err-operator.ensures (no_truth c.args.self.now c.args.place c.in_err-operator.ensures)

pub truth-overflow_add-first : goal.truth-overflow_add-first
truth-overflow_add-first t c = omega (arith, operator_inside truth_operator c.args.self.now.bytes.now c.args.place (truth_operator_of c.in_ok-operator.operator) c.in_ok-operator.ensures)

pub truth-returns-in-True : goal.truth-returns-in-True
truth-returns-in-True t c = always_here c.args.self.now c.args.place c.in_ok-inner.inner c.in_ok-inner.ensures c.in_ok-operator.operator c.in_ok-operator.ensures c.in-True.is

pub truth-returns-in_err-a-in-Equal : goal.truth-returns-in_err-a-in-Equal
truth-returns-in_err-a-in-Equal t c = rw c.from_residual-in_err-a-in-Equal.ensures (no_equal c.args.self.now c.args.place c.in_ok-inner.inner c.in_ok-inner.ensures c.in_ok-operator.operator c.in_ok-operator.ensures c.in-Equal.is c.in_err-a-in-Equal.ensures)

pub truth-returns-in_ok-a-in-Equal : goal.truth-returns-in_ok-a-in-Equal
truth-returns-in_ok-a-in-Equal t c =
    let f : SFits w16 c.in_ok-a-in-Equal.a = search rules in let g : SFits w16 c.in_ok-a-in-Equal.b = search rules in
    ap (λ v. Some (v, c.in_ok-a-in-Equal.end)) (equal_is c.in_ok-a-in-Equal.a c.in_ok-a-in-Equal.b f g) ∙ equal_here c.args.self.now c.args.place c.in_ok-inner.inner c.in_ok-inner.ensures c.in_ok-operator.operator c.in_ok-operator.ensures _ _ _ c.in-Equal.is c.in_ok-a-in-Equal.ensures

pub truth-returns-in_err-a-in-Less : goal.truth-returns-in_err-a-in-Less
truth-returns-in_err-a-in-Less t c = rw c.from_residual-in_err-a-in-Less.ensures (no_less c.args.self.now c.args.place c.in_ok-inner.inner c.in_ok-inner.ensures c.in_ok-operator.operator c.in_ok-operator.ensures c.in-Less.is c.in_err-a-in-Less.ensures)

pub truth-returns-in_ok-a-in-Less : goal.truth-returns-in_ok-a-in-Less
truth-returns-in_ok-a-in-Less t c =
    let f : SFits w16 c.in_ok-a-in-Less.a = search rules in let g : SFits w16 c.in_ok-a-in-Less.b = search rules in
    ap (λ v. Some (v, c.in_ok-a-in-Less.end)) (less_is c.in_ok-a-in-Less.a c.in_ok-a-in-Less.b f g) ∙ less_here c.args.self.now c.args.place c.in_ok-inner.inner c.in_ok-inner.ensures c.in_ok-operator.operator c.in_ok-operator.ensures _ _ _ c.in-Less.is c.in_ok-a-in-Less.ensures

pub truth-returns-in_err-p-in-Not : goal.truth-returns-in_err-p-in-Not
truth-returns-in_err-p-in-Not t c = rw c.from_residual-in_err-p-in-Not.ensures (no_negation c.args.self.now c.args.place c.in_ok-inner.inner c.in_ok-inner.ensures c.in_ok-operator.operator c.in_ok-operator.ensures c.in-Not.is c.in_err-p-in-Not.ensures)

pub truth-returns-in_ok-p-in-Not : goal.truth-returns-in_ok-p-in-Not
truth-returns-in_ok-p-in-Not t c = negation_here c.args.self.now c.args.place c.in_ok-inner.inner c.in_ok-inner.ensures c.in_ok-operator.operator c.in_ok-operator.ensures _ _ c.in-Not.is c.in_ok-p-in-Not.ensures

pub truth-returns-in_err-p-in-And : goal.truth-returns-in_err-p-in-And
truth-returns-in_err-p-in-And t c = rw c.from_residual-in_err-p-in-And.ensures (no_conjunction c.args.self.now c.args.place c.in_ok-inner.inner c.in_ok-inner.ensures c.in_ok-operator.operator c.in_ok-operator.ensures c.in-And.is c.in_err-p-in-And.ensures)

pub truth-returns-in_ok-p-in-And : goal.truth-returns-in_ok-p-in-And
truth-returns-in_ok-p-in-And t c = conjunction_here c.args.self.now c.args.place c.in_ok-inner.inner c.in_ok-inner.ensures c.in_ok-operator.operator c.in_ok-operator.ensures _ _ _ c.in-And.is c.in_ok-p-in-And.ensures

pub truth-returns-in_err-p-in-Or : goal.truth-returns-in_err-p-in-Or
truth-returns-in_err-p-in-Or t c = rw c.from_residual-in_err-p-in-Or.ensures (no_disjunction c.args.self.now c.args.place c.in_ok-inner.inner c.in_ok-inner.ensures c.in_ok-operator.operator c.in_ok-operator.ensures c.in-Or.is c.in_err-p-in-Or.ensures)

pub truth-returns-in_ok-p-in-Or : goal.truth-returns-in_ok-p-in-Or
truth-returns-in_ok-p-in-Or t c = disjunction_here c.args.self.now c.args.place c.in_ok-inner.inner c.in_ok-inner.ensures c.in_ok-operator.operator c.in_ok-operator.ensures _ _ _ c.in-Or.is c.in_ok-p-in-Or.ensures
