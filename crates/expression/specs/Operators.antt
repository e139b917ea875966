-- What the operators of the code stand for.
use Rattle.std.specs.Prelude.{◌≡◌, ℕ, Some, None, Option, Result, MatchResult}
use Rattle.language.specs.Expressions.{NumberOperation, constant_follows, old_name_follows, new_name_follows, plus, minus, TruthOperation, equals, less_than, not_follows, and_follows, or_follows, is_true}
use Rattle.expression.specs.declared.operators.NoOperator.{NoOperator}
use Rattle.expression.specs.declared.operators.NumberOperator.{NumberOperator}
use Rattle.expression.specs.declared.operators.NumberOperator.TheVariants.{Constant, OldValue, NewValue, Sum, Difference}
use Rattle.expression.specs.declared.operators.TruthOperator.{TruthOperator}
use Rattle.expression.specs.declared.operators.TruthOperator.TheVariants.{Equal, Less, Not, And, Or, True}

abbrev pub number_operator_of : NumberOperator → NumberOperation
number_operator_of Constant = constant_follows
number_operator_of OldValue = old_name_follows
number_operator_of NewValue = new_name_follows
number_operator_of Sum = plus
number_operator_of Difference = minus

abbrev pub number_meant : Option NumberOperator → Option NumberOperation
number_meant None = None
number_meant (Some o) = Some (number_operator_of o)

abbrev pub truth_operator_of : TruthOperator → TruthOperation
truth_operator_of Equal = equals
truth_operator_of Less = less_than
truth_operator_of Not = not_follows
truth_operator_of And = and_follows
truth_operator_of Or = or_follows
truth_operator_of True = is_true

abbrev pub truth_meant : Option TruthOperator → Option TruthOperation
truth_meant None = None
truth_meant (Some o) = Some (truth_operator_of o)

-- the operator that the byte is read as, or an error where it is read as none
abbrev pub StandsFor : {O M : Type 0} → (O → M) → (ℕ → Option M) → ℕ → Result O NoOperator → Type 0
StandsFor meant read byte r = MatchResult r (λ o. read byte ≡ Some (meant o)) (λ _. read byte ≡ None)
