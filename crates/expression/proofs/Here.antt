-- What an expression is worth by the operator that it begins with.
use Rattle.std.proofs.Common.{◌≡◌, ℕ, ◌+◌, Bool, true, not, ◌&&◌, ◌||◌, List, ℤ, ◌+ℤ◌, ◌-ℤ◌, Some, None, sym, refl, ap, ◌∙◌, arith}
use lib.Signed.{lt_z}
use Rattle.language.specs.Expressions.{Number, Truth, sum, difference, equal, less, negation, conjunction, disjunction, eqZ, two, judged, byte_at, number_operator, number_operands, read_number, truth_operator, truth_operands, read_truth}
use Rattle.expression.specs.Evaluation.{Inner, everything, valued, number_worth, truth_worth, pair, pair_worth, byte_worth, name_worth, number_here, numbers_here, truth_here, truths_here}
use Rattle.expression.specs.Operators.{number_operator_of, number_meant, truth_operator_of, truth_meant}
use Rattle.expression.specs.declared.evaluator.Evaluator.{Evaluator}
use Rattle.expression.specs.declared.operators.NumberOperator.{NumberOperator}
use Rattle.expression.specs.declared.operators.NumberOperator.TheVariants.{Constant, OldValue, NewValue, Sum, Difference}
use Rattle.expression.specs.declared.operators.TruthOperator.{TruthOperator}
use Rattle.expression.specs.declared.operators.TruthOperator.TheVariants.{Equal, Less, Not, And, Or, True}
use Rattle.expression.proofs.Steps.{number_none, number_stops, number_goes, truth_none, truth_stops, truth_goes}
use Rattle.expression.proofs.Worths.{constant_worth, old_worth, new_worth, one_none, one_worth, two_none, two_worth, Room, rooms}

module _ (e : Evaluator) (k : ℕ) where
  abbrev bs : List ℕ
  bs = e.bytes.now

  abbrev number : Number → ℤ
  number = number_worth e.old.now e.new.now

  abbrev truth : Truth → Bool
  truth = truth_worth e.old.now e.new.now

  pub no_number_left : e.levels ≡ 0 → None ≡ number_here e k
  no_number_left h = sym (ap (valued number) (number_none e.levels everything bs k h))

  pub no_truth_left : e.levels ≡ 0 → None ≡ truth_here e k
  no_truth_left h = sym (ap (valued truth) (truth_none e.levels everything bs k h))

  pub no_number : None ≡ judged number_operator (byte_at bs k) → None ≡ number_here e k
  no_number h = sym (ap (valued number) (number_stops e.levels everything bs k h))

  pub no_truth : None ≡ judged truth_operator (byte_at bs k) → None ≡ truth_here e k
  no_truth h = sym (ap (valued truth) (truth_stops e.levels everything bs k h))

  -- one level further in
  module _ (i : Evaluator) (inner : Inner e i) where
    numbers_inner : numbers_here i (k + 1) ≡ valued (pair_worth number) (two pair (read_number i.levels everything bs) (k + 1))
    numbers_inner = rw (inner.same_bytes, inner.same_old, inner.same_new) refl

    truth_inner : truth_here i (k + 1) ≡ valued truth (read_truth i.levels everything bs (k + 1))
    truth_inner = rw (inner.same_bytes, inner.same_old, inner.same_new) refl

    truths_inner : truths_here i (k + 1) ≡ valued (pair_worth truth) (two pair (read_truth i.levels everything bs) (k + 1))
    truths_inner = rw (inner.same_bytes, inner.same_old, inner.same_new) refl

    -- two numbers can be added and subtracted
    pub roomy : (a b : ℤ) (end : ℕ) → Some ((a, b), end) ≡ numbers_here i (k + 1) → Room a × Room b
    roomy a b end h = rooms i.levels i.bytes.now i.old.now i.new.now (k + 1) a b end (omega arith) i.old_bytes i.new_bytes h

    module _ (o : NumberOperator) (here : number_meant (Some o) ≡ judged number_operator (byte_at bs k)) where
      goes : (p : NumberOperator) → o ≡ p → valued number (number_operands everything bs (read_number i.levels everything bs) (number_operator_of p) (k + 1)) ≡ number_here e k
      goes p is = sym (ap (valued number) (number_goes e.levels i.levels everything bs k o p inner.one_less here is))

      pub constant_here : o ≡ Constant → byte_worth bs (k + 1) ≡ number_here e k
      constant_here is = constant_worth e.old.now e.new.now bs (k + 1) ∙ goes Constant is

      pub old_here : o ≡ OldValue → name_worth e.old.now bs (k + 1) ≡ number_here e k
      old_here is = old_worth e.old.now e.new.now bs (k + 1) ∙ goes OldValue is

      pub new_here : o ≡ NewValue → name_worth e.new.now bs (k + 1) ≡ number_here e k
      new_here is = new_worth e.old.now e.new.now bs (k + 1) ∙ goes NewValue is

      pub no_sum : o ≡ Sum → None ≡ numbers_here i (k + 1) → None ≡ number_here e k
      no_sum is h = two_none number number sum (λ a b. a +ℤ b) (λ x y. refl) (read_number i.levels everything bs) (k + 1) (h ∙ numbers_inner) ∙ goes Sum is

      pub sum_here : (a b : ℤ) (end : ℕ) → o ≡ Sum → Some ((a, b), end) ≡ numbers_here i (k + 1) → Some (a +ℤ b, end) ≡ number_here e k
      sum_here a b end is h = two_worth number number sum (λ a b. a +ℤ b) (λ x y. refl) (read_number i.levels everything bs) (k + 1) a b end (h ∙ numbers_inner) ∙ goes Sum is

      pub no_difference : o ≡ Difference → None ≡ numbers_here i (k + 1) → None ≡ number_here e k
      no_difference is h = two_none number number difference (λ a b. a -ℤ b) (λ x y. refl) (read_number i.levels everything bs) (k + 1) (h ∙ numbers_inner) ∙ goes Difference is

      pub difference_here : (a b : ℤ) (end : ℕ) → o ≡ Difference → Some ((a, b), end) ≡ numbers_here i (k + 1) → Some (a -ℤ b, end) ≡ number_here e k
      difference_here a b end is h = two_worth number number difference (λ a b. a -ℤ b) (λ x y. refl) (read_number i.levels everything bs) (k + 1) a b end (h ∙ numbers_inner) ∙ goes Difference is

    module _ (o : TruthOperator) (here : truth_meant (Some o) ≡ judged truth_operator (byte_at bs k)) where
      holds : (p : TruthOperator) → o ≡ p → valued truth (truth_operands (read_number i.levels everything bs) (read_truth i.levels everything bs) (truth_operator_of p) (k + 1)) ≡ truth_here e k
      holds p is = sym (ap (valued truth) (truth_goes e.levels i.levels everything bs k o p inner.one_less here is))

      pub always_here : o ≡ True → Some (true, k + 1) ≡ truth_here e k
      always_here is = holds True is

      pub no_negation : o ≡ Not → None ≡ truth_here i (k + 1) → None ≡ truth_here e k
      no_negation is h = one_none truth truth negation not (λ x. refl) (read_truth i.levels everything bs) (k + 1) (h ∙ truth_inner) ∙ holds Not is

      pub negation_here : (p : Bool) (end : ℕ) → o ≡ Not → Some (p, end) ≡ truth_here i (k + 1) → Some (not p, end) ≡ truth_here e k
      negation_here p end is h = one_worth truth truth negation not (λ x. refl) (read_truth i.levels everything bs) (k + 1) p end (h ∙ truth_inner) ∙ holds Not is

      -- a truth of two numbers, or of two truths
      pub no_equal : o ≡ Equal → None ≡ numbers_here i (k + 1) → None ≡ truth_here e k
      no_equal is h = two_none number truth equal eqZ (λ x y. refl) (read_number i.levels everything bs) (k + 1) (h ∙ numbers_inner) ∙ holds Equal is

      pub equal_here : (a b : ℤ) (end : ℕ) → o ≡ Equal → Some ((a, b), end) ≡ numbers_here i (k + 1) → Some (eqZ a b, end) ≡ truth_here e k
      equal_here a b end is h = two_worth number truth equal eqZ (λ x y. refl) (read_number i.levels everything bs) (k + 1) a b end (h ∙ numbers_inner) ∙ holds Equal is

      pub no_less : o ≡ Less → None ≡ numbers_here i (k + 1) → None ≡ truth_here e k
      no_less is h = two_none number truth less lt_z (λ x y. refl) (read_number i.levels everything bs) (k + 1) (h ∙ numbers_inner) ∙ holds Less is

      pub less_here : (a b : ℤ) (end : ℕ) → o ≡ Less → Some ((a, b), end) ≡ numbers_here i (k + 1) → Some (lt_z a b, end) ≡ truth_here e k
      less_here a b end is h = two_worth number truth less lt_z (λ x y. refl) (read_number i.levels everything bs) (k + 1) a b end (h ∙ numbers_inner) ∙ holds Less is

      pub no_conjunction : o ≡ And → None ≡ truths_here i (k + 1) → None ≡ truth_here e k
      no_conjunction is h = two_none truth truth conjunction (λ p q. p && q) (λ x y. refl) (read_truth i.levels everything bs) (k + 1) (h ∙ truths_inner) ∙ holds And is

      pub conjunction_here : (p q : Bool) (end : ℕ) → o ≡ And → Some ((p, q), end) ≡ truths_here i (k + 1) → Some (p && q, end) ≡ truth_here e k
      conjunction_here p q end is h = two_worth truth truth conjunction (λ p q. p && q) (λ x y. refl) (read_truth i.levels everything bs) (k + 1) p q end (h ∙ truths_inner) ∙ holds And is

      pub no_disjunction : o ≡ Or → None ≡ truths_here i (k + 1) → None ≡ truth_here e k
      no_disjunction is h = two_none truth truth disjunction (λ p q. p || q) (λ x y. refl) (read_truth i.levels everything bs) (k + 1) (h ∙ truths_inner) ∙ holds Or is

      pub disjunction_here : (p q : Bool) (end : ℕ) → o ≡ Or → Some ((p, q), end) ≡ truths_here i (k + 1) → Some (p || q, end) ≡ truth_here e k
      disjunction_here p q end is h = two_worth truth truth disjunction (λ p q. p || q) (λ x y. refl) (read_truth i.levels everything bs) (k + 1) p q end (h ∙ truths_inner) ∙ holds Or is
