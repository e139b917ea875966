-- Where expressions end, by their operators.
use Rattle.std.proofs.Common.{◌≡◌, ℕ, ◌+◌, Bool, true, false, cond, ◌⊎◌, List, Some, None, Ok, Err, Option, sym, refl, ap, ◌∙◌, inl, inr, arith}
use Rattle.language.specs.Expressions.{Number, Seen, sum, difference, old_value, equal, less, conjunction, disjunction, byte_at, Reading, good, bad, after, judged, good_byte, read_byte, as_name, one, two, number_operator, read_number, truth_operator, read_truth}
use Rattle.expression.specs.Checking.{read_end, name_end}
use Rattle.expression.specs.Operators.{number_meant, truth_meant}
use Rattle.expression.specs.declared.operators.NumberOperator.{NumberOperator}
use Rattle.expression.specs.declared.operators.NumberOperator.TheVariants.{Sum, Difference}
use Rattle.expression.specs.declared.operators.TruthOperator.{TruthOperator}
use Rattle.expression.specs.declared.operators.TruthOperator.TheVariants.{Equal, Less, And, Or}
use Rattle.expression.proofs.Steps.{number_goes, truth_goes}

pub name_ends : (make : ℕ → Number) (names : ℕ → Bool) (bs : List ℕ) (k : ℕ) → read_end (read_byte (as_name make names) bs k) ≡ name_end names bs k
name_ends make names bs k = go (byte_at bs k)
  where
    seen : (n : ℕ) (t : Bool) → read_end (good_byte (cond t (Some (make n)) None) k) ≡ read_end (good_byte (cond t (Some (old_value n)) None) k)
    seen n true = refl
    seen n false = refl

    go : (o : Option ℕ) → read_end (good_byte (judged (as_name make names) o) k) ≡ read_end (good_byte (judged (as_name old_value names) o) k)
    go None = refl
    go (Some n) = seen n (names n)

pub one_ends : {X Y : Type 0} (make : X → Y) (operand : ℕ → Reading X) (k : ℕ) → read_end (one make operand k) ≡ read_end (operand k)
one_ends {X} make operand k = go (operand k)
  where
    go : (r : Reading X) → read_end (after r (λ a end. good (make a) end)) ≡ read_end r
    go (good x end) = refl
    go (bad place) = refl

pub two_end : {X Y : Type 0} (make : X → X → Y) (operand : ℕ → Reading X) (k next : ℕ) → Ok next ≡ read_end (operand k) → read_end (two make operand k) ≡ read_end (operand next)
two_end {X} make operand k next e = go (operand k) e
  where
    go : (r : Reading X) → Ok next ≡ read_end r → read_end (after r (λ a. one (make a) operand)) ≡ read_end (operand next)
    go (good x end) e = let same : end ≡ next = cc in one_ends (make x) operand end ∙ ap (λ j. read_end (operand j)) same
    go (bad place) e = let z : ◌≡◌ {A = ℕ} 0 1 = cc in absurd (omega arith)

pub two_fail : {X Y : Type 0} (make : X → X → Y) (operand : ℕ → Reading X) (k place : ℕ) → Err place ≡ read_end (operand k) → read_end (two make operand k) ≡ Err place
two_fail {X} make operand k place e = go (operand k) e
  where
    go : (r : Reading X) → Err place ≡ read_end r → read_end (after r (λ a. one (make a) operand)) ≡ Err place
    go (good x end) e = let z : ◌≡◌ {A = ℕ} 0 1 = cc in absurd (omega arith)
    go (bad p) e = sym e

-- a number of two numbers
module _ (levels inner : ℕ) (s : Seen) (bs : List ℕ) (k : ℕ) (o : NumberOperator) (left : inner + 1 ≡ levels) (here : number_meant (Some o) ≡ judged number_operator (byte_at bs k)) (is : (o ≡ Sum) ⊎ (o ≡ Difference)) where
  pub number_pair_ends : (next : ℕ) → Ok next ≡ read_end (read_number inner s bs (k + 1)) → read_end (read_number levels s bs k) ≡ read_end (read_number inner s bs next)
  number_pair_ends next e = go is
    where
      go : (o ≡ Sum) ⊎ (o ≡ Difference) → read_end (read_number levels s bs k) ≡ read_end (read_number inner s bs next)
      go (inl h) = ap read_end (number_goes levels inner s bs k o Sum left here h) ∙ two_end sum (read_number inner s bs) (k + 1) next e
      go (inr h) = ap read_end (number_goes levels inner s bs k o Difference left here h) ∙ two_end difference (read_number inner s bs) (k + 1) next e

  pub number_pair_fails : (place : ℕ) → Err place ≡ read_end (read_number inner s bs (k + 1)) → read_end (read_number levels s bs k) ≡ Err place
  number_pair_fails place e = go is
    where
      go : (o ≡ Sum) ⊎ (o ≡ Difference) → read_end (read_number levels s bs k) ≡ Err place
      go (inl h) = ap read_end (number_goes levels inner s bs k o Sum left here h) ∙ two_fail sum (read_number inner s bs) (k + 1) place e
      go (inr h) = ap read_end (number_goes levels inner s bs k o Difference left here h) ∙ two_fail difference (read_number inner s bs) (k + 1) place e

-- a truth of two numbers, or of two truths
module _ (levels inner : ℕ) (s : Seen) (bs : List ℕ) (k : ℕ) (o : TruthOperator) (left : inner + 1 ≡ levels) (here : truth_meant (Some o) ≡ judged truth_operator (byte_at bs k)) where
  pub comparison_ends : (o ≡ Equal) ⊎ (o ≡ Less) → (next : ℕ) → Ok next ≡ read_end (read_number inner s bs (k + 1)) → read_end (read_truth levels s bs k) ≡ read_end (read_number inner s bs next)
  comparison_ends (inl h) next e = ap read_end (truth_goes levels inner s bs k o Equal left here h) ∙ two_end equal (read_number inner s bs) (k + 1) next e
  comparison_ends (inr h) next e = ap read_end (truth_goes levels inner s bs k o Less left here h) ∙ two_end less (read_number inner s bs) (k + 1) next e

  pub comparison_fails : (o ≡ Equal) ⊎ (o ≡ Less) → (place : ℕ) → Err place ≡ read_end (read_number inner s bs (k + 1)) → read_end (read_truth levels s bs k) ≡ Err place
  comparison_fails (inl h) place e = ap read_end (truth_goes levels inner s bs k o Equal left here h) ∙ two_fail equal (read_number inner s bs) (k + 1) place e
  comparison_fails (inr h) place e = ap read_end (truth_goes levels inner s bs k o Less left here h) ∙ two_fail less (read_number inner s bs) (k + 1) place e

  pub truth_pair_ends : (o ≡ And) ⊎ (o ≡ Or) → (next : ℕ) → Ok next ≡ read_end (read_truth inner s bs (k + 1)) → read_end (read_truth levels s bs k) ≡ read_end (read_truth inner s bs next)
  truth_pair_ends (inl h) next e = ap read_end (truth_goes levels inner s bs k o And left here h) ∙ two_end conjunction (read_truth inner s bs) (k + 1) next e
  truth_pair_ends (inr h) next e = ap read_end (truth_goes levels inner s bs k o Or left here h) ∙ two_end disjunction (read_truth inner s bs) (k + 1) next e

  pub truth_pair_fails : (o ≡ And) ⊎ (o ≡ Or) → (place : ℕ) → Err place ≡ read_end (read_truth inner s bs (k + 1)) → read_end (read_truth levels s bs k) ≡ Err place
  truth_pair_fails (inl h) place e = ap read_end (truth_goes levels inner s bs k o And left here h) ∙ two_fail conjunction (read_truth inner s bs) (k + 1) place e
  truth_pair_fails (inr h) place e = ap read_end (truth_goes levels inner s bs k o Or left here h) ∙ two_fail disjunction (read_truth inner s bs) (k + 1) place e
