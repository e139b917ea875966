-- One step of reading an expression, by what stands at its place.
use Rattle.std.proofs.Common.{◌≡◌, ℕ, zero, suc, ◌+◌, ◌-◌, ◌<◌, ◌≤◌, List, length, Some, None, Option, Result, Err, sym, refl, ap, ◌∙◌, arith}
use Rattle.std.specs.List.{slice_get}
use Rattle.std.specs.Option.{ok_or, SomeIff}
use Rattle.language.specs.laws.Expressions.{nth_inside, byte_is, none_some}
use Rattle.language.specs.Expressions.{Seen, byte_at, bad, after, judged, good_byte, number_operator, number_operands, read_number, truth_operator, truth_operands, read_truth}
use Rattle.expression.specs.Operators.{number_operator_of, number_meant, truth_operator_of, truth_meant}
use Rattle.expression.specs.declared.operators.NumberOperator.{NumberOperator}
use Rattle.expression.specs.declared.operators.TruthOperator.{TruthOperator}

pub byte_inside : (bs : List ℕ) (k b : ℕ) → byte_at bs k ≡ Some b → k < length bs
byte_inside bs k b e = nth_inside bs k b (byte_is (slice_get bs k) b e)

-- where an operator stands, the bytes go on
pub operator_inside : {X : Type 0} (judge : ℕ → Option X) (bs : List ℕ) (k : ℕ) (x : X) → Some x ≡ judged judge (byte_at bs k) → k < length bs
operator_inside {X} judge bs k x e = go (byte_at bs k) refl e
  where
    go : (o : Option ℕ) → byte_at bs k ≡ o → Some x ≡ judged judge o → k < length bs
    go None h e = none_some x (sym e)
    go (Some b) h e = byte_inside bs k b h

-- where nothing stands the place is told
pub place_told : {X : Type 0} (o : Option X) (place told : ℕ) → o ≡ None → ◌≡◌ {A = Result X ℕ} (Err told) (ok_or o place) → told ≡ place
place_told None place told e h = cc
place_told (Some x) place told e h = none_some x (sym e)

-- a level less is left, or none
pub level_less : {levels inner : ℕ} {o : Option ℕ} → o ≡ Some inner → SomeIff o (1 ≤ levels) (levels - 1) → inner + 1 ≡ levels
level_less {inner} {o = None} e h = none_some inner e
level_less {inner} {o = Some x} e h = let same : x ≡ inner = cc in omega (arith, h.0, h.1)

pub no_level : {levels : ℕ} {o : Option ℕ} → o ≡ None → SomeIff o (1 ≤ levels) (levels - 1) → levels ≡ 0
no_level {o = None} e h = omega (arith, h)
no_level {o = Some x} e h = none_some x (sym e)

pub number_none : (levels : ℕ) (s : Seen) (bs : List ℕ) (k : ℕ) → levels ≡ 0 → read_number levels s bs k ≡ bad k
unfolding read_number
number_none zero s bs k e = refl
number_none (suc levels) s bs k e = absurd (omega arith)

pub number_stops : (levels : ℕ) (s : Seen) (bs : List ℕ) (k : ℕ) → None ≡ judged number_operator (byte_at bs k) → read_number levels s bs k ≡ bad k
unfolding read_number
number_stops zero s bs k e = refl
number_stops (suc levels) s bs k e = ap (λ o. after (good_byte o k) (number_operands s bs (read_number levels s bs))) (sym e)

pub number_goes : (levels inner : ℕ) (s : Seen) (bs : List ℕ) (k : ℕ) (o p : NumberOperator) → inner + 1 ≡ levels → number_meant (Some o) ≡ judged number_operator (byte_at bs k) → o ≡ p → read_number levels s bs k ≡ number_operands s bs (read_number inner s bs) (number_operator_of p) (k + 1)
unfolding read_number
number_goes zero inner s bs k o p h e same = absurd (omega arith)
number_goes (suc levels) inner s bs k o p h e same =
    let less : levels ≡ inner = omega arith in
    ap (λ o. after (good_byte o k) (number_operands s bs (read_number levels s bs))) (sym e)
    ∙ ap (λ l. number_operands s bs (read_number l s bs) (number_operator_of o) (k + 1)) less
    ∙ ap (λ o. number_operands s bs (read_number inner s bs) (number_operator_of o) (k + 1)) same

pub truth_none : (levels : ℕ) (s : Seen) (bs : List ℕ) (k : ℕ) → levels ≡ 0 → read_truth levels s bs k ≡ bad k
unfolding read_truth
truth_none zero s bs k e = refl
truth_none (suc levels) s bs k e = absurd (omega arith)

pub truth_stops : (levels : ℕ) (s : Seen) (bs : List ℕ) (k : ℕ) → None ≡ judged truth_operator (byte_at bs k) → read_truth levels s bs k ≡ bad k
unfolding read_truth
truth_stops zero s bs k e = refl
truth_stops (suc levels) s bs k e = ap (λ o. after (good_byte o k) (truth_operands (read_number levels s bs) (read_truth levels s bs))) (sym e)

pub truth_goes : (levels inner : ℕ) (s : Seen) (bs : List ℕ) (k : ℕ) (o p : TruthOperator) → inner + 1 ≡ levels → truth_meant (Some o) ≡ judged truth_operator (byte_at bs k) → o ≡ p → read_truth levels s bs k ≡ truth_operands (read_number inner s bs) (read_truth inner s bs) (truth_operator_of p) (k + 1)
unfolding read_truth
truth_goes zero inner s bs k o p h e same = absurd (omega arith)
truth_goes (suc levels) inner s bs k o p h e same =
    let less : levels ≡ inner = omega arith in
    ap (λ o. after (good_byte o k) (truth_operands (read_number levels s bs) (read_truth levels s bs))) (sym e)
    ∙ ap (λ l. truth_operands (read_number l s bs) (read_truth l s bs) (truth_operator_of o) (k + 1)) less
    ∙ ap (λ o. truth_operands (read_number inner s bs) (read_truth inner s bs) (truth_operator_of o) (k + 1)) same
