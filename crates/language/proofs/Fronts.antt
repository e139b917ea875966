-- Expressions are read from the front.
use Rattle.std.proofs.Common.{◌≡◌, ℕ, zero, suc, ◌+◌, ◌<◌, ◌≤◌, ◌⊎◌, List, length, Some, None, Option, sym, refl, ap, ◌∙◌, subst, inl, inr, le_refl, arith}
use Rattle.std.proofs.lemmas.Bool.{cases_lt}
use Rattle.std.specs.List.{slice_get}
use Rattle.language.specs.laws.Expressions.{nth_inside}
use Rattle.language.specs.Expressions.{old_value, new_value, sum, difference, equal, less, negation, conjunction, disjunction, always, Seen, as_byte, byte_at, Reading, good, bad, after, judged, good_byte, read_byte, one, two, NumberOperation, constant_follows, old_name_follows, new_name_follows, plus, minus, number_operator, TruthOperation, equals, less_than, not_follows, and_follows, or_follows, is_true, truth_operator, as_constant, as_name, number_operands, read_number, truth_operands, read_truth}
use Rattle.language.specs.Fronts.{Same, EndsBefore, looked, Inside, FromFront}
use Rattle.language.specs.Statements.{ExpressionsAreReadFromTheFront}

-- reading nothing
front_done : {X : Type 0} (x : X) → FromFront (λ bs k. good x k)
front_done x =
    record {
      onward = λ bs k. le_refl k;
      inside = λ bs k h. h;
      settled = λ bs cs k h. refl;
      cut = λ bs cs k n h g same ends. absurd (omega arith);
    }

-- a fault wherever it is read
front_bad : {X : Type 0} → FromFront {X = X} (λ bs k. bad k)
front_bad =
    record {
      onward = λ bs k. omega arith;
      inside = λ bs k h. h;
      settled = λ bs cs k h. refl;
      cut = λ bs cs k n h g same ends. let here : k ≡ n = omega arith in ap bad here;
    }

-- one byte
byte_none : {X : Type 0} (judge : ℕ → Option X) (cs : List ℕ) (k : ℕ) → slice_get cs k ≡ None → read_byte judge cs k ≡ bad k
byte_none judge cs k e = ap (λ o. good_byte (judged judge (as_byte o)) k) e

module _ {X : Type 0} (judge : ℕ → Option X) where
  outcome_looked : (o : Option X) (k : ℕ) → looked (good_byte o k) ≡ k + 1
  outcome_looked None k = refl
  outcome_looked (Some x) k = refl

  byte_inside : (bs : List ℕ) (k : ℕ) → k ≤ length bs → Inside (length bs) (read_byte judge bs k)
  byte_inside bs k h = go (slice_get bs k) refl
    where
      last : (o : Option X) → k < length bs → Inside (length bs) (good_byte o k)
      last None l = h
      last (Some x) l = omega arith

      go : (o : Option ℕ) → slice_get bs k ≡ o → Inside (length bs) (good_byte (judged judge (as_byte o)) k)
      go None e = h
      go (Some b) e = last (judged judge (as_byte (Some b))) (nth_inside bs k b e)

  front_byte : FromFront (read_byte judge)
  front_byte =
      record {
        onward = λ bs k. omega (arith, outcome_looked (judged judge (byte_at bs k)) k);
        inside = byte_inside;
        settled = λ bs cs k h. ap (λ o. good_byte (judged judge (as_byte o)) k) (h k (omega (arith, outcome_looked (judged judge (byte_at bs k)) k)));
        cut = λ bs cs k n h g same ends.
            let here : n ≡ k = omega (arith, outcome_looked (judged judge (byte_at bs k)) k) in
            byte_none judge cs k (subst (EndsBefore cs) here ends) ∙ ap bad (sym here);
      }

pub fewer : (bs cs : List ℕ) (m n : ℕ) → m ≤ n → Same bs cs n → Same bs cs m
fewer bs cs m n h same i l = same i (omega arith)

-- one reading after another
module _ {X Y : Type 0} (first : List ℕ → ℕ → Reading X) (next : X → List ℕ → ℕ → Reading Y) (F : FromFront first) (G : (x : X) → FromFront (next x)) where
  abbrev both : List ℕ → ℕ → Reading Y
  both bs k = after (first bs k) (λ x j. next x bs j)

  both_is : (bs : List ℕ) (k : ℕ) (r : Reading X) → first bs k ≡ r → both bs k ≡ after r (λ x j. next x bs j)
  both_is bs k r e = ap (λ r. after r (λ x j. next x bs j)) e

  onward_by : (bs : List ℕ) (k : ℕ) (r : Reading X) → first bs k ≡ r → k ≤ looked (after r (λ x j. next x bs j))
  onward_by bs k (bad p) e = let low : k ≤ p + 1 = subst (λ r. k ≤ looked r) e (F.onward bs k) in low
  onward_by bs k (good x j) e = let low : k ≤ j = subst (λ r. k ≤ looked r) e (F.onward bs k) in omega (arith, (G x).onward bs j)

  inside_by : (bs : List ℕ) (k : ℕ) → k ≤ length bs → (r : Reading X) → first bs k ≡ r → Inside (length bs) (after r (λ x j. next x bs j))
  inside_by bs k h (bad p) e = let in' : p ≤ length bs = subst (Inside (length bs)) e (F.inside bs k h) in in'
  inside_by bs k h (good x j) e = let in' : j ≤ length bs = subst (Inside (length bs)) e (F.inside bs k h) in (G x).inside bs j in'

  settled_by : (bs cs : List ℕ) (k : ℕ) (r : Reading X) → first bs k ≡ r → Same bs cs (looked (after r (λ x j. next x bs j))) → both cs k ≡ after r (λ x j. next x bs j)
  settled_by bs cs k (bad p) e same =
      let seen : Same bs cs (looked (first bs k)) = subst (λ r. Same bs cs (looked r)) (sym e) same in
      both_is cs k (bad p) (F.settled bs cs k seen ∙ e)
  settled_by bs cs k (good x j) e same =
      let seen : Same bs cs (looked (first bs k)) = subst (λ r. Same bs cs (looked r)) (sym e) (fewer bs cs j (looked (next x bs j)) ((G x).onward bs j) same) in
      both_is cs k (good x j) (F.settled bs cs k seen ∙ e) ∙ (G x).settled bs cs j same

  cut_by : (bs cs : List ℕ) (k n : ℕ) → k ≤ n → (r : Reading X) → first bs k ≡ r → n < looked (after r (λ x j. next x bs j)) → Same bs cs n → EndsBefore cs n → both cs k ≡ bad n
  cut_by bs cs k n h (bad p) e l same ends = both_is cs k (bad n) (F.cut bs cs k n h (subst (λ r. n < looked r) (sym e) l) same ends)
  cut_by bs cs k n h (good x j) e l same ends = go (cases_lt n j)
    where
      go : (n < j) ⊎ (j ≤ n) → both cs k ≡ bad n
      go (inl before) = both_is cs k (bad n) (F.cut bs cs k n h (subst (λ r. n < looked r) (sym e) before) same ends)
      go (inr beyond) =
          let seen : Same bs cs (looked (first bs k)) = subst (λ r. Same bs cs (looked r)) (sym e) (fewer bs cs j n beyond same) in
          both_is cs k (good x j) (F.settled bs cs k seen ∙ e) ∙ (G x).cut bs cs j n beyond l same ends

  front_after : FromFront both
  front_after =
      record {
        onward = λ bs k. onward_by bs k (first bs k) refl;
        inside = λ bs k h. inside_by bs k h (first bs k) refl;
        settled = λ bs cs k h. settled_by bs cs k (first bs k) refl h;
        cut = λ bs cs k n h g same ends. cut_by bs cs k n h (first bs k) refl g same ends;
      }

front_one : {X Y : Type 0} (make : X → Y) (operand : List ℕ → ℕ → Reading X) → FromFront operand → FromFront (λ bs k. one make (operand bs) k)
front_one make operand F = front_after operand (λ a bs k. good (make a) k) F (λ a. front_done (make a))

front_two : {X Y : Type 0} (make : X → X → Y) (operand : List ℕ → ℕ → Reading X) → FromFront operand → FromFront (λ bs k. two make (operand bs) k)
front_two make operand F = front_after operand (λ a bs k. one (make a) (operand bs) k) F (λ a. front_one (make a) operand F)

pub number_front : (levels : ℕ) (s : Seen) → FromFront (read_number levels s)
unfolding read_number
number_front zero s = front_bad
number_front (suc levels) s = front_after (read_byte number_operator) (λ o bs k. number_operands s bs (read_number levels s bs) o k) (front_byte number_operator) (go (number_front levels s))
  where
    go : FromFront (read_number levels s) → (o : NumberOperation) → FromFront (λ bs k. number_operands s bs (read_number levels s bs) o k)
    go deeper constant_follows = front_byte as_constant
    go deeper old_name_follows = front_byte (as_name old_value s.old)
    go deeper new_name_follows = front_byte (as_name new_value s.new)
    go deeper plus = front_two sum (read_number levels s) deeper
    go deeper minus = front_two difference (read_number levels s) deeper

pub truth_front : (levels : ℕ) (s : Seen) → FromFront (read_truth levels s)
unfolding read_truth
truth_front zero s = front_bad
truth_front (suc levels) s = front_after (read_byte truth_operator) (λ o bs k. truth_operands (read_number levels s bs) (read_truth levels s bs) o k) (front_byte truth_operator) (go (truth_front levels s))
  where
    go : FromFront (read_truth levels s) → (o : TruthOperation) → FromFront (λ bs k. truth_operands (read_number levels s bs) (read_truth levels s bs) o k)
    go deeper equals = front_two equal (read_number levels s) (number_front levels s)
    go deeper less_than = front_two less (read_number levels s) (number_front levels s)
    go deeper not_follows = front_one negation (read_truth levels s) deeper
    go deeper and_follows = front_two conjunction (read_truth levels s) deeper
    go deeper or_follows = front_two disjunction (read_truth levels s) deeper
    go deeper is_true = front_done always

pub expressions_are_read_from_the_front : ExpressionsAreReadFromTheFront
expressions_are_read_from_the_front = record { numbers = number_front; truths = truth_front }
