-- Reading back what was written, and what the values of numbers can be.
use Rattle.std.proofs.Common.{◌≡◌, ℕ, zero, suc, ◌+◌, ◌<◌, ◌≤◌, max, Bool, true, false, cond, ◌&&◌, T, eqb, ltb, leb, List, [], ◌++◌, length, ℤ, pos, negsuc, ◌<ℤ◌, Some, Decides, Option, sym, refl, ap, ◌∙◌, subst, zero-le, zero-add, arith, lit≤}
use lib.IntN.{pos-ne-negsuc}
use lib.Signed.{lt_z}
use Rattle.std.proofs.ByRecursion.{All-append}
use Rattle.std.proofs.lemmas.List.{length-append, append-nil, append_cancel_left, drop_all}
use Rattle.std.proofs.lemmas.Bool.{and_from, and_parts, ltb-true, leb-true, le-leb, eqb-true, eq-eqb, cond-true, false≢true}
use Rattle.std.specs.List.{AllByRecursion as All}
use Rattle.language.specs.laws.Expressions.{Stands, stands_left, stands_right, number_read, truth_read, number_low, number_high, number_by_sight, truth_by_sight}
use Rattle.language.specs.Expressions.{Number, constant, old_value, new_value, sum, difference, Truth, equal, less, negation, conjunction, disjunction, always, number_bytes, truth_bytes, number_levels, truth_levels, number_value, eqZ, Seen, number_sees, truth_sees, number_right, truth_right, byte_at, Reading, good, bad, after, judged, good_byte, read_byte, one, two, number_operator, truth_operator, as_constant, as_name, number_operands, read_number, truth_operands, read_truth, to_the_end}
use Rattle.language.specs.Fronts.{Inside}
use Rattle.language.specs.Statements.{ExpressionsReadBack, ReadingsAreWritten, FormsArePrefixFree, WholeExpressionsAreWritten, ValuesStayInRange, ComparisonsAreExact, ValuesGoBySight}
use Rattle.language.specs.laws.Reading.{end_read}
use Rattle.language.proofs.Bytes.{stands_from, stands_drop}
use Rattle.language.proofs.Fronts.{number_front, truth_front}

pub byte_good : {X : Type 0} (judge : ℕ → Option X) (bs : List ℕ) (k b : ℕ) (x : X) → byte_at bs k ≡ Some b → judge b ≡ Some x → read_byte judge bs k ≡ good x (k + 1)
byte_good judge bs k b x e h = ap (λ o. good_byte (judged judge o) k) e ∙ ap (λ o. good_byte o k) h

pub one_good : {X Y : Type 0} (make : X → Y) (operand : ℕ → Reading X) (k : ℕ) (a : X) (end : ℕ) → operand k ≡ good a end → one make operand k ≡ good (make a) end
one_good make operand k a end e = ap (λ r. after r (λ a end. good (make a) end)) e

pub two_good : {X Y : Type 0} (make : X → X → Y) (operand : ℕ → Reading X) (k : ℕ) (a : X) (next : ℕ) (b : X) (end : ℕ) → operand k ≡ good a next → operand next ≡ good b end → two make operand k ≡ good (make a b) end
two_good make operand k a next b end e h = ap (λ r. after r (λ a. one (make a) operand)) e ∙ one_good (make a) operand next b end h

two_right : (la lb levels : ℕ) (x y : Bool) → (leb (suc (max la lb)) (suc levels) && (x && y)) ≡ true → ((leb la levels && x) ≡ true) × ((leb lb levels && y) ≡ true)
two_right la lb levels x y h =
    let p = and_parts (leb (suc (max la lb)) (suc levels)) (x && y) h in let q = and_parts x y p.1 in
    let under : suc (max la lb) ≤ suc levels = leb-true _ _ p.0 in
    (and_from _ _ (le-leb la levels (omega arith)) q.0, and_from _ _ (le-leb lb levels (omega arith)) q.1)

number_level : (e : Number) → 1 ≤ number_levels e
number_level (constant v) = lit≤ tt
number_level (old_value n) = lit≤ tt
number_level (new_value n) = lit≤ tt
number_level (sum a b) = omega arith
number_level (difference a b) = omega arith

truth_level : (p : Truth) → 1 ≤ truth_levels p
truth_level (equal a b) = omega arith
truth_level (less a b) = omega arith
truth_level (negation p) = omega arith
truth_level (conjunction p q) = omega arith
truth_level (disjunction p q) = omega arith
truth_level always = lit≤ tt

-- a number that stands there is read
pub number_good : (levels : ℕ) (s : Seen) (bs : List ℕ) (k : ℕ) (e : Number) → number_right levels s e ≡ true → Stands bs k (number_bytes e) → read_number levels s bs k ≡ good e (k + length (number_bytes e))
unfolding read_number
number_good zero s bs k e h stands = absurd (omega (arith, number_level e, leb-true (number_levels e) 0 (and_parts (leb (number_levels e) 0) (number_sees s e) h).0))
number_good (suc levels) s bs k e h stands = go e h stands (number_good levels s bs)
  where
    Deeper : Type 0
    Deeper = (k : ℕ) (e : Number) → number_right levels s e ≡ true → Stands bs k (number_bytes e) → read_number levels s bs k ≡ good e (k + length (number_bytes e))

    after_byte : (code : ℕ) (r : Reading Number) → byte_at bs k ≡ Some code → after (good_byte (number_operator code) k) (number_operands s bs (read_number levels s bs)) ≡ r → after (read_byte number_operator bs k) (number_operands s bs (read_number levels s bs)) ≡ r
    after_byte code r here e = ap (λ o. after (good_byte (judged number_operator o) k) (number_operands s bs (read_number levels s bs))) here ∙ e

    ended : (e : Number) (i j : ℕ) → i ≡ j → good e i ≡ good e j
    ended e i j h = ap (good e) h

    both : (make : Number → Number → Number) (a b : Number) → ((leb (suc (max (number_levels a) (number_levels b))) (suc levels)) && (number_sees s a && number_sees s b)) ≡ true → Stands bs (k + 1) (number_bytes a ++ number_bytes b) → Deeper → two make (read_number levels s bs) (k + 1) ≡ good (make a b) (k + suc (length (number_bytes a ++ number_bytes b)))
    both make a b h stands deeper =
        let right = two_right (number_levels a) (number_levels b) levels (number_sees s a) (number_sees s b) h in
        let next : ℕ = k + 1 + length (number_bytes a) in
        two_good make (read_number levels s bs) (k + 1) a next b (next + length (number_bytes b)) (deeper (k + 1) a right.0 (stands_left bs (k + 1) (number_bytes a) (number_bytes b) stands)) (deeper next b right.1 (stands_right bs (k + 1) next (number_bytes a) (number_bytes b) refl stands))
        ∙ ended (make a b) _ _ (omega (arith, length-append (number_bytes a) (number_bytes b)))

    go : (e : Number) → number_right (suc levels) s e ≡ true → Stands bs k (number_bytes e) → Deeper → after (read_byte number_operator bs k) (number_operands s bs (read_number levels s bs)) ≡ good e (k + length (number_bytes e))
    go (constant v) h stands deeper = after_byte 0 _ stands.0 (byte_good as_constant bs (k + 1) v (constant v) stands.1.0 refl ∙ ended (constant v) _ _ (omega arith))
    go (old_value n) h stands deeper =
        let seen = (and_parts (ltb n 256) (s.old n) (and_parts (leb 1 (suc levels)) (ltb n 256 && s.old n) h).1).1 in
        after_byte 1 _ stands.0 (byte_good (as_name old_value s.old) bs (k + 1) n (old_value n) stands.1.0 (cond-true _ _ _ seen) ∙ ended (old_value n) _ _ (omega arith))
    go (new_value n) h stands deeper =
        let seen = (and_parts (ltb n 256) (s.new n) (and_parts (leb 1 (suc levels)) (ltb n 256 && s.new n) h).1).1 in
        after_byte 2 _ stands.0 (byte_good (as_name new_value s.new) bs (k + 1) n (new_value n) stands.1.0 (cond-true _ _ _ seen) ∙ ended (new_value n) _ _ (omega arith))
    go (sum a b) h stands deeper = after_byte 3 _ stands.0 (both sum a b h stands.1 deeper)
    go (difference a b) h stands deeper = after_byte 4 _ stands.0 (both difference a b h stands.1 deeper)

pub truth_good : (levels : ℕ) (s : Seen) (bs : List ℕ) (k : ℕ) (p : Truth) → truth_right levels s p ≡ true → Stands bs k (truth_bytes p) → read_truth levels s bs k ≡ good p (k + length (truth_bytes p))
unfolding read_truth
truth_good zero s bs k p h stands = absurd (omega (arith, truth_level p, leb-true (truth_levels p) 0 (and_parts (leb (truth_levels p) 0) (truth_sees s p) h).0))
truth_good (suc levels) s bs k p h stands = go p h stands (truth_good levels s bs)
  where
    Deeper : Type 0
    Deeper = (k : ℕ) (p : Truth) → truth_right levels s p ≡ true → Stands bs k (truth_bytes p) → read_truth levels s bs k ≡ good p (k + length (truth_bytes p))

    after_byte : (code : ℕ) (r : Reading Truth) → byte_at bs k ≡ Some code → after (good_byte (truth_operator code) k) (truth_operands (read_number levels s bs) (read_truth levels s bs)) ≡ r → after (read_byte truth_operator bs k) (truth_operands (read_number levels s bs) (read_truth levels s bs)) ≡ r
    after_byte code r here e = ap (λ o. after (good_byte (judged truth_operator o) k) (truth_operands (read_number levels s bs) (read_truth levels s bs))) here ∙ e

    ended : (p : Truth) (i j : ℕ) → i ≡ j → good p i ≡ good p j
    ended p i j h = ap (good p) h

    numbers : (make : Number → Number → Truth) (a b : Number) → ((leb (suc (max (number_levels a) (number_levels b))) (suc levels)) && (number_sees s a && number_sees s b)) ≡ true → Stands bs (k + 1) (number_bytes a ++ number_bytes b) → two make (read_number levels s bs) (k + 1) ≡ good (make a b) (k + suc (length (number_bytes a ++ number_bytes b)))
    numbers make a b h stands =
        let right = two_right (number_levels a) (number_levels b) levels (number_sees s a) (number_sees s b) h in
        let next : ℕ = k + 1 + length (number_bytes a) in
        two_good make (read_number levels s bs) (k + 1) a next b (next + length (number_bytes b)) (number_good levels s bs (k + 1) a right.0 (stands_left bs (k + 1) (number_bytes a) (number_bytes b) stands)) (number_good levels s bs next b right.1 (stands_right bs (k + 1) next (number_bytes a) (number_bytes b) refl stands))
        ∙ ended (make a b) _ _ (omega (arith, length-append (number_bytes a) (number_bytes b)))

    both : (make : Truth → Truth → Truth) (a b : Truth) → ((leb (suc (max (truth_levels a) (truth_levels b))) (suc levels)) && (truth_sees s a && truth_sees s b)) ≡ true → Stands bs (k + 1) (truth_bytes a ++ truth_bytes b) → Deeper → two make (read_truth levels s bs) (k + 1) ≡ good (make a b) (k + suc (length (truth_bytes a ++ truth_bytes b)))
    both make a b h stands deeper =
        let right = two_right (truth_levels a) (truth_levels b) levels (truth_sees s a) (truth_sees s b) h in
        let next : ℕ = k + 1 + length (truth_bytes a) in
        two_good make (read_truth levels s bs) (k + 1) a next b (next + length (truth_bytes b)) (deeper (k + 1) a right.0 (stands_left bs (k + 1) (truth_bytes a) (truth_bytes b) stands)) (deeper next b right.1 (stands_right bs (k + 1) next (truth_bytes a) (truth_bytes b) refl stands))
        ∙ ended (make a b) _ _ (omega (arith, length-append (truth_bytes a) (truth_bytes b)))

    go : (p : Truth) → truth_right (suc levels) s p ≡ true → Stands bs k (truth_bytes p) → Deeper → after (read_byte truth_operator bs k) (truth_operands (read_number levels s bs) (read_truth levels s bs)) ≡ good p (k + length (truth_bytes p))
    go (equal a b) h stands deeper = after_byte 16 _ stands.0 (numbers equal a b h stands.1)
    go (less a b) h stands deeper = after_byte 17 _ stands.0 (numbers less a b h stands.1)
    go (negation p) h stands deeper =
        let parts = and_parts (leb (suc (truth_levels p)) (suc levels)) (truth_sees s p) h in
        let under : truth_levels p ≤ levels = omega (arith, leb-true (suc (truth_levels p)) (suc levels) parts.0) in
        after_byte 18 _ stands.0 (one_good negation (read_truth levels s bs) (k + 1) p _ (deeper (k + 1) p (and_from _ _ (le-leb _ _ under) parts.1) stands.1) ∙ ended (negation p) _ _ (omega arith))
    go (conjunction p q) h stands deeper = after_byte 19 _ stands.0 (both conjunction p q h stands.1 deeper)
    go (disjunction p q) h stands deeper = after_byte 20 _ stands.0 (both disjunction p q h stands.1 deeper)
    go always h stands deeper = after_byte 21 _ stands.0 refl

-- a right expression is written in bytes
pub number_in_bytes : (s : Seen) (e : Number) → number_sees s e ≡ true → All (λ b. b < 256) (number_bytes e)
number_in_bytes s (constant v) h = (lit≤ tt, (ltb-true v 256 h, tt))
number_in_bytes s (old_value n) h = (lit≤ tt, (ltb-true n 256 (and_parts (ltb n 256) (s.old n) h).0, tt))
number_in_bytes s (new_value n) h = (lit≤ tt, (ltb-true n 256 (and_parts (ltb n 256) (s.new n) h).0, tt))
number_in_bytes s (sum a b) h =
    let both = and_parts (number_sees s a) (number_sees s b) h in (lit≤ tt, All-append (λ b. b < 256) (number_bytes a) (number_bytes b) (number_in_bytes s a both.0) (number_in_bytes s b both.1))
number_in_bytes s (difference a b) h =
    let both = and_parts (number_sees s a) (number_sees s b) h in (lit≤ tt, All-append (λ b. b < 256) (number_bytes a) (number_bytes b) (number_in_bytes s a both.0) (number_in_bytes s b both.1))

pub truth_in_bytes : (s : Seen) (p : Truth) → truth_sees s p ≡ true → All (λ b. b < 256) (truth_bytes p)
truth_in_bytes s (equal a b) h =
    let both = and_parts (number_sees s a) (number_sees s b) h in (lit≤ tt, All-append (λ b. b < 256) (number_bytes a) (number_bytes b) (number_in_bytes s a both.0) (number_in_bytes s b both.1))
truth_in_bytes s (less a b) h =
    let both = and_parts (number_sees s a) (number_sees s b) h in (lit≤ tt, All-append (λ b. b < 256) (number_bytes a) (number_bytes b) (number_in_bytes s a both.0) (number_in_bytes s b both.1))
truth_in_bytes s (negation p) h = (lit≤ tt, truth_in_bytes s p h)
truth_in_bytes s (conjunction p q) h =
    let both = and_parts (truth_sees s p) (truth_sees s q) h in (lit≤ tt, All-append (λ b. b < 256) (truth_bytes p) (truth_bytes q) (truth_in_bytes s p both.0) (truth_in_bytes s q both.1))
truth_in_bytes s (disjunction p q) h =
    let both = and_parts (truth_sees s p) (truth_sees s q) h in (lit≤ tt, All-append (λ b. b < 256) (truth_bytes p) (truth_bytes q) (truth_in_bytes s p both.0) (truth_in_bytes s q both.1))
truth_in_bytes s always h = (lit≤ tt, tt)

pub expressions_read_back : ExpressionsReadBack
expressions_read_back =
    record {
      numbers = λ levels s bs k e rest h stands. number_good levels s bs k e h (stands_from bs k (number_bytes e) rest stands (number_in_bytes s e (and_parts (leb (number_levels e) levels) (number_sees s e) h).1));
      truths = λ levels s bs k p rest h stands. truth_good levels s bs k p h (stands_from bs k (truth_bytes p) rest stands (truth_in_bytes s p (and_parts (leb (truth_levels p) levels) (truth_sees s p) h).1));
    }

pub readings_are_written : ReadingsAreWritten
readings_are_written =
    record {
      numbers = λ levels s bs k e end h.
          let r = number_read levels s bs k e end h in (r.passes, record { form_stands = stands_drop bs k end (number_bytes e) r.stands r.ends; ends = r.ends });
      truths = λ levels s bs k p end h.
          let r = truth_read levels s bs k p end h in (r.passes, record { form_stands = stands_drop bs k end (truth_bytes p) r.stands r.ends; ends = r.ends });
    }

-- both are read from one byte string
pub forms_are_prefix_free : FormsArePrefixFree
forms_are_prefix_free =
    record {
      numbers = λ levels s e f xs ys h g same.
          let first = expressions_read_back.numbers levels s (number_bytes e ++ xs) 0 e xs h refl in
          let second = expressions_read_back.numbers levels s (number_bytes e ++ xs) 0 f ys g same in
          let equal : e ≡ f = cc (first, second) in
          (equal, append_cancel_left (number_bytes e) xs ys (same ∙ ap (λ x. number_bytes x ++ ys) (sym equal)));
      truths = λ levels s p q xs ys h g same.
          let first = expressions_read_back.truths levels s (truth_bytes p ++ xs) 0 p xs h refl in
          let second = expressions_read_back.truths levels s (truth_bytes p ++ xs) 0 q ys g same in
          let equal : p ≡ q = cc (first, second) in
          (equal, append_cancel_left (truth_bytes p) xs ys (same ∙ ap (λ x. truth_bytes x ++ ys) (sym equal)));
    }

-- a written form stands at the front of itself
pub itself : (xs : List ℕ) → All (λ b. b < 256) xs → Stands xs 0 xs
itself xs h = stands_from xs 0 xs [] (sym (append-nil xs)) h

to_end : {X : Type 0} (x : X) (n : ℕ) (r : Reading X) → r ≡ good x (0 + n) → to_the_end n r ≡ good x n
to_end x n r e = ap (to_the_end n) (e ∙ ap (good x) (zero-add n)) ∙ cond-true _ _ _ (eq-eqb n n refl)

all_of : (bs form : List ℕ) (end : ℕ) → Stands bs 0 form → end ≡ 0 + length form → end ≡ length bs → bs ≡ form
all_of bs form end stands ends all =
    stands_drop bs 0 end form stands ends ∙ ap (λ l. form ++ l) (drop_all end bs (omega arith)) ∙ append-nil form

pub end_placed : {X : Type 0} (all : ℕ) (r : Reading X) (place : ℕ) → Inside all r → to_the_end all r ≡ bad place → place ≤ all
end_placed all (bad p) place h e = let same : p ≡ place = cc in omega arith
end_placed {X} all (good x end) place h e = go (eqb end all) e
  where
    go : (t : Bool) → cond t (good x end) (bad end) ≡ bad place → place ≤ all
    go true e = let z : ◌≡◌ {A = ℕ} 0 1 = cc in absurd (omega arith)
    go false e = let same : end ≡ place = cc in omega arith

pub whole_expressions_are_written : WholeExpressionsAreWritten
whole_expressions_are_written =
    record {
      numbers = λ levels s e h.
          to_end e (length (number_bytes e)) (read_number levels s (number_bytes e) 0) (number_good levels s (number_bytes e) 0 e h (itself (number_bytes e) (number_in_bytes s e (and_parts (leb (number_levels e) levels) (number_sees s e) h).1)));
      numbers_only = λ levels s bs e end h.
          let r = end_read (length bs) (read_number levels s bs 0) e end h in let q = number_read levels s bs 0 e end r.0 in
          (q.passes, all_of bs (number_bytes e) end q.stands q.ends r.1, r.1);
      number_faults = λ levels s bs place h. end_placed (length bs) (read_number levels s bs 0) place ((number_front levels s).inside bs 0 zero-le) h;
      truths = λ levels s p h.
          to_end p (length (truth_bytes p)) (read_truth levels s (truth_bytes p) 0) (truth_good levels s (truth_bytes p) 0 p h (itself (truth_bytes p) (truth_in_bytes s p (and_parts (leb (truth_levels p) levels) (truth_sees s p) h).1)));
      truths_only = λ levels s bs p end h.
          let r = end_read (length bs) (read_truth levels s bs 0) p end h in let q = truth_read levels s bs 0 p end r.0 in
          (q.passes, all_of bs (truth_bytes p) end q.stands q.ends r.1, r.1);
      truth_faults = λ levels s bs place h. end_placed (length bs) (read_truth levels s bs 0) place ((truth_front levels s).inside bs 0 zero-le) h;
    }

pub eqZ_decides : (a b : ℤ) → Decides (eqZ a b) (a ≡ b)
eqZ_decides (pos a) (pos b) = (λ h. ap pos (eqb-true a b h), λ h. let same : a ≡ b = cc in eq-eqb a b same)
eqZ_decides (pos a) (negsuc b) = (λ h. absurd (false≢true h), λ h. absurd (pos-ne-negsuc a b h))
eqZ_decides (negsuc a) (pos b) = (λ h. absurd (false≢true h), λ h. absurd (pos-ne-negsuc b a (sym h)))
eqZ_decides (negsuc a) (negsuc b) = (λ h. ap negsuc (eqb-true a b h), λ h. let same : a ≡ b = cc in eq-eqb a b same)

pub ltZ_decides : (a b : ℤ) → Decides (lt_z a b) (a <ℤ b)
ltZ_decides a b = (λ h. record { lt = subst T (sym h) tt }, λ h. true_of (lt_z a b) h.lt)
  where
    true_of : (t : Bool) → T t → t ≡ true
    true_of true h = refl
    true_of false h = absurd h

pub comparisons_are_exact : ComparisonsAreExact
comparisons_are_exact = record { equality = λ a b old new. eqZ_decides (number_value a old new) (number_value b old new); order = λ a b old new. ltZ_decides (number_value a old new) (number_value b old new) }

abbrev twice : Number → Number
twice e = sum e e

abbrev four : Number
four = twice (twice (constant 255))

abbrev twenty : Number
twenty = sum (twice (twice four)) four

pub values_stay_in_range : ValuesStayInRange
values_stay_in_range =
    record {
      low = number_low;
      high = number_high;
      lowest = record { number = difference (constant 0) twenty; right = refl; short = lit≤ tt; reached = λ old new. refl };
      highest = record { number = sum twenty (constant 255); right = refl; short = lit≤ tt; reached = λ old new. refl };
    }

pub values_go_by_sight : ValuesGoBySight
values_go_by_sight =
    record {
      numbers = λ s e old new old' new' alike h. number_by_sight s old new old' new' alike e h;
      truths = λ s p old new old' new' alike h. truth_by_sight s old new old' new' alike p h;
    }
