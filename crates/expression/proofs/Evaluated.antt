-- What a right expression is worth does not depend on the names that are seen.
use Rattle.std.proofs.Common.{◌≡◌, ℕ, ◌≤◌, Bool, true, false, ◌&&◌, ltb, leb, List, length, ℤ, pos, negsuc, ◌≤ℤ◌, sym, refl, ap, ◌∙◌, subst, arith}
use borrow.Author.Differences.{ints}
use Rattle.std.proofs.lemmas.Bool.{and_from, and_parts}
use Rattle.language.proofs.Expressions.{number_good, truth_good, whole_expressions_are_written}
use Rattle.language.specs.laws.Expressions.{number_read, truth_read, bad_good, number_low, number_high}
use Rattle.language.specs.Expressions.{Number, constant, old_value, new_value, sum, difference, Truth, equal, less, negation, conjunction, disjunction, always, number_bytes, number_levels, truth_levels, number_value, truth_value, Seen, number_sees, truth_sees, Reading, good, bad, read_number, read_truth, to_the_end, whole_number, whole_truth}
use Rattle.model.specs.Meanings.{AreBytes}
use Rattle.model.specs.States.{value}
use Rattle.expression.specs.Evaluation.{everything, number_worth, truth_worth, or_else, evaluated_number, evaluated_truth, NumberEvaluated, TruthEvaluated}

name_seen : (n : ℕ) (t : Bool) → (ltb n 256 && t) ≡ true → (ltb n 256 && true) ≡ true
name_seen n t h = and_from (ltb n 256) true (and_parts (ltb n 256) t h).0 refl

both_seen : (x y x' y' : Bool) → (x ≡ true → x' ≡ true) → (y ≡ true → y' ≡ true) → (x && y) ≡ true → (x' && y') ≡ true
both_seen x y x' y' f g h = let p = and_parts x y h in and_from x' y' (f p.0) (g p.1)

module _ (s : Seen) where
  number_seen : (e : Number) → number_sees s e ≡ true → number_sees everything e ≡ true
  number_seen (constant v) h = h
  number_seen (old_value n) h = name_seen n (s.old n) h
  number_seen (new_value n) h = name_seen n (s.new n) h
  number_seen (sum a b) h = both_seen _ _ _ _ (number_seen a) (number_seen b) h
  number_seen (difference a b) h = both_seen _ _ _ _ (number_seen a) (number_seen b) h

  truth_seen : (p : Truth) → truth_sees s p ≡ true → truth_sees everything p ≡ true
  truth_seen (equal a b) h = both_seen _ _ _ _ (number_seen a) (number_seen b) h
  truth_seen (less a b) h = both_seen _ _ _ _ (number_seen a) (number_seen b) h
  truth_seen (negation p) h = truth_seen p h
  truth_seen (conjunction p q) h = both_seen _ _ _ _ (truth_seen p) (truth_seen q) h
  truth_seen (disjunction p q) h = both_seen _ _ _ _ (truth_seen p) (truth_seen q) h
  truth_seen always h = refl

  number_read_again : (levels : ℕ) (bs : List ℕ) (k : ℕ) (e : Number) (end : ℕ) → read_number levels s bs k ≡ good e end → read_number levels everything bs k ≡ good e end
  number_read_again levels bs k e end h =
      let r = number_read levels s bs k e end h in
      let right = both_seen (leb (number_levels e) levels) (number_sees s e) _ _ (λ x. x) (number_seen e) r.passes in
      number_good levels everything bs k e right r.stands ∙ ap (good e) (sym r.ends)

  truth_read_again : (levels : ℕ) (bs : List ℕ) (k : ℕ) (p : Truth) (end : ℕ) → read_truth levels s bs k ≡ good p end → read_truth levels everything bs k ≡ good p end
  truth_read_again levels bs k p end h =
      let r = truth_read levels s bs k p end h in
      let right = both_seen (leb (truth_levels p) levels) (truth_sees s p) _ _ (λ x. x) (truth_seen p) r.passes in
      truth_good levels everything bs k p right r.stands ∙ ap (good p) (sym r.ends)

-- what is read of a whole byte string, from what is read of its beginning
whole_again : {X : Type 0} (all : ℕ) (r q : Reading X) (x : X) (end : ℕ) → ((y : X) (j : ℕ) → r ≡ good y j → q ≡ good y j) → to_the_end all r ≡ good x end → to_the_end all q ≡ good x end
whole_again all (bad place) q x end f e = bad_good place x end e
whole_again all (good y j) q x end f e = ap (to_the_end all) (f y j refl) ∙ e

module _ (bs old new : List ℕ) where
  pub number_evaluated_read : (s : Seen) (e : Number) (end : ℕ) → whole_number 8 s bs ≡ good e end → evaluated_number bs old new ≡ number_value e (value old) (value new)
  number_evaluated_read s e end h =
      ap (or_else (number_worth old new) (pos 0)) (whole_again (length bs) (read_number 8 s bs 0) (read_number 8 everything bs 0) e end (number_read_again s 8 bs 0) h)

  pub truth_evaluated_read : (s : Seen) (p : Truth) (end : ℕ) → whole_truth 8 s bs ≡ good p end → evaluated_truth bs old new ≡ truth_value p (value old) (value new)
  truth_evaluated_read s p end h =
      ap (or_else (truth_worth old new) false) (whole_again (length bs) (read_truth 8 s bs 0) (read_truth 8 everything bs 0) p end (truth_read_again s 8 bs 0) h)

  number_range : AreBytes (value old) → AreBytes (value new) → length bs ≤ 64 → (negsuc 5099 ≤ℤ evaluated_number bs old new) × (evaluated_number bs old new ≤ℤ pos 5355)
  number_range p q short = go (whole_number 8 everything bs) refl
    where
      go : (r : Reading Number) → whole_number 8 everything bs ≡ r → (negsuc 5099 ≤ℤ or_else (number_worth old new) (pos 0) r) × (or_else (number_worth old new) (pos 0) r ≤ℤ pos 5355)
      go (bad place) h = (omega (arith, ints), omega (arith, ints))
      go (good e end) h =
          let r = whole_expressions_are_written.numbers_only 8 everything bs e end h in
          let sees = (and_parts (leb (number_levels e) 8) (number_sees everything e) r.0).1 in
          let long : length bs ≡ length (number_bytes e) = ap length r.1 in
          let few : length (number_bytes e) ≤ 64 = omega arith in
          (number_low everything e (value old) (value new) sees p q few, number_high everything e (value old) (value new) sees p q few)

  pub number_evaluated : (r : ℤ) → AreBytes (value old) → AreBytes (value new) → r ≡ evaluated_number bs old new → NumberEvaluated bs old new r
  number_evaluated r p q is =
      record {
        written = λ s e h same. is ∙ number_evaluated_read s e _ (ap (whole_number 8 s) same ∙ whole_expressions_are_written.numbers 8 s e h);
        read = λ s e end h. is ∙ number_evaluated_read s e end h;
        low = λ short. subst (λ z. negsuc 5099 ≤ℤ z) (sym is) (number_range p q short).0;
        high = λ short. subst (λ z. z ≤ℤ pos 5355) (sym is) (number_range p q short).1;
      }

  pub truth_evaluated : (r : Bool) → r ≡ evaluated_truth bs old new → TruthEvaluated bs old new r
  truth_evaluated r is =
      record {
        written = λ s p h same. is ∙ truth_evaluated_read s p _ (ap (whole_truth 8 s) same ∙ whole_expressions_are_written.truths 8 s p h);
        read = λ s p end h. is ∙ truth_evaluated_read s p end h;
      }
