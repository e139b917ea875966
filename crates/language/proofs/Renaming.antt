-- Exchanging two names in an expression.
use Rattle.std.proofs.Common.{◌≡◌, ℕ, suc, ◌<◌, max, Bool, true, not, ◌&&◌, ◌||◌, ltb, leb, List, ◌∷◌, ◌++◌, length, ◌+ℤ◌, ◌-ℤ◌, sym, refl, ap, ◌∙◌, ap₂, arith}
use lib.Signed.{lt_z}
use Rattle.std.proofs.lemmas.List.{length-append, append_assoc}
use Rattle.std.proofs.lemmas.Bool.{and_from, and_parts, ltb-true, lt-ltb}
use Rattle.std.proofs.lemmas.Bool.Decides.{nat_tests}
use Rattle.model.specs.Meanings.{Valuation}
use Rattle.language.specs.Expressions.{Number, constant, old_value, new_value, sum, difference, Truth, equal, less, negation, conjunction, disjunction, always, number_bytes, truth_bytes, number_levels, truth_levels, number_value, truth_value, eqZ, Seen, number_sees, truth_sees, swapped, seen_swapped, number_renamed, truth_renamed, operator, bytes_renamed}
use Rattle.model.specs.Exchange.{exchange}
use Rattle.language.specs.Statements.{RenamingExchangesNames}

pub swap_swap : (a b n : ℕ) → exchange a b (exchange a b n) ≡ n
swap_swap a b n = grind (arith, nat_tests)

pub swap_small : (a b n : ℕ) → a < 256 → b < 256 → n < 256 → exchange a b n < 256
swap_small a b n h g l = grind (arith, nat_tests)

module _ (a b : ℕ) where
  number_value_renamed : (e : Number) (old new : Valuation) → number_value (number_renamed a b e) old new ≡ number_value e (swapped a b old) (swapped a b new)
  number_value_renamed (constant v) old new = refl
  number_value_renamed (old_value n) old new = refl
  number_value_renamed (new_value n) old new = refl
  number_value_renamed (sum x y) old new = ap₂ (λ p q. p +ℤ q) (number_value_renamed x old new) (number_value_renamed y old new)
  number_value_renamed (difference x y) old new = ap₂ (λ p q. p -ℤ q) (number_value_renamed x old new) (number_value_renamed y old new)

  truth_value_renamed : (p : Truth) (old new : Valuation) → truth_value (truth_renamed a b p) old new ≡ truth_value p (swapped a b old) (swapped a b new)
  truth_value_renamed (equal x y) old new = ap₂ eqZ (number_value_renamed x old new) (number_value_renamed y old new)
  truth_value_renamed (less x y) old new = ap₂ lt_z (number_value_renamed x old new) (number_value_renamed y old new)
  truth_value_renamed (negation p) old new = ap not (truth_value_renamed p old new)
  truth_value_renamed (conjunction p q) old new = ap₂ (λ x y. x && y) (truth_value_renamed p old new) (truth_value_renamed q old new)
  truth_value_renamed (disjunction p q) old new = ap₂ (λ x y. x || y) (truth_value_renamed p old new) (truth_value_renamed q old new)
  truth_value_renamed always old new = refl

  -- two operands, one after the other
  both_forms : (code : ℕ) (x y x' y' rest : List ℕ) → ((more : List ℕ) → bytes_renamed a b operator (x ++ more) ≡ x' ++ bytes_renamed a b operator more) → ((more : List ℕ) → bytes_renamed a b operator (y ++ more) ≡ y' ++ bytes_renamed a b operator more) → code ∷ bytes_renamed a b operator ((x ++ y) ++ rest) ≡ (code ∷ (x' ++ y')) ++ bytes_renamed a b operator rest
  both_forms code x y x' y' rest h g =
      ap (λ l. code ∷ l) (ap (bytes_renamed a b operator) (append_assoc x y rest) ∙ h (y ++ rest) ∙ ap (λ l. x' ++ l) (g rest) ∙ sym (append_assoc x' y' (bytes_renamed a b operator rest)))

  number_form : (e : Number) (rest : List ℕ) → bytes_renamed a b operator (number_bytes e ++ rest) ≡ number_bytes (number_renamed a b e) ++ bytes_renamed a b operator rest
  number_form (constant v) rest = refl
  number_form (old_value n) rest = refl
  number_form (new_value n) rest = refl
  number_form (sum x y) rest = both_forms 3 (number_bytes x) (number_bytes y) _ _ rest (number_form x) (number_form y)
  number_form (difference x y) rest = both_forms 4 (number_bytes x) (number_bytes y) _ _ rest (number_form x) (number_form y)

  truth_form : (p : Truth) (rest : List ℕ) → bytes_renamed a b operator (truth_bytes p ++ rest) ≡ truth_bytes (truth_renamed a b p) ++ bytes_renamed a b operator rest
  truth_form (equal x y) rest = both_forms 16 (number_bytes x) (number_bytes y) _ _ rest (number_form x) (number_form y)
  truth_form (less x y) rest = both_forms 17 (number_bytes x) (number_bytes y) _ _ rest (number_form x) (number_form y)
  truth_form (negation p) rest = ap (λ l. 18 ∷ l) (truth_form p rest)
  truth_form (conjunction p q) rest = both_forms 19 (truth_bytes p) (truth_bytes q) _ _ rest (truth_form p) (truth_form q)
  truth_form (disjunction p q) rest = both_forms 20 (truth_bytes p) (truth_bytes q) _ _ rest (truth_form p) (truth_form q)
  truth_form always rest = refl

  both_lengths : (x y x' y' : List ℕ) → length x' ≡ length x → length y' ≡ length y → suc (length (x' ++ y')) ≡ suc (length (x ++ y))
  both_lengths x y x' y' h g = omega (arith, length-append x y, length-append x' y')

  number_length_kept : (e : Number) → length (number_bytes (number_renamed a b e)) ≡ length (number_bytes e)
  number_length_kept (constant v) = refl
  number_length_kept (old_value n) = refl
  number_length_kept (new_value n) = refl
  number_length_kept (sum x y) = both_lengths (number_bytes x) (number_bytes y) _ _ (number_length_kept x) (number_length_kept y)
  number_length_kept (difference x y) = both_lengths (number_bytes x) (number_bytes y) _ _ (number_length_kept x) (number_length_kept y)

  truth_length_kept : (p : Truth) → length (truth_bytes (truth_renamed a b p)) ≡ length (truth_bytes p)
  truth_length_kept (equal x y) = both_lengths (number_bytes x) (number_bytes y) _ _ (number_length_kept x) (number_length_kept y)
  truth_length_kept (less x y) = both_lengths (number_bytes x) (number_bytes y) _ _ (number_length_kept x) (number_length_kept y)
  truth_length_kept (negation p) = ap suc (truth_length_kept p)
  truth_length_kept (conjunction p q) = both_lengths (truth_bytes p) (truth_bytes q) _ _ (truth_length_kept p) (truth_length_kept q)
  truth_length_kept (disjunction p q) = both_lengths (truth_bytes p) (truth_bytes q) _ _ (truth_length_kept p) (truth_length_kept q)
  truth_length_kept always = refl

  number_levels_kept : (e : Number) → number_levels (number_renamed a b e) ≡ number_levels e
  number_levels_kept (constant v) = refl
  number_levels_kept (old_value n) = refl
  number_levels_kept (new_value n) = refl
  number_levels_kept (sum x y) = ap₂ (λ l m. suc (max l m)) (number_levels_kept x) (number_levels_kept y)
  number_levels_kept (difference x y) = ap₂ (λ l m. suc (max l m)) (number_levels_kept x) (number_levels_kept y)

  truth_levels_kept : (p : Truth) → truth_levels (truth_renamed a b p) ≡ truth_levels p
  truth_levels_kept (equal x y) = ap₂ (λ l m. suc (max l m)) (number_levels_kept x) (number_levels_kept y)
  truth_levels_kept (less x y) = ap₂ (λ l m. suc (max l m)) (number_levels_kept x) (number_levels_kept y)
  truth_levels_kept (negation p) = ap suc (truth_levels_kept p)
  truth_levels_kept (conjunction p q) = ap₂ (λ l m. suc (max l m)) (truth_levels_kept p) (truth_levels_kept q)
  truth_levels_kept (disjunction p q) = ap₂ (λ l m. suc (max l m)) (truth_levels_kept p) (truth_levels_kept q)
  truth_levels_kept always = refl

  module _ (s : Seen) (ha : a < 256) (hb : b < 256) where
    both_pass : (x y x' y' : Bool) → (x ≡ true → x' ≡ true) → (y ≡ true → y' ≡ true) → (x && y) ≡ true → (x' && y') ≡ true
    both_pass x y x' y' f g h = let p = and_parts x y h in and_from x' y' (f p.0) (g p.1)

    name_sees : (seen : ℕ → Bool) (n : ℕ) → (ltb n 256 && seen n) ≡ true → (ltb (exchange a b n) 256 && swapped a b seen (exchange a b n)) ≡ true
    name_sees seen n h =
        let p = and_parts (ltb n 256) (seen n) h in
        and_from _ _ (lt-ltb (exchange a b n) 256 (swap_small a b n ha hb (ltb-true n 256 p.0))) (ap seen (swap_swap a b n) ∙ p.1)

    number_sees_renamed : (e : Number) → number_sees s e ≡ true → number_sees (seen_swapped a b s) (number_renamed a b e) ≡ true
    number_sees_renamed (constant v) h = h
    number_sees_renamed (old_value n) h = name_sees s.old n h
    number_sees_renamed (new_value n) h = name_sees s.new n h
    number_sees_renamed (sum x y) h = both_pass _ _ _ _ (number_sees_renamed x) (number_sees_renamed y) h
    number_sees_renamed (difference x y) h = both_pass _ _ _ _ (number_sees_renamed x) (number_sees_renamed y) h

    truth_sees_renamed : (p : Truth) → truth_sees s p ≡ true → truth_sees (seen_swapped a b s) (truth_renamed a b p) ≡ true
    truth_sees_renamed (equal x y) h = both_pass _ _ _ _ (number_sees_renamed x) (number_sees_renamed y) h
    truth_sees_renamed (less x y) h = both_pass _ _ _ _ (number_sees_renamed x) (number_sees_renamed y) h
    truth_sees_renamed (negation p) h = truth_sees_renamed p h
    truth_sees_renamed (conjunction p q) h = both_pass _ _ _ _ (truth_sees_renamed p) (truth_sees_renamed q) h
    truth_sees_renamed (disjunction p q) h = both_pass _ _ _ _ (truth_sees_renamed p) (truth_sees_renamed q) h
    truth_sees_renamed always h = refl

pub renaming_exchanges_names : RenamingExchangesNames
renaming_exchanges_names =
    record {
      number_values = number_value_renamed;
      truth_values = truth_value_renamed;
      number_forms = number_form;
      truth_forms = truth_form;
      number_lengths = number_length_kept;
      truth_lengths = truth_length_kept;
      numbers_stay_right = λ a b levels s e ha hb h.
          let p = and_parts (leb (number_levels e) levels) (number_sees s e) h in
          and_from _ _ (ap (λ l. leb l levels) (number_levels_kept a b e) ∙ p.0) (number_sees_renamed a b s ha hb e p.1);
      truths_stay_right = λ a b levels s q ha hb h.
          let p = and_parts (leb (truth_levels q) levels) (truth_sees s q) h in
          and_from _ _ (ap (λ l. leb l levels) (truth_levels_kept a b q) ∙ p.0) (truth_sees_renamed a b s ha hb q p.1);
    }
