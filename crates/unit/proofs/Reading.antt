-- What is read where fewer names are seen is read where all are.
use Rattle.std.proofs.Common.{◌≡◌, ℕ, Bool, true, false, ◌&&◌, ltb, leb, List, length, sym, refl, ap, ap₂, ◌∙◌, subst, arith, suc, [], ◌∷◌, ◌||◌, ◌≤◌, cond, eqb, is_some, Ok, Err, Some, Result}
use Rattle.std.proofs.lemmas.Bool.{and_from, and_parts, lt-ltb, le-ltb, ne_eqb}
use Rattle.std.proofs.lemmas.List.{length-take}
use Rattle.language.proofs.Expressions.{whole_expressions_are_written}
use Rattle.language.specs.Expressions.{Number, constant, old_value, new_value, sum, difference, Truth, equal, less, negation, conjunction, disjunction, always, truth_levels, Seen, number_sees, truth_sees, Reading, good, bad, expression_fault, read_truth, whole_truth}
use Rattle.language.specs.laws.Expressions.{bad_good}
use Rattle.model.specs.Meanings.{Meaning}
use mathlib.Core.Path.{fun_ext}
use Rattle.model.specs.Sets.{has}
use Rattle.expression.specs.Checking.{checked, seen_of}
use Rattle.expression.specs.declared.checking.Seen.{Seen as Names}
use Rattle.units.specs.Units.{claim_reading, claim_sight}
use Rattle.std.specs.Result.{result_ok}
use Rattle.model.specs.Rows.{row_items}
use Rattle.unit.specs.Claims.{claim_made, claim_of, mark_of}
use Rattle.unit.specs.declared.claims.Claim.{Claim}
use Rattle.unit.specs.declared.claims.Mark.TheVariants.{Open}
use Rattle.unit.proofs.Marking.{same_claim}
use Rattle.expression.specs.Evaluation.{everything}
use Rattle.unit.specs.Truths.{is_good, is_truth, read, truth_of}

-- sets of names that hold the names seen
pub seen_same : (s : Names) (t : Seen) → ((n : ℕ) → has s.old n ≡ t.old n) → ((n : ℕ) → has s.new n ≡ t.new n) → seen_of s ≡ t
seen_same s t h g =
    let make : (ℕ → Bool) → (ℕ → Bool) → Seen = λ old new. record { old = old; new = new } in
    ap₂ make (fun_ext h) (fun_ext g)

name_seen : (n : ℕ) (t : Bool) → (ltb n 256 && t) ≡ true → (ltb n 256 && true) ≡ true
name_seen n t h = and_from (ltb n 256) true (and_parts (ltb n 256) t h).0 refl

both_seen : (x y x' y' : Bool) → (x ≡ true → x' ≡ true) → (y ≡ true → y' ≡ true) → (x && y) ≡ true → (x' && y') ≡ true
both_seen x y x' y' f g h = let p = and_parts x y h in and_from x' y' (f p.0) (g p.1)

module _ (s : Seen) where
  number_seen : (e : Number) → number_sees s e ≡ true → number_sees everything e ≡ true
  number_seen (constant v) h = h
  number_seen (old_value n) h = name_seen n (s.old n) h
  number_seen (new_value n) h = name_seen n (s.new n) h
  number_seen (sum a b) h = both_seen _ _ _ _ (number_seen a) (number_seen b) h
  number_seen (difference a b) h = both_seen _ _ _ _ (number_seen a) (number_seen b) h

  truth_seen : (p : Truth) → truth_sees s p ≡ true → truth_sees everything p ≡ true
  truth_seen (equal a b) h = both_seen _ _ _ _ (number_seen a) (number_seen b) h
  truth_seen (less a b) h = both_seen _ _ _ _ (number_seen a) (number_seen b) h
  truth_seen (negation p) h = truth_seen p h
  truth_seen (conjunction p q) h = both_seen _ _ _ _ (truth_seen p) (truth_seen q) h
  truth_seen (disjunction p q) h = both_seen _ _ _ _ (truth_seen p) (truth_seen q) h
  truth_seen always h = refl

  pub read_again : (bs : List ℕ) (p : Truth) (end : ℕ) → whole_truth 8 s bs ≡ good p end → whole_truth 8 everything bs ≡ good p end
  read_again bs p end h =
      let only = whole_expressions_are_written.truths_only 8 s bs p end h in
      let right = both_seen (leb (truth_levels p) 8) (truth_sees s p) _ _ (λ x. x) (truth_seen p) only.0 in
      ap (whole_truth 8 everything) only.1 ∙ whole_expressions_are_written.truths 8 everything p right ∙ ap (good p) (ap length (sym only.1) ∙ sym only.2)

-- bytes that are read as a truth are that truth
pub truth_is : (bs : List ℕ) (p : Truth) (end : ℕ) (h : is_truth bs ≡ true) → whole_truth 8 everything bs ≡ good p end → truth_of bs h ≡ p
truth_is bs p end h e = go (whole_truth 8 everything bs) h e
  where
    go : (r : Reading Truth) (k : is_good r ≡ true) → r ≡ good p end → read r k ≡ p
    go (good q j) k f = cc
    go (bad place) k f = let z : ◌≡◌ {A = ℕ} 0 1 = cc in absurd (omega arith)

and_bound : (b t : Bool) → (t ≡ true → b ≡ true) → (b && t) ≡ t
and_bound b true h = ap (λ x. x && true) (h refl)
and_bound true false h = refl
and_bound false false h = refl

-- names of variables are below 32
pub variables_only : (m : Meaning) (n : ℕ) → (ltb n 32 && is_some (m.outline.kind n)) ≡ is_some (m.outline.kind n)
variables_only m n = and_bound (ltb n 32) (is_some (m.outline.kind n)) (λ e. lt-ltb n 32 (m.outline_laws.names n e))

nothing_read : (s : Seen) → whole_truth 8 s [] ≡ bad 0
unfolding read_truth
nothing_read s = refl

not_nothing : (s : Seen) (bs : List ℕ) (p : Truth) (end : ℕ) → whole_truth 8 s bs ≡ good p end → eqb (length bs) 0 ≡ false
not_nothing s [] p end h = bad_good 0 p end (sym (nothing_read s) ∙ h)
not_nothing s (b ∷ bs) p end h = ne_eqb (suc (length bs)) 0 (omega arith)

-- bytes that pass the check
module _ (m : Meaning) (bs : List ℕ) where
  pub passes : checked (expression_fault (whole_truth 8 (claim_sight m) bs)) ≡ Ok tt → (p : Truth) × (end : ℕ) × (whole_truth 8 (claim_sight m) bs ≡ good p end)
  passes h = go (whole_truth 8 (claim_sight m) bs) refl h
    where
      go : (r : Reading Truth) → whole_truth 8 (claim_sight m) bs ≡ r → checked (expression_fault r) ≡ Ok tt → (p : Truth) × (end : ℕ) × (whole_truth 8 (claim_sight m) bs ≡ good p end)
      go (good p end) e k = (p, end, e)
      go (bad place) e k = let z : ◌≡◌ {A = ℕ} 0 1 = cc in absurd (omega arith)

  pub claim_read : (p : Truth) (end : ℕ) → length bs ≤ 64 → whole_truth 8 (claim_sight m) bs ≡ good p end → claim_reading m bs ≡ good p end
  claim_read p end few h =
      ap (λ b. cond (b || ltb 64 (length bs)) (bad 0) (whole_truth 8 (claim_sight m) bs)) (not_nothing (claim_sight m) bs p end h)
      ∙ ap (λ b. cond b (bad 0) (whole_truth 8 (claim_sight m) bs)) (le-ltb 64 (length bs) few) ∙ h

  -- the check of these bytes, at the names that were found
  pub check_passed : (seen : Seen) (r : Result (Unit {0}) ℕ) → seen ≡ claim_sight m → r ≡ checked (expression_fault (whole_truth 8 seen bs)) → result_ok r ≡ Some tt →
      checked (expression_fault (whole_truth 8 (claim_sight m) bs)) ≡ Ok tt
  check_passed seen (Ok u) same is there = ap (λ s. checked (expression_fault (whole_truth 8 s bs))) (sym same) ∙ sym is
  check_passed seen (Err place) same is there = let z : ◌≡◌ {A = ℕ} 0 1 = cc in absurd (omega arith)

  pub check_is_truth : checked (expression_fault (whole_truth 8 (claim_sight m) bs)) ≡ Ok tt → is_truth bs ≡ true
  check_is_truth h = let found = passes h in ap is_good (read_again (claim_sight m) bs found.0 found.1 found.2)

  pub check_made : (c : Claim) → row_items c.bytes ≡ bs → c.mark ≡ Open → checked (expression_fault (whole_truth 8 (claim_sight m) bs)) ≡ Ok tt →
      Some (claim_of c) ≡ claim_made (claim_reading m bs)
  check_made c written marked h =
      let found = passes h in
      let few : length bs ≤ 64 = subst (λ xs. length xs ≤ 64) written (omega (arith, length-take c.bytes.count c.bytes.items, c.bytes.full)) in
      let says : (claim_of c).says ≡ found.0 = truth_is (row_items c.bytes) found.0 found.1 c.right (ap (whole_truth 8 everything) written ∙ read_again (claim_sight m) bs found.0 found.1 found.2) in
      ap Some (same_claim _ _ _ _ says (ap mark_of marked)) ∙ sym (ap claim_made (claim_read found.0 found.1 few found.2))
