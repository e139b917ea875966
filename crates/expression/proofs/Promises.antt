-- What the checks promise follows from what they answer.
use Rattle.std.proofs.Common.{◌≡◌, ℕ, zero, suc, ◌+◌, ◌<◌, ◌≤◌, Bool, true, false, cond, eqb, List, [], ◌∷◌, length, take, Ok, Err, Result, sym, refl, ap, ◌∙◌, subst, arith}
use Rattle.std.proofs.lemmas.List.{length-take}
use Rattle.std.proofs.lemmas.Option.{slice_get-get_or, slice_get_past}
use Rattle.std.proofs.lemmas.Bool.{eqb-false, ne_eqb, cond-false}
use Rattle.std.specs.List.{slice_get}
use Rattle.language.proofs.Expressions.{whole_expressions_are_written}
use Rattle.language.proofs.Fronts.{fewer, expressions_are_read_from_the_front}
use Rattle.language.specs.laws.Expressions.{nth_inside}
use Rattle.language.specs.Expressions.{Seen, number_bytes, truth_bytes, number_right, truth_right, Reading, good, bad, to_the_end, expression_fault, read_number, read_truth}
use Rattle.language.specs.Fronts.{Same, EndsBefore, looked, Inside, FromFront}
use Rattle.expression.specs.Checking.{read_end, ended, checked}
use Rattle.expression.specs.Promises.{verdict, Sole, FirstFault, Judged, NumberJudged, TruthJudged}

ok_err : {P : Type 0} (place : ℕ) → ◌≡◌ {A = Result (Unit {0}) ℕ} (Ok tt) (Err place) → P
ok_err place e = let z : ◌≡◌ {A = ℕ} 0 1 = cc in absurd (omega arith)

nth_take : (n i : ℕ) (bs : List ℕ) → i < n → slice_get (take n bs) i ≡ slice_get bs i
nth_take zero i bs h = absurd (omega arith)
nth_take (suc n) i [] h = refl
nth_take (suc n) zero (b ∷ bs) h = refl
nth_take (suc n) (suc i) (b ∷ bs) h = nth_take n i bs (omega arith)

take_ends : (n : ℕ) (bs : List ℕ) → EndsBefore (take n bs) n
take_ends n bs = slice_get_past (take n bs) n (omega (arith, length-take n bs))

abbrev whole : {E : Type 0} → (List ℕ → ℕ → Reading E) → List ℕ → Reading E
whole read bs = to_the_end (length bs) (read bs 0)

module _ {E : Type 0} (right : E → Bool) (form : E → List ℕ) (read : List ℕ → ℕ → Reading E) (front : FromFront read)
    (back : (e : E) → right e ≡ true → whole read (form e) ≡ good e (length (form e)))
    (stands : (bs : List ℕ) (e : E) (end : ℕ) → whole read bs ≡ good e end → (right e ≡ true) × (bs ≡ form e) × (end ≡ length bs)) where
  passed_by : (bs : List ℕ) (r : Reading E) → whole read bs ≡ r → checked (expression_fault r) ≡ Ok tt → Sole right form bs
  passed_by bs (bad place) h e = ok_err place (sym e)
  passed_by bs (good x end) h e =
      let s = stands bs x end h in
      record { expression = x; is_right = s.0; written = s.1; only = λ f g same. let again = ap (whole read) same ∙ back f g in cc (again, h) }

  verdict_bad : (bs : List ℕ) (place : ℕ) → read bs 0 ≡ bad place → verdict read bs ≡ Err place
  verdict_bad bs place h = ap (λ r. checked (expression_fault (to_the_end (length bs) r))) h

  cut_short : (bs : List ℕ) (n : ℕ) → n < looked (read bs 0) → verdict read (take n bs) ≡ Err n
  cut_short bs n l = verdict_bad (take n bs) n (front.cut bs (take n bs) 0 n (omega arith) l (λ i h. nth_take n i bs h) (take_ends n bs))

  bad_first : (bs : List ℕ) (place : ℕ) → read bs 0 ≡ bad place → FirstFault read bs place
  bad_first bs place h =
      record {
        inside = subst (Inside (length bs)) h (front.inside bs 0 (omega arith));
        settled = λ cs same. verdict_bad cs place (front.settled bs cs 0 (subst (λ r. Same bs cs (looked r)) (sym h) same) ∙ h);
        cut = λ n l. cut_short bs n (subst (λ r. n < looked r) (sym h) (omega arith));
      }

  -- bytes are left over from place `end` on
  left_first : (bs : List ℕ) (e : E) (end : ℕ) → read bs 0 ≡ good e end → (end ≡ length bs → ⊥) → FirstFault read bs end
  left_first bs e end h ne =
      let within : end ≤ length bs = subst (Inside (length bs)) h (front.inside bs 0 (omega arith)) in
      record {
        inside = within;
        settled = λ cs same.
            let again = front.settled bs cs 0 (subst (λ r. Same bs cs (looked r)) (sym h) (fewer bs cs end (end + 1) (omega arith) same)) ∙ h in
            let more : end < length cs = nth_inside cs end _ (same end (omega arith) ∙ slice_get-get_or bs end 0 (omega arith)) in
            ap (λ r. checked (expression_fault (to_the_end (length cs) r))) again ∙ ap (λ r. checked (expression_fault r)) (cond-false (eqb end (length cs)) (good e end) (bad end) (ne_eqb end (length cs) (λ eq. omega arith)));
        cut = λ n l. cut_short bs n (subst (λ r. n < looked r) (sym h) l);
      }

  faulty_by : (bs : List ℕ) (r : Reading E) → read bs 0 ≡ r → (place : ℕ) → checked (expression_fault (to_the_end (length bs) r)) ≡ Err place → FirstFault read bs place
  faulty_by bs (bad p) h place e = let same : p ≡ place = cc in subst (FirstFault read bs) same (bad_first bs p h)
  faulty_by bs (good x end) h place e = go (eqb end (length bs)) refl e
    where
      go : (t : Bool) → eqb end (length bs) ≡ t → checked (expression_fault (cond t (good x end) (bad end))) ≡ Err place → FirstFault read bs place
      go true t e = ok_err place e
      go false t e = let same : end ≡ place = cc in subst (FirstFault read bs) same (left_first bs x end h (eqb-false end (length bs) t))

  judged : (bs : List ℕ) (r : Result (Unit {0}) ℕ) → r ≡ verdict read bs → Judged right form read bs r
  judged bs r told =
      record {
        passed = λ e. passed_by bs (whole read bs) refl (sym told ∙ e);
        passes = λ e h same. told ∙ ap (λ r. checked (expression_fault r)) (ap (whole read) same ∙ back e h);
        faulty = λ place e. faulty_by bs (read bs 0) refl place (sym told ∙ e);
      }

pub number_judged : (s : Seen) (bs : List ℕ) (r : Result (Unit {0}) ℕ) → r ≡ verdict (read_number 8 s) bs → NumberJudged s bs r
number_judged s = judged (number_right 8 s) number_bytes (read_number 8 s) (expressions_are_read_from_the_front.numbers 8 s) (whole_expressions_are_written.numbers 8 s) (whole_expressions_are_written.numbers_only 8 s)

pub truth_judged : (s : Seen) (bs : List ℕ) (r : Result (Unit {0}) ℕ) → r ≡ verdict (read_truth 8 s) bs → TruthJudged s bs r
truth_judged s = judged (truth_right 8 s) truth_bytes (read_truth 8 s) (expressions_are_read_from_the_front.truths 8 s) (whole_expressions_are_written.truths 8 s) (whole_expressions_are_written.truths_only 8 s)

-- a check reads up to the expression's end, and then looks for more bytes
pub whole_ends : {X : Type 0} (all : ℕ) (r : Reading X) (end : ℕ) → Ok end ≡ read_end r → ended all end ≡ checked (expression_fault (to_the_end all r))
whole_ends all (bad place) end e = let z : ◌≡◌ {A = ℕ} 0 1 = cc in absurd (omega arith)
whole_ends {X} all (good x place) end e = let same : end ≡ place = cc in ap (ended all) same ∙ go (eqb place all)
  where
    go : (t : Bool) → cond t (Ok tt) (Err place) ≡ checked (expression_fault (cond t (good x place) (bad place)))
    go true = refl
    go false = refl

pub whole_fails : {X : Type 0} (all : ℕ) (r : Reading X) (place : ℕ) → Err place ≡ read_end r → Err place ≡ checked (expression_fault (to_the_end all r))
whole_fails all (bad p) place e = let same : place ≡ p = cc in ap Err same
whole_fails all (good x end) place e = let z : ◌≡◌ {A = ℕ} 0 1 = cc in absurd (omega arith)
