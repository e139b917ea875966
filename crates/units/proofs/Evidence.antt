-- Certificates and runs are accepted exactly when they show what they have to.
use Rattle.std.proofs.Common.{◌≡◌, ℕ, zero, suc, ◌+◌, ◌-◌, ◌<◌, Bool, true, false, not, ◌&&◌, List, [], ◌∷◌, length, Some, None, Option, sym, refl, ap, ◌∙◌, subst, inl, inr, ⊎_elim, not-suc-le-zero, add-one, arith}
use Rattle.std.proofs.lemmas.Bool.{and_cases, both_ways, not-false, not_from_true}
use Rattle.model.specs.Meanings.{Meaning}
use Rattle.model.specs.States.{is_state, yields, nothing, Continues, Ends}
use Rattle.model.specs.Tests.{lowest}
use Rattle.units.specs.declared.refusal.Refusal.{Refusal}
use Rattle.model.specs.declared.Fault.{Fault}
use Rattle.model.specs.declared.Round.{Round}
use Rattle.model.specs.declared.Round.TheVariants.{Initial, Update}
use Rattle.model.proofs.Lowest.{lowest_clear, clear_lowest}
use Rattle.model.proofs.States.{yields_parts}
use Rattle.theory.specs.Members.{Member}
use Rattle.units.specs.Accepted.{Certificate, BreakingRun}
use Rattle.units.specs.Evidence.{state_at, all_states, is_listed, misses_some, foreign_state_refusal, certificate_refusal, later, run_refusal}
use Rattle.units.specs.Sealing.{at_lowest, if_so, of_drawing, ◌else◌}
use Rattle.units.specs.declared.refusal.Refusal.TheVariants.{NotAState, FalseIn, TrueInLast, InitialStateMissing, NotInitial, SuccessorMissing, NotASuccessor}
use Rattle.units.proofs.Listed.{none_passes, all_fail, lists_parts, lists_from, member_at, index_of, all_states_exact}

-- refusals one after the other

pub else_parts : (f g : Option Refusal) → (f else g) ≡ None → (f ≡ None) × (g ≡ None)
else_parts None g h = (refl, h)
else_parts (Some f) g h = let z : ◌≡◌ {A = ℕ} 0 1 = cc in absurd (omega arith)

pub else_from : (f g : Option Refusal) → f ≡ None → g ≡ None → (f else g) ≡ None
else_from f g e h = ap (λ o. o else g) e ∙ h

pub at_lowest_parts : (k : ℕ → Refusal) (o : Option ℕ) → at_lowest k o ≡ None → o ≡ None
at_lowest_parts k None h = refl
at_lowest_parts k (Some i) h = let z : ◌≡◌ {A = ℕ} 0 1 = cc in absurd (omega arith)

pub if_so_parts : (k : Refusal) (b : Bool) → if_so k b ≡ None → b ≡ false
if_so_parts k false h = refl
if_so_parts k true h = let z : ◌≡◌ {A = ℕ} 0 1 = cc in absurd (omega arith)

pub of_drawing_parts : (f : Option Fault) → of_drawing f ≡ None → f ≡ None
of_drawing_parts None h = refl
of_drawing_parts (Some f) h = let z : ◌≡◌ {A = ℕ} 0 1 = cc in absurd (omega arith)

later_parts : (o : Option ℕ) → later o ≡ None → o ≡ None
later_parts None h = refl
later_parts (Some i) h = let z : ◌≡◌ {A = ℕ} 0 1 = cc in absurd (omega arith)

-- a test that no index fails holds of each member
each_member : (p : List ℕ → Bool) (ss : List (List ℕ)) (k : ℕ → Refusal) → at_lowest k (lowest (λ i. not (p (state_at ss i))) (length ss)) ≡ None → (s : List ℕ) → Member s ss → p s ≡ true
each_member p ss k h s member =
    let found = index_of ss s [] member in
    not-false (p s) (subst (λ t. not (p t) ≡ false) found.2 (lowest_clear (λ i. not (p (state_at ss i))) (length ss) (at_lowest_parts k _ h) found.0 found.1))

no_index_fails : (p : List ℕ → Bool) (ss : List (List ℕ)) (k : ℕ → Refusal) → ((s : List ℕ) → Member s ss → p s ≡ true) → at_lowest k (lowest (λ i. not (p (state_at ss i))) (length ss)) ≡ None
no_index_fails p ss k f =
    ap (at_lowest k) (clear_lowest (λ i. not (p (state_at ss i))) (length ss) (λ i l. not_from_true (p (state_at ss i)) (f (state_at ss i) (member_at ss i [] l))))

module _ (m : Meaning) (ss : List (List ℕ)) where
  -- nothing is missed, so what a round yields is listed
  listed : (r : Round) (s t : List ℕ) → misses_some m ss r s ≡ false → yields m r s t ≡ true → Member t ss
  listed r s t h y =
      let state = (yields_parts m r s t y).0 in
      let both = none_passes (λ u. yields m r s u && not (is_listed ss u)) (all_states m.outline) t h ((all_states_exact m.outline).complete t state) in
      lists_parts ss t (⊎_elim (λ e. absurd (both_ways (yields m r s t) e y)) (not-false (is_listed ss t)) (and_cases (yields m r s t) (not (is_listed ss t)) both))

  -- what a round yields is listed, so nothing is missed
  none_missed : (r : Round) (s : List ℕ) → ((t : List ℕ) → yields m r s t ≡ true → Member t ss) → misses_some m ss r s ≡ false
  none_missed r s f = all_fail (λ u. yields m r s u && not (is_listed ss u)) (all_states m.outline) (λ t member. go t (yields m r s t) refl)
    where
      go : (t : List ℕ) (b : Bool) → yields m r s t ≡ b → (b && not (is_listed ss t)) ≡ false
      go t true e = not_from_true (is_listed ss t) (lists_from ss t (f t e))
      go t false e = refl

module _ (m : Meaning) (holds : List ℕ → Bool) (ss : List (List ℕ)) where
  pub certificate_accepted : certificate_refusal m holds ss ≡ None → Certificate m holds ss
  certificate_accepted h =
      let one = else_parts (foreign_state_refusal m ss) _ h in
      let two = else_parts (at_lowest FalseIn (lowest (λ i. not (holds (state_at ss i))) (length ss))) _ one.1 in
      let three = else_parts (if_so InitialStateMissing (misses_some m ss Initial nothing)) _ two.1 in
      record {
        states = each_member (is_state m.outline) ss NotAState one.0;
        true_in_each = each_member holds ss FalseIn two.0;
        initial_listed = λ t i. listed m ss Initial nothing t (if_so_parts InitialStateMissing _ three.0) i.yielded;
        successors_listed = λ s t member u.
            let found = index_of ss s [] member in
            listed m ss Update s t (subst (λ x. misses_some m ss Update x ≡ false) found.2 (lowest_clear (λ i. misses_some m ss Update (state_at ss i)) (length ss) (at_lowest_parts SuccessorMissing _ three.1) found.0 found.1)) u.yielded;
      }

  pub certificate_accepts : Certificate m holds ss → certificate_refusal m holds ss ≡ None
  certificate_accepts c =
      else_from (foreign_state_refusal m ss) _ (no_index_fails (is_state m.outline) ss NotAState c.states)
      (else_from (at_lowest FalseIn (lowest (λ i. not (holds (state_at ss i))) (length ss))) _ (no_index_fails holds ss FalseIn c.true_in_each)
      (else_from (if_so InitialStateMissing (misses_some m ss Initial nothing)) _ (ap (if_so InitialStateMissing) (none_missed m ss Initial nothing (λ t y. c.initial_listed t (record { yielded = y }))))
      (ap (at_lowest SuccessorMissing) (clear_lowest (λ i. misses_some m ss Update (state_at ss i)) (length ss) (λ i l. none_missed m ss Update (state_at ss i) (λ t y. c.successors_listed (state_at ss i) t (member_at ss i [] l) (record { yielded = y })))))))

-- runs

-- the states of a list from one on, each at its index
continues : (m : Meaning) (s : List ℕ) (ts : List (List ℕ)) → ((i : ℕ) → i < length ts → yields m Update (state_at (s ∷ ts) i) (state_at ts i) ≡ true) → Continues m s ts
continues m s [] f = tt
continues m s (t ∷ ts) f = (record { yielded = f 0 (omega arith) }, continues m t ts (λ i l. f (suc i) (omega arith)))

continued : (m : Meaning) (s : List ℕ) (ts : List (List ℕ)) → Continues m s ts → (i : ℕ) → i < length ts → yields m Update (state_at (s ∷ ts) i) (state_at ts i) ≡ true
continued m s [] c i l = absurd (not-suc-le-zero l)
continued m s (t ∷ ts) c zero l = c.0.yielded
continued m s (t ∷ ts) c (suc i) l = continued m t ts c.1 i (omega arith)

ends_last : (s : List ℕ) (ts : List (List ℕ)) → Ends (s ∷ ts) (state_at (s ∷ ts) (length ts))
ends_last s [] = refl
ends_last s (t ∷ ts) = ends_last t ts

last_ends : (s : List ℕ) (ts : List (List ℕ)) (t : List ℕ) → Ends (s ∷ ts) t → state_at (s ∷ ts) (length ts) ≡ t
last_ends s [] t e = e
last_ends s (u ∷ ts) t e = last_ends u ts t e

member_state : (m : Meaning) (s : List ℕ) (ts : List (List ℕ)) (x : List ℕ) → is_state m.outline s ≡ true → Continues m s ts → Member x (s ∷ ts) → is_state m.outline x ≡ true
member_state m s ts x h c (inl e) = subst (λ y. is_state m.outline y ≡ true) e h
member_state m s [] x h c (inr k) = absurd k
member_state m s (t ∷ ts) x h c (inr k) = member_state m t ts x (yields_parts m Update s t c.0.yielded).0 c.1 k

module _ (m : Meaning) (holds : List ℕ → Bool) (s : List ℕ) (ts : List (List ℕ)) where
  abbrev ss : List (List ℕ)
  ss = s ∷ ts

  abbrev no_step : ℕ → Bool
  no_step i = not (yields m Update (state_at ss i) (state_at ss (i + 1)))

  last_index : length ss - 1 ≡ length ts
  last_index = omega arith

  next_at : (i : ℕ) → state_at ss (i + 1) ≡ state_at ts i
  next_at i = ap (state_at ss) (add-one i)

  pub run_accepted : run_refusal m holds ss ≡ None → BreakingRun m holds ss
  run_accepted h =
      let one = else_parts (foreign_state_refusal m ss) _ h in
      let two = else_parts (if_so NotInitial (not (yields m Initial nothing (state_at ss 0)))) _ one.1 in
      let three = else_parts (at_lowest NotASuccessor (later (lowest no_step (length ss - 1)))) _ two.1 in
      let steps : (i : ℕ) → i < length ss - 1 → no_step i ≡ false = lowest_clear no_step (length ss - 1) (later_parts _ (at_lowest_parts NotASuccessor _ three.0)) in
      record {
        trajectory = (
          record { yielded = not-false _ (if_so_parts NotInitial _ two.0) },
          continues m s ts (λ i l. subst (λ t. yields m Update (state_at ss i) t ≡ true) (next_at i) (not-false _ (steps i (subst (λ n. i < n) (sym last_index) l)))),
        );
        last = state_at ss (length ts);
        ends = ends_last s ts;
        false_at_last = subst (λ n. holds (state_at ss n) ≡ false) last_index (if_so_parts (TrueInLast (length ss - 1)) _ three.1);
      }

  pub run_accepts : BreakingRun m holds ss → run_refusal m holds ss ≡ None
  run_accepts b =
      let start = b.trajectory.0 in
      let state = (yields_parts m Initial nothing s start.yielded).0 in
      else_from (foreign_state_refusal m ss) _ (no_index_fails (is_state m.outline) ss NotAState (λ x. member_state m s ts x state b.trajectory.1))
      (else_from (if_so NotInitial (not (yields m Initial nothing (state_at ss 0)))) _ (ap (if_so NotInitial) (not_from_true _ start.yielded))
      (else_from (at_lowest NotASuccessor (later (lowest no_step (length ss - 1)))) _
      (ap (λ o. at_lowest NotASuccessor (later o)) (clear_lowest no_step (length ss - 1) (λ i l. not_from_true _ (subst (λ t. yields m Update (state_at ss i) t ≡ true) (sym (next_at i)) (continued m s ts b.trajectory.1 i (subst (λ n. i < n) last_index l))))))
      (ap (if_so (TrueInLast (length ss - 1))) (subst (λ n. holds (state_at ss n) ≡ false) (sym last_index) (ap holds (last_ends s ts b.last b.ends) ∙ b.false_at_last)))))
