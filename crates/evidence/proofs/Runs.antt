-- What judging a list of states as a run has found so far.
use Rattle.std.proofs.Common.{◌≡◌, ℕ, ◌+◌, ◌-◌, Bool, true, false, not, List, length, Some, None, Option, Err, Ok, Result, sym, ap, ◌∙◌, ap₂}
use Rattle.model.specs.Meanings.{Meaning}
use Rattle.model.specs.States.{is_state, yields, nothing}
use Rattle.model.specs.Tests.{lowest}
use Rattle.model.specs.declared.Round.TheVariants.{Initial, Update}
use Rattle.units.specs.Evidence.{state_at, later}
use Rattle.units.specs.Sealing.{at_lowest, if_so, ◌else◌}
use Rattle.units.specs.declared.refusal.Refusal.{Refusal}
use Rattle.units.specs.declared.refusal.Refusal.TheVariants.{NotAState, NotInitial, NotASuccessor, TrueInLast}
use Rattle.evidence.specs.Judging.{answer_of, run_answer}

-- the answer, by what each check finds
abbrev run_by : Option ℕ → Bool → Option ℕ → ℕ → Bool → ℕ → Result ℕ Refusal
run_by foreign start broken last holds count =
    answer_of (at_lowest NotAState foreign else if_so NotInitial (not start) else at_lowest NotASuccessor (later broken) else if_so (TrueInLast last) holds) count

module _ (m : Meaning) (p : List ℕ → Bool) (ss : List (List ℕ)) where
  abbrev pub foreign : ℕ → Bool
  foreign i = not (is_state m.outline (state_at ss i))

  abbrev pub unfollowed : ℕ → Bool
  unfollowed i = not (yields m Update (state_at ss i) (state_at ss (i + 1)))

  abbrev pub starts : Bool
  starts = yields m Initial nothing (state_at ss 0)

  pub is_foreign : (i : ℕ) → lowest foreign (length ss) ≡ Some i → Err (NotAState i) ≡ run_answer m p ss
  is_foreign i e = sym (ap (λ f. run_by f starts (lowest unfollowed (length ss - 1)) (length ss - 1) (p (state_at ss (length ss - 1))) (length ss)) e)

  pub not_initial : lowest foreign (length ss) ≡ None → starts ≡ false → Err NotInitial ≡ run_answer m p ss
  not_initial one e = sym (ap₂ (λ f b. run_by f b (lowest unfollowed (length ss - 1)) (length ss - 1) (p (state_at ss (length ss - 1))) (length ss)) one e)

  module _ (one : lowest foreign (length ss) ≡ None) (two : starts ≡ true) where
    passed_two : (o : Option ℕ) (b : Bool) → run_by (lowest foreign (length ss)) starts o (length ss - 1) b (length ss) ≡ run_by None true o (length ss - 1) b (length ss)
    passed_two o b = ap₂ (λ f s. run_by f s o (length ss - 1) b (length ss)) one two

    pub not_followed : (i : ℕ) → lowest unfollowed (length ss - 1) ≡ Some i → Err (NotASuccessor (i + 1)) ≡ run_answer m p ss
    not_followed i e = sym (passed_two _ _ ∙ ap (λ o. run_by None true o (length ss - 1) (p (state_at ss (length ss - 1))) (length ss)) e)

    pub true_in_last : lowest unfollowed (length ss - 1) ≡ None → p (state_at ss (length ss - 1)) ≡ true → Err (TrueInLast (length ss - 1)) ≡ run_answer m p ss
    true_in_last e h = sym (passed_two _ _ ∙ ap₂ (λ o b. run_by None true o (length ss - 1) b (length ss)) e h)

    pub accepted : lowest unfollowed (length ss - 1) ≡ None → p (state_at ss (length ss - 1)) ≡ false → Ok (length ss) ≡ run_answer m p ss
    accepted e h = sym (passed_two _ _ ∙ ap₂ (λ o b. run_by None true o (length ss - 1) b (length ss)) e h)
