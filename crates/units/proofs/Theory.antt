-- What evidence is worth.
use Rattle.std.proofs.Common.{◌≡◌, ℕ, ◌≤◌, Bool, true, List, [], ◌∷◌, length, refl, subst, arith}
use mathlib.Core.List.{List-discrete}
use native.Mathlib.Decide.{ℕ_discrete}
use Rattle.std.proofs.lemmas.Bool.{both_ways}
use Rattle.model.specs.Meanings.{Meaning}
use Rattle.model.specs.States as states
use Rattle.model.specs.States.{is_state, InitialState, Successor, nothing}
use Rattle.model.specs.declared.Round.{Round}
use Rattle.model.specs.declared.Round.TheVariants.{Initial, Update}
use Rattle.model.proofs.States.{yields_parts}
use Rattle.theory.specs.Enumerations.{pairs}
use Rattle.theory.specs.Members.{Member, Distinct, Exactly}
use Rattle.theory.specs.Runs as runs
use Rattle.theory.specs.Runs.{ClosedList}
use Rattle.theory.proofs.Enumerations.{pairs_exact, distinct_pairs, distinct_ranges}
use Rattle.theory.proofs.Evidence.{list_certifies, short_run}
use Rattle.theory.proofs.Members.{count_unique, kept_exact, distinct_kept}
use Rattle.theory.proofs.Runs.{certificate_sound}
use Rattle.units.specs.Accepted.{Certificate, BreakingRun}
use Rattle.units.specs.Evidence.{all_states, choice_rows, row_leads, outcomes}
use Rattle.units.specs.Promises.{CertificatesAreJudgedRightly, RunsAreJudgedRightly, AcceptedCertificatesHold, AcceptedRunsBreak, EvidenceExistsForEveryTest, Yielding, TheCountIsUnique, ChoicesDependOnWhatTheySee}
use Rattle.units.proofs.Evidence.{certificate_accepted, certificate_accepts, run_accepted, run_accepts}
use Rattle.units.proofs.Listed.{all_states_exact}

pub certificates_judged : CertificatesAreJudgedRightly
certificates_judged m test ss = (certificate_accepted m test ss, certificate_accepts m test ss)

pub runs_judged : RunsAreJudgedRightly
runs_judged m test [] h = absurd (omega arith)
runs_judged m test (s ∷ ts) h = (run_accepted m test s ts, run_accepts m test s ts)

module _ (m : Meaning) where
  to_run : (t : List ℕ) → states.Reachable m t → runs.Reachable (InitialState m) (Successor m) t
  to_run t r = record { run = r.run; trajectory = r.trajectory; ends = r.ends }

  from_run : (t : List ℕ) → runs.Reachable (InitialState m) (Successor m) t → states.Reachable m t
  from_run t r = record { run = r.run; trajectory = r.trajectory; ends = r.ends }

  closed : (test : List ℕ → Bool) (ss : List (List ℕ)) → Certificate m test ss → ClosedList (InitialState m) (Successor m) test ss
  closed test ss c = record { starts = c.initial_listed; steps = c.successors_listed; passes = c.true_in_each }

  pub reached_state : (t : List ℕ) → states.Reachable m t → is_state m.outline t ≡ true
  reached_state t r = go r.run r.trajectory r.ends
    where
      go : (run : List (List ℕ)) → states.Trajectory m run → states.Ends run t → is_state m.outline t ≡ true
      go [] h e = absurd h
      go (s ∷ ts) h e = later s ts (yields_parts m Initial nothing s h.0.yielded).0 h.1 e
        where
          later : (s : List ℕ) (ts : List (List ℕ)) → is_state m.outline s ≡ true → states.Continues m s ts → states.Ends (s ∷ ts) t → is_state m.outline t ≡ true
          later s [] k c e = subst (λ x. is_state m.outline x ≡ true) e k
          later s (u ∷ us) k c e = later u us (yields_parts m Update s u c.0.yielded).0 c.1 e

pub certificates_hold : AcceptedCertificatesHold
certificates_hold m test ss h t r = (certificate_sound (closed m test ss (certificate_accepted m test ss h)) (to_run m t r)).1

pub runs_break : AcceptedRunsBreak
runs_break m test [] k h = absurd (omega arith)
runs_break m test (s ∷ ts) k h =
    let b = run_accepted m test s ts h in
    (b.last, record { run = s ∷ ts; trajectory = b.trajectory; ends = b.ends }, b.false_at_last)

-- a run is not empty
run_some : (m : Meaning) (run : List (List ℕ)) → states.Trajectory m run → 1 ≤ length run
run_some m [] h = absurd h
run_some m (s ∷ ts) h = omega arith

pub evidence_exists : EvidenceExistsForEveryTest
evidence_exists m test all exact = record {
  certified = λ good. certificate_accepts m test all (record {
    states = λ s member. reached_state m s (exact.sound s member);
    true_in_each = λ s member. good s (exact.sound s member);
    initial_listed = λ t i. list.starts t i;
    successors_listed = λ s t member u. list.steps s t member u;
  });
  never_both = λ ss h t r e. both_ways (test t) e (certificates_hold m test ss h t r);
  falsified = λ t r e.
      let short = short_run {good = test} (List-discrete ℕ_discrete) reachable (record { state = t; reachable = to_run m t r; fails = e }) in
      let found : BreakingRun m test short.run = record { trajectory = short.falsifying.trajectory; last = short.falsifying.last; ends = short.falsifying.ends; false_at_last = short.falsifying.fails } in
      let some = run_some m short.run short.falsifying.trajectory in
      (short.run, (runs_judged m test short.run some).1 found, some, short.short);
}
  where
    reachable : Exactly (runs.Reachable (InitialState m) (Successor m)) all
    reachable = record { complete = λ x r. exact.complete x (from_run m x r); sound = λ x h. to_run m x (exact.sound x h) }

    -- the reachable states are closed, whatever is asked of them
    list : ClosedList (InitialState m) (Successor m) (λ s. true) all
    list = list_certifies reachable (λ t h. refl)

-- the outcomes are exactly the pairs that count, each once
outcomes_exact : (m : Meaning) (r : Round) (s : List ℕ) → Exactly (Yielding m r s) (outcomes m r s)
outcomes_exact m r s = record {
  complete = λ pair y. kept.complete pair (all.complete pair ((all_states_exact m.outline).complete pair.0 y.state, y.row), y.led);
  sound = λ pair h.
      let k = kept.sound pair h in
      let both = all.sound pair k.0 in
      record { state = (all_states_exact m.outline).sound pair.0 both.0; row = both.1; led = k.1 };
}
  where
    kept : Exactly (λ p. Member p (pairs (all_states m.outline) (choice_rows m r)) × (row_leads m r s p ≡ true)) (outcomes m r s)
    kept = kept_exact (row_leads m r s) (pairs (all_states m.outline) (choice_rows m r))

    all : Exactly (λ p. Member p.0 (all_states m.outline) × Member p.1 (choice_rows m r)) (pairs (all_states m.outline) (choice_rows m r))
    all = pairs_exact (all_states m.outline) (choice_rows m r)

outcomes_distinct : (m : Meaning) (r : Round) (s : List ℕ) → Distinct (outcomes m r s)
outcomes_distinct m r s =
    distinct_kept (row_leads m r s) (pairs (all_states m.outline) (choice_rows m r)) (distinct_pairs (all_states m.outline) (choice_rows m r) (distinct_ranges _) (distinct_ranges _))

pub count_is_unique : TheCountIsUnique
count_is_unique m r s ps distinct exact = count_unique distinct (outcomes_distinct m r s) exact (outcomes_exact m r s)

pub choices_by_sight : ChoicesDependOnWhatTheySee
choices_by_sight m r a k old new old' new' alike = record {
  same_opening = m.choice_laws.opens_by_sight r a k old new old' new' alike;
  same_gifts = λ n. m.choice_laws.gives_by_sight r a k n old new old' new' alike;
}
