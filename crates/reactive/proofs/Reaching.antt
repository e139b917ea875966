-- The reachable states of a drawing can be listed.
use Rattle.std.proofs.Common.{◌≡◌, ℕ, zero, suc, ◌+◌, ◌-◌, Bool, true, ◌&&◌, ◌||◌, ◌⊎◌, List, [], ◌∷◌, length, filter, refl, subst, inl, inr, arith}
use mathlib.Core.List.{List-discrete}
use native.Mathlib.Decide.{ℕ_discrete}
use Rattle.std.proofs.lemmas.Bool.{and_from, and_parts, or_left, or_right, or_cases}
use Rattle.model.specs.Meanings.{Meaning}
use Rattle.model.specs.States.{yields, nothing, InitialState, Successor, Reachable}
use Rattle.model.specs.declared.Round.TheVariants.{Initial, Update}
use Rattle.theory.specs.Members.{Member, Distinct}
use Rattle.theory.specs.Runs as runs
use Rattle.theory.specs.Runs.{Continues, Trajectory, Ends}
use Rattle.theory.proofs.Enumerations.{distinct_ranges}
use Rattle.theory.proofs.Members.{pigeonhole, kept_exact, distinct_kept}
use Rattle.theory.proofs.Runs.{initial_reachable, step_reachable, visited_reachable, simple_run}
use Rattle.units.specs.Counting.{any}
use Rattle.units.specs.Evidence.{all_states}
use Rattle.units.proofs.Listed.{any_from, any_parts, all_states_exact}
use Rattle.units.proofs.Theory.{reached_state}
use Rattle.reactive.specs.Counts.{Many}
use Rattle.reactive.specs.Runs.{ReachableStatesCanBeListed}

module _ (m : Meaning) where
  abbrev Reached : List ℕ → Type 0
  Reached = runs.Reachable (InitialState m) (Successor m)

  to_run : (t : List ℕ) → Reachable m t → Reached t
  to_run t r = record { run = r.run; trajectory = r.trajectory; ends = r.ends }

  from_run : (t : List ℕ) → Reached t → Reachable m t
  from_run t r = record { run = r.run; trajectory = r.trajectory; ends = r.ends }

  abbrev all : List (List ℕ)
  all = all_states m.outline

  reached_listed : (t : List ℕ) → Reached t → Member t all
  reached_listed t r = (all_states_exact m.outline).complete t (reached_state m t (from_run t r))

  -- reached in at most n steps
  within : ℕ → List ℕ → Bool
  within zero t = yields m Initial nothing t
  within (suc n) t = yields m Initial nothing t || any (λ s. within n s && yields m Update s t) all

  within_sound : (n : ℕ) (t : List ℕ) → within n t ≡ true → Reached t
  unfolding within
  within_sound zero t h = initial_reachable t (record { yielded = h })
  within_sound (suc n) t h = go (within_sound n) (or_cases (yields m Initial nothing t) (any (λ s. within n s && yields m Update s t) all) h)
    where
      go : ((s : List ℕ) → within n s ≡ true → Reached s) → (yields m Initial nothing t ≡ true) ⊎ (any (λ s. within n s && yields m Update s t) all ≡ true) → Reached t
      go before (inl e) = initial_reachable t (record { yielded = e })
      go before (inr e) =
          let (s, k, both) = any_parts (λ s. within n s && yields m Update s t) all e in
          let parts = and_parts (within n s) (yields m Update s t) both in
          step_reachable s t (before s parts.0) (record { yielded = parts.1 })

  within_step : (n : ℕ) (s t : List ℕ) → within n s ≡ true → Successor m s t → within (suc n) t ≡ true
  unfolding within
  within_step n s t h u =
      or_right (yields m Initial nothing t) _ (any_from (λ s. within n s && yields m Update s t) all s (reached_listed s (within_sound n s h)) (and_from (within n s) (yields m Update s t) h u.yielded))

  within_start : (n : ℕ) (t : List ℕ) → InitialState m t → within n t ≡ true
  unfolding within
  within_start zero t i = i.yielded
  within_start (suc n) t i = or_left (yields m Initial nothing t) _ i.yielded

  within_one_more : (n : ℕ) (t : List ℕ) → within n t ≡ true → within (suc n) t ≡ true
  unfolding within
  within_one_more zero t h = or_left (yields m Initial nothing t) _ h
  within_one_more (suc n) t h = go (within_one_more n) (or_cases (yields m Initial nothing t) (any (λ s. within n s && yields m Update s t) all) h)
    where
      go : ((s : List ℕ) → within n s ≡ true → within (suc n) s ≡ true) → (yields m Initial nothing t ≡ true) ⊎ (any (λ s. within n s && yields m Update s t) all ≡ true) → within (suc (suc n)) t ≡ true
      go more (inl e) = or_left (yields m Initial nothing t) _ e
      go more (inr e) =
          let (s, k, both) = any_parts (λ s. within n s && yields m Update s t) all e in
          let parts = and_parts (within n s) (yields m Update s t) both in
          within_step (suc n) s t (more s parts.0) (record { yielded = parts.1 })

  within_more : (more n : ℕ) (t : List ℕ) → within n t ≡ true → within (more + n) t ≡ true
  within_more zero n t h = subst (λ k. within k t ≡ true) (omega arith) h
  within_more (suc more) n t h = subst (λ k. within k t ≡ true) (omega arith) (within_one_more (more + n) t (within_more more n t h))

  -- to the end of a run
  along : (n : ℕ) (s : List ℕ) (ts : List (List ℕ)) (t : List ℕ) → within n s ≡ true → Continues (Successor m) s ts → Ends (s ∷ ts) t → within (length ts + n) t ≡ true
  along n s [] t h c e = subst (λ k. within k t ≡ true) (omega arith) (subst (λ x. within n x ≡ true) e h)
  along n s (u ∷ us) t h c e = subst (λ k. within k t ≡ true) (omega arith) (along (suc n) u us t (within_step n s u h c.0) c.1 e)

  within_complete : (t : List ℕ) → Reached t → within (length all) t ≡ true
  within_complete t r = let simple = simple_run (List-discrete ℕ_discrete) r in go simple.run simple.trajectory simple.ends simple.distinct
    where
      go : (run : List (List ℕ)) → Trajectory (InitialState m) (Successor m) run → Ends run t → Distinct run → within (length all) t ≡ true
      go [] i e d = absurd i
      go (s ∷ ts) i e d =
          let short = pigeonhole (s ∷ ts) all d (λ x k. reached_listed x (visited_reachable (s ∷ ts) x i k)) in
          subst (λ k. within k t ≡ true) (omega (arith, short)) (within_more (length all - length ts) (length ts + 0) t (along 0 s ts t (within_start 0 s i.0) i.1 e))

  reachable_many : Many (Reachable m) (length (filter (within (length all)) all))
  reachable_many =
      let kept = kept_exact (within (length all)) all in
      record {
        all = filter (within (length all)) all;
        distinct = distinct_kept (within (length all)) all (distinct_ranges _);
        exactly = record {
          complete = λ t r. let h = to_run t r in kept.complete t (reached_listed t h, within_complete t h);
          sound = λ t k. from_run t (within_sound (length all) t (kept.sound t k).1);
        };
        count = refl;
      }

pub reachable_listed : ReachableStatesCanBeListed
reachable_listed m = (length (filter (within m (length (all m))) (all m)), reachable_many m)
