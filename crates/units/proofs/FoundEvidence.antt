-- Evidence can be had on every fit unit.
use Rattle.std.proofs.Common.{◌≡◌, ℕ, ◌≤◌, List, [], ◌∷◌, length, Some, None, Option, sym, refl, ap, ◌∙◌, subst, inl, inr, arith}
use Rattle.std.specs.List.{AllByRecursion as All, slice_get}
use Rattle.model.specs.Meanings.{Meaning}
use Rattle.model.specs.States.{Reachable, InitialState, Successor, Trajectory}
use Rattle.units.specs.declared.refusal.Refusal.{Refusal}
use Rattle.model.proofs.States.{state_parts}
use Rattle.theory.specs.Members.{Member, Exactly}
use Rattle.theory.proofs.Runs.{visited_reachable}
use Rattle.units.specs.Evidence.{states_in, wrong_size, certificate_refusal, run_refusal}
use Rattle.units.specs.Promises.{EvidenceCanBeHad}
use Rattle.units.specs.Sealing.{if_so, verdict, ◌else◌}
use Rattle.units.specs.Units.{UnitModel, Claim, holds, verdict_of, of_claim}
use Rattle.units.specs.declared.refusal.Refusal.TheVariants.{WrongSize}
use Rattle.units.proofs.Evidence.{else_parts, else_from}
use Rattle.units.proofs.Theory.{reached_state, certificates_hold, evidence_exists, runs_judged}
use Rattle.units.proofs.Beginnings.{some_initial_state}
use Rattle.units.proofs.Calls.{yielded_reachable, asked}
use Rattle.units.proofs.Written.{bytes_of, Long, length_bytes, states_back, right_size}

all_members : {X : Type 0} (P : X → Type 0) (xs : List X) → ((x : X) → Member x xs → P x) → All P xs
all_members P [] f = tt
all_members P (x ∷ xs) f = (f x (inl refl), all_members P xs (λ y h. f y (inr h)))

member_some : {X : Type 0} (x : X) (xs : List X) → Member x xs → 1 ≤ length xs
member_some x [] h = absurd h
member_some x (y ∷ ys) h = omega arith

module _ (m : Meaning) where
  reached_long : (t : List ℕ) → Reachable m t → length t ≡ 32
  reached_long t r = (state_parts m.outline t (reached_state m t r)).long

  run_long : (run : List (List ℕ)) → Trajectory m run → Long run
  run_long run h = all_members (λ s. length s ≡ 32) run (λ s there.
      let r = visited_reachable {Initial = InitialState m} {Step = Successor m} run s h there in
      reached_long s (record { run = r.run; trajectory = r.trajectory; ends = r.ends }))

module _ (u : UnitModel) (fine : verdict_of u ≡ None) (i : ℕ) (c : Claim) (there : slice_get u.claims i ≡ Some c) where
  abbrev m : Meaning
  m = u.meaning

  -- what is judged of written states is judged of the states
  accepted : (check : Claim → List (List ℕ) → Option Refusal) (ss : List (List ℕ)) → Long ss → 1 ≤ length ss → length ss ≤ 2048 → check c ss ≡ None →
      (verdict_of u else of_claim (slice_get u.claims i) (λ d. if_so WrongSize (wrong_size (bytes_of ss)) else check d (states_in (bytes_of ss)))) ≡ None
  accepted check ss long some few h =
      else_from (verdict_of u) _ fine
      (subst (λ x. of_claim x (λ d. if_so WrongSize (wrong_size (bytes_of ss)) else check d (states_in (bytes_of ss))) ≡ None) (sym there)
      (else_from (if_so WrongSize (wrong_size (bytes_of ss))) _ (ap (if_so WrongSize) (right_size ss long some few)) (ap (check c) (states_back ss long) ∙ h)))

  pub evidence_had : (all : List (List ℕ)) → Exactly (Reachable m) all → length all ≤ 2048 → EvidenceCanBeHad u i c all
  evidence_had all exact few =
      let exists = evidence_exists m (holds c) all exact in
      let first = some_initial_state m (else_parts (verdict m) _ fine).0 in
      let some = member_some first.0 all (exact.complete first.0 (yielded_reachable m None first.0 tt first.1.yielded)) in
      let long : Long all = all_members (λ s. length s ≡ 32) all (λ s h. reached_long m s (exact.sound s h)) in
      record {
        certificate = (
          λ good. (bytes_of all, accepted (λ d. certificate_refusal m (holds d)) all long some few (exists.certified good)),
          λ found t r.
              let bs = found.0 in
              let check : Claim → Option Refusal = λ d. if_so WrongSize (wrong_size bs) else certificate_refusal m (holds d) (states_in bs) in
              let judged = asked (slice_get u.claims i) c check there (else_parts (verdict_of u) _ found.1).1 in
              certificates_hold m (holds c) (states_in bs) (else_parts (if_so WrongSize (wrong_size bs)) _ judged).1 t r,
        );
        run = λ t r e.
            let found = exists.falsified t r e in
            let run = found.0 in
            let run-is-long = run_long m run ((runs_judged m (holds c) run found.2).0 found.1).trajectory in (
              bytes_of run,
              accepted (λ d. run_refusal m (holds d)) run run-is-long found.2 (omega (arith, found.3)) found.1,
              omega (arith, length_bytes run run-is-long, found.3),
            );
      }
