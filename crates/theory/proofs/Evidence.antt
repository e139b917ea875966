-- Evidence on a test over a system whose reachable states are listed.
use Rattle.std.proofs.Common.{◌≡◌, Bool, true, false, ◌⊎◌, List, [], ◌∷◌, sym, refl, ap, ◌∙◌, inl, inr, ⊎_elim}
use Rattle.std.proofs.lemmas.Bool.{both_ways, cases_Bool}
use Rattle.theory.specs.Members.{Member, Exactly}
use Rattle.theory.specs.Runs.{Reachable, ClosedList, Falsified, ShortFalsifyingRun, EvidenceExists}
use Rattle.theory.proofs.Members.{pigeonhole}
use Rattle.theory.proofs.Runs.{initial_reachable, step_reachable, visited_reachable, certificate_sound, run_sound, simple_run}

-- each member passes the test, or some member fails it
pub all_or_some : {A : Type 0} (good : A → Bool) (xs : List A) →
    ((x : A) → Member x xs → good x ≡ true) ⊎ ((x : A) × Member x xs × (good x ≡ false))
all_or_some good [] = inl (λ x m. absurd m)
all_or_some {A} good (y ∷ ys) = both (cases_Bool (good y)) (all_or_some good ys)
  where
    both : (good y ≡ true) ⊎ (good y ≡ false) →
        ((x : A) → Member x ys → good x ≡ true) ⊎ ((x : A) × Member x ys × (good x ≡ false)) →
        ((x : A) → Member x (y ∷ ys) → good x ≡ true) ⊎ ((x : A) × Member x (y ∷ ys) × (good x ≡ false))
    both (inr f) rest = inr (y, inl refl, f)
    both (inl t) (inl each) = inl (λ x. ⊎_elim (λ e. ap good (sym e) ∙ t) (each x))
    both (inl t) (inr (x, m, f)) = inr (x, inr m, f)

module _ {A : Type 0} {Initial : A → Type 0} {Step : A → A → Type 0} {good : A → Bool} where
  -- where all reachable states pass the test, their list is a certificate
  pub list_certifies : {all : List A} → Exactly (Reachable Initial Step) all → ((t : A) → Member t all → good t ≡ true) →
      ClosedList Initial Step good all
  list_certifies r each =
      record {
        starts = λ s i. r.complete s (initial_reachable s i);
        steps = λ s t m h. r.complete t (step_reachable s t (r.sound s m) h);
        passes = each;
      }

  -- under a certificate no reachable state fails the test
  pub certificate_excludes : {xs : List A} → ClosedList Initial Step good xs → Falsified Initial Step good → ⊥
  certificate_excludes c f = both_ways (good f.state) f.fails (certificate_sound c f.reachable).1

  -- a reachable state that fails the test ends a trajectory with at most as many states as there are reachable ones
  pub short_run : {all : List A} → Discrete A → Exactly (Reachable Initial Step) all → Falsified Initial Step good →
      ShortFalsifyingRun Initial Step good all
  short_run {all} same r f =
      let s = simple_run same f.reachable in
      record {
        run = s.run;
        falsifying = record { trajectory = s.trajectory; last = f.state; ends = s.ends; fails = f.fails };
        short = pigeonhole s.run all s.distinct (λ x m. r.complete x (visited_reachable s.run x s.trajectory m));
      }

  pub evidence_exists : {all : List A} → Discrete A → Exactly (Reachable Initial Step) all → EvidenceExists Initial Step good all
  evidence_exists {all} same r =
      record {
        certified = list_certifies r;
        falsified = short_run same r;
        found =
            ⊎_elim (λ each. inl (list_certifies r each))
            (λ some. inr (short_run same r (record { state = some.0; reachable = r.sound some.0 some.1; fails = some.2 })))
            (all_or_some good all);
        never_both = λ xs run c f. certificate_excludes c (run_sound f);
      }
