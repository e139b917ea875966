-- Reachable states of a transition system, and evidence on a test over them.
use Rattle.std.proofs.Common.{◌≡◌, Bool, true, List, [], ◌∷◌, ◌++◌, map, sym, refl, ap, subst, inl, inr}
use Rattle.theory.specs.Members.{Member, Distinct}
use Rattle.theory.specs.Runs.{Continues, Trajectory, Ends, Reachable, SimpleRun, ClosedList, FalsifyingRun, Falsified, Simulation}
use Rattle.theory.proofs.Members.{member_same, member_decided}

-- a trajectory with one more step at its end
module _ {A : Type 0} where
  ends_more : (ts : List A) (s u : A) → Ends (s ∷ (ts ++ u ∷ [])) u
  ends_more [] s u = refl
  ends_more (t ∷ ts) s u = ends_more ts t u

  continues_more : (Step : A → A → Type 0) (s : A) (ts : List A) (t u : A) → Continues Step s ts → Ends (s ∷ ts) t → Step t u → Continues Step s (ts ++ u ∷ [])
  continues_more Step s [] t u c e h = (subst (λ v. Step v u) (sym e) h, tt)
  continues_more Step s (v ∷ vs) t u c e h = (c.0, continues_more Step v vs t u c.1 e h)

module _ {A : Type 0} {Initial : A → Type 0} {Step : A → A → Type 0} where
  pub initial_reachable : (s : A) → Initial s → Reachable Initial Step s
  initial_reachable s i = record { run = s ∷ []; trajectory = (i, tt); ends = refl }

  pub step_reachable : (s t : A) → Reachable Initial Step s → Step s t → Reachable Initial Step t
  step_reachable s t r h = more r.run r.trajectory r.ends
    where
      more : (run : List A) → Trajectory Initial Step run → Ends run s → Reachable Initial Step t
      more [] i e = absurd i
      more (u ∷ us) i e =
          record { run = u ∷ (us ++ t ∷ []); trajectory = (i.0, continues_more Step u us s t i.1 e h); ends = ends_more us u t }

  continued_reachable : (s : A) (ts : List A) (x : A) → Reachable Initial Step s → Continues Step s ts → Member x (s ∷ ts) → Reachable Initial Step x
  continued_reachable s ts x r c (inl e) = subst (Reachable Initial Step) e r
  continued_reachable s [] x r c (inr m) = absurd m
  continued_reachable s (t ∷ ts) x r c (inr m) = continued_reachable t ts x (step_reachable s t r c.0) c.1 m

  -- each state of an initialised trajectory is reachable
  pub visited_reachable : (run : List A) (x : A) → Trajectory Initial Step run → Member x run → Reachable Initial Step x
  visited_reachable [] x i m = absurd m
  visited_reachable (s ∷ ts) x i m = continued_reachable s ts x (initial_reachable s i.0) i.1 m

  continued_member : {good : A → Bool} (xs : List A) (s : A) (ts : List A) (t : A) → ClosedList Initial Step good xs →
      Member s xs → Continues Step s ts → Ends (s ∷ ts) t → Member t xs
  continued_member xs s [] t k m c e = member_same xs e m
  continued_member xs s (u ∷ us) t k m c e = continued_member xs u us t k (k.steps s u m c.0) c.1 e

  -- a certificate is right: each reachable state stands in it, and passes the test
  pub certificate_sound : {good : A → Bool} {xs : List A} {t : A} → ClosedList Initial Step good xs → Reachable Initial Step t →
      Member t xs × (good t ≡ true)
  certificate_sound {good} {xs} {t} k r = let m = within r.run r.trajectory r.ends in (m, k.passes t m)
    where
      within : (run : List A) → Trajectory Initial Step run → Ends run t → Member t xs
      within [] i e = absurd i
      within (s ∷ ts) i e = continued_member xs s ts t k (k.starts s i.0) i.1 e

  -- a falsifying trajectory is right: its last state is reachable, and fails the test
  pub run_sound : {good : A → Bool} {run : List A} → FalsifyingRun Initial Step good run → Falsified Initial Step good
  run_sound {run = run} f =
      record { state = f.last; reachable = record { run = run; trajectory = f.trajectory; ends = f.ends }; fails = f.fails }

-- a way from s to t that visits no state twice
record SimpleWay {A : Type 0} (Step : A → A → Type 0) (s t : A) : Type 0 where
  rest : List A
  continues : Continues Step s rest
  ends : Ends (s ∷ rest) t
  distinct : Distinct (s ∷ rest)

module _ {A : Type 0} {Step : A → A → Type 0} where
  -- such a way goes on as one from each state on it
  way_from : (s : A) (ts : List A) (x t : A) → Continues Step s ts → Ends (s ∷ ts) t → Distinct (s ∷ ts) → Member x (s ∷ ts) → SimpleWay Step x t
  way_from s ts x t c e d (inl i) =
      subst (λ u. SimpleWay Step u t) i (record { rest = ts; continues = c; ends = e; distinct = d })
  way_from s [] x t c e d (inr m) = absurd m
  way_from s (u ∷ us) x t c e d (inr m) = way_from u us x t c.1 e d.1 m

  way_back : (s u t : A) → Discrete A → Step s u → SimpleWay Step u t → SimpleWay Step s t
  way_back s u t same h w = cut (member_decided same s (u ∷ w.rest))
    where
      cut : Dec (Member s (u ∷ w.rest)) → SimpleWay Step s t
      cut (yes m) = way_from u w.rest s t w.continues w.ends w.distinct m
      cut (no n) = record { rest = u ∷ w.rest; continues = (h, w.continues); ends = w.ends; distinct = (n, w.distinct) }

  simple_way : (s : A) (ts : List A) (t : A) → Discrete A → Continues Step s ts → Ends (s ∷ ts) t → SimpleWay Step s t
  simple_way s [] t same c e = record { rest = []; continues = tt; ends = e; distinct = (λ m. m, tt) }
  simple_way s (u ∷ us) t same c e = way_back s u t same c.0 (simple_way u us t same c.1 e)

  -- cutting repeats: a reachable state ends a trajectory that visits no state twice
  pub simple_run : {Initial : A → Type 0} {t : A} → Discrete A → Reachable Initial Step t → SimpleRun Initial Step t
  simple_run {Initial} {t} same r = cut r.run r.trajectory r.ends
    where
      cut : (run : List A) → Trajectory Initial Step run → Ends run t → SimpleRun Initial Step t
      cut [] i e = absurd i
      cut (s ∷ ts) i e =
          let w = simple_way s ts t same i.1 e in
          record { run = s ∷ w.rest; trajectory = (i.0, w.continues); ends = w.ends; distinct = w.distinct }

pub map_ends : {A B : Type 0} (f : A → B) (run : List A) (t : A) → Ends run t → Ends (map f run) (f t)
map_ends f [] t e = e
map_ends f (s ∷ []) t e = ap f e
map_ends f (s ∷ (u ∷ us)) t e = map_ends f (u ∷ us) t e

-- a simulation takes trajectories to trajectories, so reachable states to reachable ones
module _ {A B : Type 0} {Initial : A → Type 0} {Step : A → A → Type 0} {Initial' : B → Type 0} {Step' : B → B → Type 0} {f : A → B}
    (along : Simulation Initial Step Initial' Step' f) where
  map_continues : (s : A) (ts : List A) → Continues Step s ts → Continues Step' (f s) (map f ts)
  map_continues s [] c = tt
  map_continues s (t ∷ ts) c = (along.steps s t c.0, map_continues t ts c.1)

  pub map_trajectory : (run : List A) → Trajectory Initial Step run → Trajectory Initial' Step' (map f run)
  map_trajectory [] i = i
  map_trajectory (s ∷ ts) i = (along.starts s i.0, map_continues s ts i.1)

  pub map_reachable : (t : A) → Reachable Initial Step t → Reachable Initial' Step' (f t)
  map_reachable t r =
      record { run = map f r.run; trajectory = map_trajectory r.run r.trajectory; ends = map_ends f r.run t r.ends }
