-- A unit is fit exactly when nothing refuses it, and the verdict on another is told for its reason.
use Rattle.std.proofs.Common.{◌≡◌, ℕ, ◌<◌, ◌≤◌, Bool, true, false, cond, not, ◌&&◌, eqb, ◌⊎◌, List, [], ◌∷◌, map, ℤ, pos, Some, None, Option, sym, refl, ap, ◌∙◌, subst, inl, inr, ⊎_elim, ◌↔◌, arith}
use Rattle.std.proofs.lemmas.Bool.{and_from, and_parts, or_cases, both_ways, cases_Bool, eqb-true, eq-eqb, not-true, le-leb}
use Rattle.model.specs.Meanings.{Meaning}
use Rattle.model.specs.States.{value}
use Rattle.model.specs.Tests.{some, lowest}
use Rattle.model.specs.declared.Fault.{Fault}
use Rattle.model.specs.declared.Kind.{Kind}
use Rattle.model.specs.declared.Kind.TheVariants.{Private, Interface, External}
use Rattle.model.specs.declared.Round.{Round}
use Rattle.model.specs.declared.Round.TheVariants.{Initial, Update}
use Rattle.model.proofs.Bounded.{some_decides}
use Rattle.model.proofs.Counted.{some_clear, some_counted, only_one, counted_once}
use Rattle.model.proofs.States.{state_parts, state_from}
use Rattle.theory.specs.Enumerations.{below}
use Rattle.theory.specs.Members.{Member}
use Rattle.theory.specs.Runs.{Continues, Trajectory, Ends}
use Rattle.theory.proofs.Enumerations.{ranges_exact, pairs_exact}
use Rattle.theory.proofs.Runs.{initial_reachable}
use Rattle.units.specs.Counting.{any}
use Rattle.units.specs.Models.{UnitModel}
use Rattle.units.specs.Sealing.{owned, controllers, badly_controlled, circular, sees_too_much, values_at, old_names, sights, nothing_open, in_some_round, gets_stuck, within, gives_outside, leaves_range, too_wide, at_lowest, if_so, of_drawing, verdict}
use Rattle.units.specs.Units.{verdict_of}
use Rattle.units.specs.declared.refusal.Refusal.{Refusal}
use Rattle.units.specs.declared.refusal.Refusal.TheVariants.{NotOneController, AwaitsItself, SeesTooMuch, GetsStuck, LeavesRange, TooWide, TooManyClaims}
use Rattle.units.proofs.Evidence.{else_parts, else_from, if_so_parts}
use Rattle.units.proofs.Fitness.{length_row, row_at, never_stuck, stays_in_range}
use Rattle.units.proofs.Listed.{any_parts}
use Rattle.reactive.specs.Counts.{AtMost}
use Rattle.reactive.specs.Limits.{Sees, Way}
use Rattle.reactive.specs.Reactive.{Plus, Plus.one, Plus.more}
use Rattle.reactive.proofs.Chains.{Step, step_parts, step_from, Chain, chain_first, chain_through, through_chain}
use Rattle.reactive.proofs.Fit.{fit_exactly}
use Rattle.reactive.proofs.Limits.{limits_judged}
use Rattle.life.specs.Fitness.{IsFit, HasFault, OneController, IllControlled, AwaitsAtom, InRange, Stuck, OutOfRange, UnfitDrawing, Unfit}
use Rattle.life.proofs.Judging.{Judged, none≢some, judged_else, judged_if, judged_lowest}

pub fit_from : (u : UnitModel) → verdict_of u ≡ None → IsFit u
fit_from u h =
    let parts = else_parts (verdict u.meaning) _ h in
    let f = (fit_exactly u.meaning).0 parts.0 in
    record { sound = f.0; reactive = f.1; limited = f.2; uncrowded = if_so_parts TooManyClaims u.crowded parts.1 }

pub fit_none : (u : UnitModel) → IsFit u → verdict_of u ≡ None
fit_none u f =
    else_from (verdict u.meaning) _ ((fit_exactly u.meaning).1 (f.sound, f.reactive, f.limited)) (ap (if_so TooManyClaims) f.uncrowded)

-- the reasons, one by one

owned_parts : (k : Option Kind) → owned k ≡ true → (k ≡ Some Private) ⊎ (k ≡ Some Interface)
owned_parts None h = absurd (both_ways false refl h)
owned_parts (Some Private) h = inl refl
owned_parts (Some Interface) h = inr refl
owned_parts (Some External) h = absurd (both_ways false refl h)

within_not : (top : ℕ) (z : ℤ) → within top z ≡ false → (x : ℕ) → z ≡ pos x → x ≤ top → ⊥
within_not top z h x e l = both_ways (within top z) h (ap (within top) e ∙ le-leb x top l)

module _ (m : Meaning) where
  fault_judged : Judged (of_drawing m.outline.fault) (HasFault m)
  fault_judged = record { there = λ r e. go m.outline.fault refl r e; back = λ r h. ap of_drawing h.told ∙ ap Some (sym h.is) }
    where
      go : (f : Option Fault) → m.outline.fault ≡ f → (r : Refusal) → of_drawing f ≡ Some r → HasFault m r
      go None e r h = absurd (none≢some r h)
      go (Some fault) e r h = record { fault = fault; told = e; is = cc }

  controls : ℕ → ℕ → Bool
  controls n a = m.outline.controls a n

  ill_from : (n : ℕ) → badly_controlled m.outline n ≡ true → IllControlled m n
  unfolding controls
  ill_from n h =
      let both = and_parts (owned (m.outline.kind n)) (not (eqb (controllers m.outline n) 1)) h in (
        owned_parts (m.outline.kind n) both.0,
        λ one.
            let low = (m.outline_laws.controls_known one.atom n one.controls).0 in
            let once : controllers m.outline n ≡ 1 = counted_once (controls n) m.outline.atoms one.atom low one.controls (λ j l c. one.alone j c) in
            both_ways (eqb (controllers m.outline n) 1) (not-true _ both.1) (eq-eqb (controllers m.outline n) 1 once),
      )

  from_ill : (n : ℕ) → IllControlled m n → badly_controlled m.outline n ≡ true
  unfolding controls
  from_ill n h = and_from _ _ (⊎_elim (λ e. ap owned e) (λ e. ap owned e) h.0) (⊎_elim (λ e. absurd (h.1 (alone (eqb-true _ 1 e)))) (λ e. ap not e) (cases_Bool (eqb (controllers m.outline n) 1)))
    where
      alone : controllers m.outline n ≡ 1 → OneController m n
      alone e =
          let i = some_counted (controls n) m.outline.atoms (omega (arith, e)) in
          record { atom = i.0; controls = i.2; alone = λ b c. only_one (controls n) m.outline.atoms b i.0 e (m.outline_laws.controls_known b n c).0 i.1 c i.2 }

  step_awaits : (a b : ℕ) → Step m a b → AwaitsAtom m a b
  step_awaits a b h = let p = step_parts m a b h in record { name = p.0; awaits = p.1; controls = p.2 }

  awaits_step : (a b : ℕ) → AwaitsAtom m a b → Step m a b
  awaits_step a b h = step_from m a b h.name h.awaits h.controls

  chain_plus : (a b : ℕ) → Chain m a b → Plus (AwaitsAtom m) a b
  chain_plus a b r = start r.run r.trajectory r.ends
    where
      on : (a s : ℕ) (ts : List ℕ) → Step m a s → Continues (Step m) s ts → Ends (s ∷ ts) b → Plus (AwaitsAtom m) a b
      on a s [] h k e = one (subst (AwaitsAtom m a) e (step_awaits a s h))
      on a s (t ∷ ts) h k e = more (step_awaits a s h) (on s t ts k.0 k.1 e)

      start : (run : List ℕ) → Trajectory (Step m a) (Step m) run → Ends run b → Plus (AwaitsAtom m) a b
      start [] i e = absurd i
      start (s ∷ ts) i e = on a s ts i.0 i.1 e

  plus_chain : (a b : ℕ) → Plus (AwaitsAtom m) a b → Chain m a b
  plus_chain a b (one w) = initial_reachable b (awaits_step a b w)
  plus_chain a c (more {y = b} w p) = chain_first m a b c (awaits_step a b w) (plus_chain b c p)

  -- what an atom is seen with is in range
  values_in_range : (set : ℕ → Bool) (s : List ℕ) → Member s (values_at m.outline set) → InRange m (value s)
  values_in_range set s h =
      let tops = λ (n : ℕ). cond (set n) (m.outline.top n) 0 in
      let w = (ranges_exact (map tops (below 32))).sound s h in
      (state_parts m.outline s (state_from m.outline s (w.long ∙ length_row tops) (λ n l. low n l (set n) (subst (λ t. value s n ≤ t) (row_at tops n l) (w.under n (subst (λ k. n < k) (sym (length_row tops)) l)))))).within
    where
      low : (n : ℕ) → n < 32 → (b : Bool) → value s n ≤ cond b (m.outline.top n) 0 → value s n ≤ m.outline.top n
      low n l true e = e
      low n l false e = omega arith

  seen_in_range : (r : Round) (a : ℕ) (seen : List ℕ × List ℕ) → Member seen (sights m.outline r a) → InRange m (value seen.0) × InRange m (value seen.1)
  seen_in_range r a seen h =
      let both = (pairs_exact (values_at m.outline (old_names m.outline r a)) (values_at m.outline (m.outline.awaits a))).sound seen h in
      (values_in_range (old_names m.outline r a) seen.0 both.0, values_in_range (m.outline.awaits a) seen.1 both.1)

  some_seen : (test : Meaning → Round → ℕ → List ℕ × List ℕ → Bool) (a : ℕ) → in_some_round m test a ≡ true → (r : Round) × (seen : List ℕ × List ℕ) × Member seen (sights m.outline r a) × (test m r a seen ≡ true)
  some_seen test a h = ⊎_elim (λ e. let k = any_parts (test m Initial a) (sights m.outline Initial a) e in (Initial, k.0, k.1, k.2)) (λ e. let k = any_parts (test m Update a) (sights m.outline Update a) e in (Update, k.0, k.1, k.2)) (or_cases (any (test m Initial a) (sights m.outline Initial a)) _ h)

  stuck_from : (a : ℕ) → gets_stuck m a ≡ true → Stuck m a
  stuck_from a h =
      let found = some_seen nothing_open a h in
      let r = found.0 in
      let seen = found.1 in
      let range = seen_in_range r a seen found.2 in
      record {
        kind = r;
        old = value seen.0;
        new = value seen.1;
        old_in_range = range.0;
        new_in_range = range.1;
        closed = λ k l. some_clear (λ k. m.acts.opens r a k (value seen.0) (value seen.1)) (m.acts.choices r a) k (not-true _ found.3) l;
      }

  from_stuck : (a : ℕ) → Stuck m a → gets_stuck m a ≡ true
  from_stuck a s = ⊎_elim (λ t. t) (λ f. let k = never_stuck m s.kind a s.old s.new f s.old_in_range s.new_in_range in absurd (both_ways _ (s.closed k.0 k.1) k.2)) (cases_Bool (gets_stuck m a))

  outside_from : (a : ℕ) → leaves_range m a ≡ true → OutOfRange m a
  outside_from a h =
      let found = some_seen gives_outside a h in
      let r = found.0 in
      let seen = found.1 in
      let range = seen_in_range r a seen found.2 in
      let wrong : ℕ → ℕ → Bool = λ k n. m.outline.controls a n && not (within (m.outline.top n) (m.acts.gives r a k n (value seen.0) (value seen.1))) in
      let one = (some_decides (λ k. m.acts.opens r a k (value seen.0) (value seen.1) && some (wrong k) 32) (m.acts.choices r a)).0 found.3 in
      let k = one.0 in
      let two = and_parts (m.acts.opens r a k (value seen.0) (value seen.1)) (some (wrong k) 32) one.2 in
      let three = (some_decides (wrong k) 32).0 two.1 in
      let n = three.0 in
      let four = and_parts (m.outline.controls a n) (not (within (m.outline.top n) (m.acts.gives r a k n (value seen.0) (value seen.1)))) three.2 in
      record {
        kind = r;
        old = value seen.0;
        new = value seen.1;
        old_in_range = range.0;
        new_in_range = range.1;
        choice = k;
        opened = two.0;
        name = n;
        controlled = four.0;
        outside = within_not (m.outline.top n) (m.acts.gives r a k n (value seen.0) (value seen.1)) (not-true _ four.1);
      }

  from_outside : (a : ℕ) → OutOfRange m a → leaves_range m a ≡ true
  from_outside a s = ⊎_elim (λ t. t) (λ f. let x = stays_in_range m s.kind a s.old s.new f s.old_in_range s.new_in_range s.choice s.name s.opened s.controlled in absurd (s.outside x.0 x.1 x.2)) (cases_Bool (leaves_range m a))

  -- a test that fails exactly where there are at most so many
  more_than : (b : Bool) (P : Type 0) → (b ≡ false) ↔ P → ((b ≡ true → P → ⊥) × ((P → ⊥) → b ≡ true))
  more_than b P h = (λ e p. both_ways b (h.1 p) e, λ no. ⊎_elim (λ t. t) (λ f. absurd (no (h.0 f))) (cases_Bool b))

  pub drawing_judged : Judged (verdict m) (UnfitDrawing m)
  drawing_judged =
      let limits = limits_judged m in
      let wide = more_than (too_wide m) (AtMost (Way m) 1048576) limits.ways_judged in
      judged_else (of_drawing m.outline.fault) _ _ _ fault_judged (λ _.
      judged_else (at_lowest NotOneController (lowest (badly_controlled m.outline) 32)) _ _ _ (judged_lowest (badly_controlled m.outline) (IllControlled m) 32 NotOneController (λ k _. ill_from k) (λ k _. from_ill k)) (λ _.
      judged_else (at_lowest AwaitsItself (lowest (circular m.outline) m.outline.atoms)) _ _ _ (judged_lowest (circular m.outline) (λ a. Plus (AwaitsAtom m) a a) m.outline.atoms AwaitsItself (λ a _ h. chain_plus a a (through_chain m m.outline.atoms a a h)) (λ a _ p. chain_through m a a (plus_chain a a p))) (λ _.
      judged_else (at_lowest SeesTooMuch (lowest (sees_too_much m.outline) m.outline.atoms)) _ _ _ (judged_lowest (sees_too_much m.outline) (λ a. AtMost (Sees m.outline a) 65536 → ⊥) m.outline.atoms SeesTooMuch (λ a _. (more_than (sees_too_much m.outline a) (AtMost (Sees m.outline a) 65536) (limits.sights_judged a)).0) (λ a _. (more_than (sees_too_much m.outline a) (AtMost (Sees m.outline a) 65536) (limits.sights_judged a)).1)) (λ _.
      judged_else (at_lowest GetsStuck (lowest (gets_stuck m) m.outline.atoms)) _ _ _ (judged_lowest (gets_stuck m) (Stuck m) m.outline.atoms GetsStuck (λ a _. stuck_from a) (λ a _. from_stuck a)) (λ _.
      judged_else (at_lowest LeavesRange (lowest (leaves_range m) m.outline.atoms)) _ _ _ (judged_lowest (leaves_range m) (OutOfRange m) m.outline.atoms LeavesRange (λ a _. outside_from a) (λ a _. from_outside a)) (λ _.
      judged_if (too_wide m) (AtMost (Way m) 1048576 → ⊥) TooWide wide.0 wide.1))))))

pub unit_judged : (u : UnitModel) → Judged (verdict_of u) (Unfit u)
unit_judged u = judged_else (verdict u.meaning) _ _ _ (drawing_judged u.meaning) (λ _. judged_if u.crowded (u.crowded ≡ true) TooManyClaims (λ e. e) (λ e. e))
