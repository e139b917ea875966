-- What a fit drawing keeps, at any values in range.
use Rattle.std.proofs.Common.{◌≡◌, ℕ, ◌<◌, ◌≤◌, Bool, true, false, cond, not, ◌&&◌, eqb, List, map, length, ℤ, pos, negsuc, is_some, Some, None, Option, sym, refl, ap, ◌∙◌, subst, ⊎_elim, arith}
use Rattle.std.proofs.lemmas.List.{length-map, get_or-map}
use Rattle.std.proofs.lemmas.Bool.{and_cases, or_parts, both_ways, cases_lt, cond-true, eqb-true, leb-true, not-false}
use Rattle.model.specs.Meanings.{Valuation, OutlineFacts, Alike, Meaning}
use Rattle.model.specs.States.{value}
use Rattle.model.specs.Tests.{some, lowest}
use Rattle.model.specs.declared.Kind.{Kind}
use Rattle.model.specs.declared.Kind.TheVariants.{Private, Interface, External}
use Rattle.model.specs.declared.Round.{Round}
use Rattle.model.specs.declared.Round.TheVariants.{Initial, Update}
use Rattle.model.proofs.Bounded.{some_decides}
use Rattle.model.proofs.Lowest.{lowest_clear}
use Rattle.theory.specs.Enumerations.{below}
use Rattle.theory.specs.Members.{Member}
use Rattle.theory.proofs.Enumerations.{ranges_exact, pairs_exact, length_below}
use Rattle.units.specs.Counting.{any}
use Rattle.units.specs.Sealing.{owned, controllers, badly_controlled, awaits_through, circular, sees_too_much, values_at, old_names, sights, nothing_open, in_some_round, gets_stuck, within, gives_outside, leaves_range, at_lowest, of_drawing, verdict}
use Rattle.units.specs.declared.refusal.Refusal.TheVariants.{AwaitsItself, GetsStuck, LeavesRange, NotOneController, SeesTooMuch}
use Rattle.units.proofs.Evidence.{else_parts, at_lowest_parts, of_drawing_parts}
use Rattle.units.proofs.Listed.{none_passes, below_at}
use Rattle.model.proofs.Counted.{some_clear, some_counted, only_one}

-- each value is at most its name's top
abbrev pub InRange : OutlineFacts → Valuation → Type 0
InRange o v = (n : ℕ) → v n ≤ o.top n

pub record Keeps (m : Meaning) : Type 0 where
  pub one_controller : (a b n : ℕ) → m.outline.controls a n ≡ true → m.outline.controls b n ≡ true → a ≡ b
  pub some_controller : (n : ℕ) → owned (m.outline.kind n) ≡ true → n < 32 → (a : ℕ) × (m.outline.controls a n ≡ true)
  pub acyclic : (a : ℕ) → a < m.outline.atoms → awaits_through m.outline m.outline.atoms a a ≡ false
  pub some_open : (r : Round) (a : ℕ) (old new : Valuation) → a < m.outline.atoms → InRange m.outline old → InRange m.outline new →
      (k : ℕ) × (k < m.acts.choices r a) × (m.acts.opens r a k old new ≡ true)
  pub given_in_range : (r : Round) (a k n : ℕ) (old new : Valuation) → a < m.outline.atoms → InRange m.outline old → InRange m.outline new →
      m.acts.opens r a k old new ≡ true → m.outline.controls a n ≡ true → (x : ℕ) × (m.acts.gives r a k n old new ≡ pos x) × (x ≤ m.outline.top n)

-- rows of 32 values made of a function

pub length_row : (f : ℕ → ℕ) → length (map f (below 32)) ≡ 32
length_row f = length-map (below 32) f ∙ length_below 32

pub row_at : (f : ℕ → ℕ) (n : ℕ) → n < 32 → value (map f (below 32)) n ≡ f n
row_at f n l = get_or-map f (below 32) n 0 0 (subst (λ k. n < k) (sym (length_below 32)) l) ∙ ap f (below_at 32 n l)

-- the values of a set's names, 0 elsewhere
abbrev masked : (ℕ → Bool) → Valuation → List ℕ
masked set v = map (λ n. cond (set n) (v n) 0) (below 32)

masked_at : (set : ℕ → Bool) (v : Valuation) (n : ℕ) → n < 32 → set n ≡ true → value (masked set v) n ≡ v n
masked_at set v n l h = row_at (λ k. cond (set k) (v k) 0) n l ∙ cond-true (set n) (v n) 0 h

masked_row : (o : OutlineFacts) (set : ℕ → Bool) (v : Valuation) → InRange o v → Member (masked set v) (values_at o set)
masked_row o set v h =
    (ranges_exact (map (λ n. cond (set n) (o.top n) 0) (below 32))).complete (masked set v) (record {
      long = length_row (λ n. cond (set n) (v n) 0) ∙ sym (length_row (λ n. cond (set n) (o.top n) 0));
      under = λ i l. let less : i < 32 = subst (λ k. i < k) (length_row (λ n. cond (set n) (o.top n) 0)) l in both i less;
    })
  where
    each : (i : ℕ) (b : Bool) → cond b (v i) 0 ≤ cond b (o.top i) 0
    each i true = h i
    each i false = omega arith

    both : (i : ℕ) → i < 32 → value (masked set v) i ≤ value (map (λ n. cond (set n) (o.top n) 0) (below 32)) i
    both i l = omega (arith, each i (set i), row_at (λ n. cond (set n) (v n) 0) i l, row_at (λ n. cond (set n) (o.top n) 0) i l)

module _ (m : Meaning) (r : Round) (a : ℕ) (old new : Valuation) where
  -- what the atom sees, and 0 elsewhere
  abbrev seen_old : List ℕ
  seen_old = masked (old_names m.outline r a) old

  abbrev seen_new : List ℕ
  seen_new = masked (m.outline.awaits a) new

  seen_alike : Alike m.outline r a old new (value seen_old) (value seen_new)
  seen_alike = record {
    awaited = λ n h. sym (masked_at (m.outline.awaits a) new n (m.outline_laws.names n (m.outline_laws.awaits_known a n h).1) h);
    read = λ e n h. sym (masked_at (old_names m.outline r a) old n (m.outline_laws.names n (m.outline_laws.reads_known a n h).1) (subst (λ q. old_names m.outline q a n ≡ true) (sym e) h));
  }

  seen_sight : InRange m.outline old → InRange m.outline new → Member (seen_old, seen_new) (sights m.outline r a)
  seen_sight h g =
      (pairs_exact (values_at m.outline (old_names m.outline r a)) (values_at m.outline (m.outline.awaits a))).complete (seen_old, seen_new)
      (masked_row m.outline (old_names m.outline r a) old h, masked_row m.outline (m.outline.awaits a) new g)

  -- a test that no sight passes fails at what the atom sees
  never_seen : (test : Meaning → Round → ℕ → List ℕ × List ℕ → Bool) → in_some_round m test a ≡ false → InRange m.outline old → InRange m.outline new → test m r a (seen_old, seen_new) ≡ false
  never_seen test h g k = none_passes (test m r a) (sights m.outline r a) (seen_old, seen_new) (go r) (seen_sight g k)
    where
      go : (r : Round) → any (test m r a) (sights m.outline r a) ≡ false
      go Initial = (or_parts (any (test m Initial a) (sights m.outline Initial a)) _ h).0
      go Update = (or_parts (any (test m Initial a) (sights m.outline Initial a)) _ h).1

  pub never_stuck : gets_stuck m a ≡ false → InRange m.outline old → InRange m.outline new → (k : ℕ) × (k < m.acts.choices r a) × (m.acts.opens r a k old new ≡ true)
  never_stuck h g j =
      let p : ℕ → Bool = λ k. m.acts.opens r a k (value seen_old) (value seen_new) in
      let found = (some_decides p (m.acts.choices r a)).0 (not-false (some p (m.acts.choices r a)) (never_seen nothing_open h g j)) in
      (found.0, found.1, m.choice_laws.opens_by_sight r a found.0 old new (value seen_old) (value seen_new) seen_alike ∙ found.2)

  there : (k : ℕ) → m.acts.opens r a k old new ≡ true → k < m.acts.choices r a
  there k h = ⊎_elim (λ l. l) (λ l. absurd (both_ways (m.acts.opens r a k old new) (m.choice_laws.absent_closed r a k old new l) h)) (cases_lt k (m.acts.choices r a))

  within_parts : (top : ℕ) (z : ℤ) → within top z ≡ true → (x : ℕ) × (z ≡ pos x) × (x ≤ top)
  within_parts top (pos x) h = (x, refl, leb-true x top h)
  within_parts top (negsuc x) h = absurd (both_ways false refl h)

  pub stays_in_range : leaves_range m a ≡ false → InRange m.outline old → InRange m.outline new → (k n : ℕ) → m.acts.opens r a k old new ≡ true → m.outline.controls a n ≡ true →
      (x : ℕ) × (m.acts.gives r a k n old new ≡ pos x) × (x ≤ m.outline.top n)
  stays_in_range h g j k n e c =
      let o : Bool = m.acts.opens r a k (value seen_old) (value seen_new) in
      let outside : ℕ → Bool = λ i. m.outline.controls a i && not (within (m.outline.top i) (m.acts.gives r a k i (value seen_old) (value seen_new))) in
      let open' : o ≡ true = sym (m.choice_laws.opens_by_sight r a k old new (value seen_old) (value seen_new) seen_alike) ∙ e in
      let none = some_clear (λ k. m.acts.opens r a k (value seen_old) (value seen_new) && some (λ n. m.outline.controls a n && not (within (m.outline.top n) (m.acts.gives r a k n (value seen_old) (value seen_new)))) 32) (m.acts.choices r a) k (never_seen gives_outside h g j) (there k e) in
      let clear : some outside 32 ≡ false = ⊎_elim (λ f. absurd (both_ways o f open')) (λ f. f) (and_cases o (some outside 32) none) in
      let here = some_clear outside 32 n clear (m.outline_laws.names n (m.outline_laws.controls_known a n c).1) in
      let z = m.acts.gives r a k n (value seen_old) (value seen_new) in
      let good : within (m.outline.top n) z ≡ true = not-false (within (m.outline.top n) z) (⊎_elim (λ f. absurd (both_ways (m.outline.controls a n) f c)) (λ f. f) (and_cases (m.outline.controls a n) (not (within (m.outline.top n) z)) here)) in
      let parts = within_parts (m.outline.top n) z good in
      (parts.0, m.choice_laws.gives_by_sight r a k n old new (value seen_old) (value seen_new) seen_alike ∙ parts.1, parts.2)

-- a controlled name is owned
owned_from : (k : Option Kind) → is_some k ≡ true → (k ≡ Some External → ⊥) → owned k ≡ true
owned_from None h g = absurd (both_ways false refl h)
owned_from (Some Private) h g = refl
owned_from (Some Interface) h g = refl
owned_from (Some External) h g = absurd (g refl)

module _ (m : Meaning) (fine : verdict m ≡ None) where
  pub fault_clear : m.outline.fault ≡ None
  fault_clear = of_drawing_parts m.outline.fault (else_parts (of_drawing m.outline.fault) _ fine).0

  pub keeps : Keeps m
  keeps =
      let twelve = else_parts (at_lowest NotOneController (lowest (badly_controlled m.outline) 32)) _ (else_parts (of_drawing m.outline.fault) _ fine).1 in
      let thirteen = else_parts (at_lowest AwaitsItself (lowest (circular m.outline) m.outline.atoms)) _ twelve.1 in
      let fourteen = else_parts (at_lowest SeesTooMuch (lowest (sees_too_much m.outline) m.outline.atoms)) _ thirteen.1 in
      let fifteen = else_parts (at_lowest GetsStuck (lowest (gets_stuck m) m.outline.atoms)) _ fourteen.1 in
      let one_each : (n : ℕ) → owned (m.outline.kind n) ≡ true → n < 32 → controllers m.outline n ≡ 1 = λ n h l.
      let clear = lowest_clear (badly_controlled m.outline) 32 (at_lowest_parts NotOneController _ twelve.0) n l in
      eqb-true _ 1 (not-false _ (⊎_elim (λ f. absurd (both_ways (owned (m.outline.kind n)) f h)) (λ f. f) (and_cases (owned (m.outline.kind n)) (not (eqb (controllers m.outline n) 1)) clear))) in
      let sixteen = else_parts (at_lowest LeavesRange (lowest (leaves_range m) m.outline.atoms)) _ fifteen.1 in
      record {
        one_controller = λ a b n c d.
            let known = m.outline_laws.controls_known a n c in
            let one = one_each n (owned_from (m.outline.kind n) known.1 (m.outline_laws.controls_own a n c)) (m.outline_laws.names n known.1) in
            only_one (λ a. m.outline.controls a n) m.outline.atoms a b one known.0 (m.outline_laws.controls_known b n d).0 c d;
        some_controller = λ n h l.
            let one = one_each n h l in
            let found = some_counted (λ a. m.outline.controls a n) m.outline.atoms (omega arith) in
            (found.0, found.2);
        acyclic = lowest_clear (circular m.outline) m.outline.atoms (at_lowest_parts AwaitsItself _ thirteen.0);
        some_open = λ r a old new l. never_stuck m r a old new (lowest_clear (gets_stuck m) m.outline.atoms (at_lowest_parts GetsStuck _ fifteen.0) a l);
        given_in_range = λ r a k n old new l g h. stays_in_range m r a old new (lowest_clear (leaves_range m) m.outline.atoms (at_lowest_parts LeavesRange _ sixteen.0) a l) g h k n;
      }
