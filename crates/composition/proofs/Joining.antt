-- A join does what both of its parts do.
use Rattle.std.proofs.Common.{◌≡◌, ℕ, ◌+◌, ◌-◌, ◌<◌, ◌≤◌, Bool, true, false, ◌||◌, ◌⊎◌, List, length, pos, is_some, Some, None, Decides, Option, sym, refl, ap, ◌∙◌, subst, inl, inr, arith}
use Rattle.std.proofs.lemmas.Bool.{true≢false, and_from, and_parts, cases_Bool, cases_lt}
use Rattle.model.specs.Meanings.{Valuation, Meaning}
use Rattle.model.specs.States.{value, is_state, takes, yields}
use Rattle.model.specs.Tests.{some}
use Rattle.model.specs.declared.Fault.{Fault}
use Rattle.model.specs.declared.Kind.{Kind}
use Rattle.model.specs.declared.Round.{Round}
use Rattle.model.proofs.Bounded.{every_decides}
use Rattle.composition.proofs.Clashes.{joined_either}
use Rattle.composition.proofs.Faults.{sound_is}
use Rattle.composition.proofs.Fitting.{fits, top_left, top_right}
use Rattle.composition.proofs.Parts.{Part, leads_projected, chosen_same, state_part, yields_part, part_simulates}
use Rattle.composition.proofs.Seen.{leads}
use Rattle.composition.proofs.States.{is_state_from, state_value, state_length, state_zero, yields_state}
use Rattle.composition.proofs.Trajectories.{trajectory_along, reachable_along}
use Rattle.composition.proofs.Views.{projected_at}
use Rattle.composition.specs.Allowed.{Fits}
use Rattle.composition.specs.laws.Faults.{joins}
use Rattle.composition.specs.Faults.{clash, is_private, is_interface, fault_of_joined}
use Rattle.composition.specs.Meanings.{joined}
use Rattle.composition.specs.laws.Outlines.{by_atom_left, by_atom_right}
use Rattle.composition.specs.Outlines.{joined_kind, by_atom}
use Rattle.composition.specs.Statements.{ContentsOfJoins, Projects}
use Rattle.composition.specs.Views.{projected}

module _ (l r : Meaning) (sound : fault_of_joined l.outline r.outline ≡ None) where
  abbrev whole : Meaning
  whole = joined l r

  abbrev count : ℕ
  count = l.outline.atoms

  abbrev found : Option Fault
  found = fault_of_joined l.outline r.outline

  fine : Fits l.outline r.outline
  fine = fits l r (joins l.outline r.outline sound)

  pub left_part : Part l whole (λ a. a)
  left_part =
      record {
        top = λ n e. sound_is found 0 _ sound ∙ top_left l.outline r.outline fine n e;
        within = λ a h. subst (λ c. a < c) (sym (sound_is found 0 (count + r.outline.atoms) sound)) (omega arith);
        atom = λ a h.
            record {
              controls = λ n. sound_is found false _ sound ∙ by_atom_left count (λ x. l.outline.controls x n) (λ x. r.outline.controls x n) a h;
              reads = λ n. sound_is found false _ sound ∙ by_atom_left count (λ x. l.outline.reads x n) (λ x. r.outline.reads x n) a h;
              awaits = λ n. sound_is found false _ sound ∙ by_atom_left count (λ x. l.outline.awaits x n) (λ x. r.outline.awaits x n) a h;
              choices = λ k. sound_is found 0 _ sound ∙ by_atom_left count (l.acts.choices k) (r.acts.choices k) a h;
              opens = λ k i old new. sound_is found false _ sound ∙ by_atom_left count (λ x. l.acts.opens k x i old new) (λ x. r.acts.opens k x i old new) a h;
              gives = λ k i n old new. sound_is found (pos 0) _ sound ∙ by_atom_left count (λ x. l.acts.gives k x i n old new) (λ x. r.acts.gives k x i n old new) a h;
            };
      }

  -- what the whole tells of an atom past the left part's
  past : {A : Type 0} (left right : ℕ → A) (a : ℕ) → by_atom count left right (count + a) ≡ right a
  past left right a = let back : count + a - count ≡ a = omega arith in by_atom_right count left right (count + a) (omega arith) ∙ ap right back

  pub right_part : Part r whole (λ a. count + a)
  right_part =
      record {
        top = λ n e. sound_is found 0 _ sound ∙ top_right l.outline r.outline fine n e;
        within = λ a h. subst (λ c. count + a < c) (sym (sound_is found 0 (count + r.outline.atoms) sound)) (omega arith);
        atom = λ a h.
            record {
              controls = λ n. sound_is found false _ sound ∙ past (λ x. l.outline.controls x n) (λ x. r.outline.controls x n) a;
              reads = λ n. sound_is found false _ sound ∙ past (λ x. l.outline.reads x n) (λ x. r.outline.reads x n) a;
              awaits = λ n. sound_is found false _ sound ∙ past (λ x. l.outline.awaits x n) (λ x. r.outline.awaits x n) a;
              choices = λ k. sound_is found 0 _ sound ∙ past (l.acts.choices k) (r.acts.choices k) a;
              opens = λ k i old new. sound_is found false _ sound ∙ past (λ x. l.acts.opens k x i old new) (λ x. r.acts.opens k x i old new) a;
              gives = λ k i n old new. sound_is found (pos 0) _ sound ∙ past (λ x. l.acts.gives k x i n old new) (λ x. r.acts.gives k x i n old new) a;
            };
      }

  -- what a test tells of the joined kinds
  either : (test : Option Kind → Bool) → ((j k : Option Kind) → clash j k ≡ false → test (joined_kind j k) ≡ (test j || test k)) →
      (n : ℕ) → test (whole.outline.kind n) ≡ (test (l.outline.kind n) || test (r.outline.kind n))
  either test law n = ap test (sound_is found None _ sound) ∙ law (l.outline.kind n) (r.outline.kind n) (fine.apart n)

  pub contents : ContentsOfJoins l r
  contents =
      record {
        variable = either is_some (joined_either is_some refl);
        private = either is_private (joined_either is_private refl);
        interface = either is_interface (joined_either is_interface refl);
        left_top = left_part.top;
        right_top = right_part.top;
        atoms = sound_is found 0 (count + r.outline.atoms) sound;
        left_atom = left_part.atom;
        right_atom = right_part.atom;
      }

  state_joined : (t : List ℕ) → length t ≡ 32 → ((n : ℕ) → is_some (whole.outline.kind n) ≡ false → value t n ≡ 0) →
      is_state l.outline (projected l.outline t) ≡ true → is_state r.outline (projected r.outline t) ≡ true → is_state whole.outline t ≡ true
  state_joined t long zeros p q = is_state_from whole.outline t long (λ n h. under n h (cases_Bool (is_some (l.outline.kind n))) (cases_Bool (is_some (r.outline.kind n))))
    where
      in_part : (m : Meaning) (at : ℕ → ℕ) → Part m whole at → is_state m.outline (projected m.outline t) ≡ true → (n : ℕ) → n < 32 → is_some (m.outline.kind n) ≡ true → value t n ≤ whole.outline.top n
      in_part m at part s n h e = subst (λ v. v ≤ whole.outline.top n) (projected_at m.outline t n h e) (subst (λ v. value (projected m.outline t) n ≤ v) (sym (part.top n e)) (state_value m.outline (projected m.outline t) s n h))

      under : (n : ℕ) → n < 32 → (is_some (l.outline.kind n) ≡ true) ⊎ (is_some (l.outline.kind n) ≡ false) → (is_some (r.outline.kind n) ≡ true) ⊎ (is_some (r.outline.kind n) ≡ false) → value t n ≤ whole.outline.top n
      under n h (inl e) f = in_part l (λ a. a) left_part p n h e
      under n h (inr e) (inl f) = in_part r (λ a. count + a) right_part q n h f
      under n h (inr e) (inr f) = subst (λ v. v ≤ whole.outline.top n) (sym (zeros n (ap is_some (sound_is found None _ sound) ∙ none (l.outline.kind n) (r.outline.kind n) e f))) (omega arith)
        where
          none : (j k : Option Kind) → is_some j ≡ false → is_some k ≡ false → is_some (joined_kind j k) ≡ false
          none None k e f = f
          none (Some j) k e f = absurd (true≢false e)

  -- the states of the join are the lists of 32 values, 0 where there is no variable, with states of the parts as projections
  pub states_joined : (t : List ℕ) →
      Decides (is_state whole.outline t) ((length t ≡ 32) × ((n : ℕ) → is_some (whole.outline.kind n) ≡ false → value t n ≡ 0) × (is_state l.outline (projected l.outline t) ≡ true) × (is_state r.outline (projected r.outline t) ≡ true))
  states_joined t = (
    λ h. (state_length whole.outline t h, state_zero whole t h, state_part l whole (λ a. a) left_part t h, state_part r whole (λ a. count + a) right_part t h),
    λ h. state_joined t h.0 h.1 h.2 h.3,
  )

  leads_joined : (k : Round) (old new : Valuation) → leads l k old new ≡ true → leads r k old new ≡ true → leads whole k old new ≡ true
  leads_joined k old new p q =
      (every_decides (λ x. some (λ i. takes whole k x i old new) (whole.acts.choices k x)) whole.outline.atoms).1
      (λ x h. chosen x (subst (λ c. x < c) (sound_is found 0 (count + r.outline.atoms) sound) h) (cases_lt x count))
    where
      chosen : (x : ℕ) → x < count + r.outline.atoms → (x < count) ⊎ (count ≤ x) → some (λ i. takes whole k x i old new) (whole.acts.choices k x) ≡ true
      chosen x h (inl lt) =
          chosen_same whole x l x (left_part.atom x lt) k old new ∙ (every_decides (λ a. some (λ i. takes l k a i old new) (l.acts.choices k a)) count).0 p x lt
      chosen x h (inr le) =
          let there : x - count < r.outline.atoms = omega arith in
          let back : count + (x - count) ≡ x = omega arith in
          subst (λ y. some (λ i. takes whole k y i old new) (whole.acts.choices k y) ≡ true) back
          (chosen_same whole (count + (x - count)) r (x - count) (right_part.atom (x - count) there) k old new ∙ (every_decides (λ a. some (λ i. takes r k a i old new) (r.acts.choices k a)) r.outline.atoms).0 q (x - count) there)

  -- a round of the join is one of both parts, to a state of the join
  pub yields_joined : (k : Round) (s t : List ℕ) →
      Decides (yields whole k s t) ((is_state whole.outline t ≡ true) × (yields l k (projected l.outline s) (projected l.outline t) ≡ true) × (yields r k (projected r.outline s) (projected r.outline t) ≡ true))
  yields_joined k s t = (
    λ h. (yields_state whole k s t h, yields_part l whole (λ a. a) left_part k s t h, yields_part r whole (λ a. count + a) right_part k s t h),
    λ h. and_from (is_state whole.outline t) (leads whole k (value s) (value t)) h.0 (leads_joined k (value s) (value t) (led l h.1) (led r h.2)),
  )
    where
      led : (m : Meaning) → yields m k (projected m.outline s) (projected m.outline t) ≡ true → leads m k (value s) (value t) ≡ true
      led m h = leads_projected m k s t ∙ (and_parts (is_state m.outline (projected m.outline t)) (leads m k (value (projected m.outline s)) (value (projected m.outline t))) h).1

  pub joined_projects : Projects whole l × Projects whole r
  joined_projects = (project l (λ a. a) left_part, project r (λ a. count + a) right_part)
    where
      project : (m : Meaning) (at : ℕ → ℕ) → Part m whole at → Projects whole m
      project m at part = let along = part_simulates m whole at part in record { trajectories = trajectory_along along; reachable = reachable_along along }
