-- What a module that is part of another does there is what it does alone.
use Rattle.std.proofs.Common.{◌≡◌, ℕ, ◌<◌, ◌≤◌, Bool, true, cond, ◌&&◌, eqb, leb, List, length, is_some, sym, ap, ◌∙◌, subst, arith}
use Rattle.std.proofs.lemmas.Bool.{and_from, and_parts, cond_both}
use Rattle.model.specs.Meanings.{Valuation, Meaning}
use Rattle.model.specs.States.{value, is_state, is_value, takes, yields, nothing}
use Rattle.model.specs.Tests.{every, some, implies}
use Rattle.model.specs.declared.Round.{Round}
use Rattle.model.specs.declared.Round.TheVariants.{Initial, Update}
use Rattle.model.proofs.Bounded.{every_decides}
use Rattle.composition.proofs.Seen.{Agree, leads, leads_seen}
use Rattle.composition.proofs.States.{is_state_from, state_value}
use Rattle.composition.proofs.Tests.{every_same, some_same}
use Rattle.composition.proofs.Trajectories.{Simulates}
use Rattle.composition.proofs.Views.{length_as_state, value_as_state, projected_at, projected_nothing}
use Rattle.composition.specs.Same.{SameAtom}
use Rattle.composition.specs.Views.{projected}

-- p is part of w: its variables have their tops there, and each of its atoms is one of w's
pub record Part (p w : Meaning) (at : ℕ → ℕ) : Type 0 where
  pub top : (n : ℕ) → is_some (p.outline.kind n) ≡ true → w.outline.top n ≡ p.outline.top n
  pub within : (a : ℕ) → a < p.outline.atoms → at a < w.outline.atoms
  pub atom : (a : ℕ) → a < p.outline.atoms → SameAtom w (at a) p a

-- an atom that answers as another has a choice where that has one
module _ (m : Meaning) (a : ℕ) (m' : Meaning) (a' : ℕ) (same : SameAtom m a m' a') (r : Round) (old new : Valuation) where
  abbrev given : ℕ → ℕ → Bool
  given k n = implies (m.outline.controls a n) (is_value (m.acts.gives r a k n old new) (new n))

  abbrev given' : ℕ → ℕ → Bool
  given' k n = implies (m'.outline.controls a' n) (is_value (m'.acts.gives r a' k n old new) (new n))

  takes_same : (k : ℕ) → takes m r a k old new ≡ takes m' r a' k old new
  takes_same k =
      ap (λ t. t && every (given k) 32) (same.opens r k old new) ∙
      ap (λ t. m'.acts.opens r a' k old new && t) (every_same (given k) (given' k) 32
      (λ n h. ap (λ t. implies t (is_value (m.acts.gives r a k n old new) (new n))) (same.controls n) ∙ ap (λ z. implies (m'.outline.controls a' n) (is_value z (new n))) (same.gives r k n old new)))

  pub chosen_same : some (λ k. takes m r a k old new) (m.acts.choices r a) ≡ some (λ k. takes m' r a' k old new) (m'.acts.choices r a')
  chosen_same =
      some_same (λ k. takes m r a k old new) (λ k. takes m' r a' k old new) (m.acts.choices r a) (λ k h. takes_same k) ∙
      ap (some (λ k. takes m' r a' k old new)) (same.choices r)

-- modules with the same tops and the same atoms have the same rounds
module _ (m m' : Meaning) (tops : (n : ℕ) → m.outline.top n ≡ m'.outline.top n) where
  pub state_same : (t : List ℕ) → is_state m.outline t ≡ is_state m'.outline t
  state_same t =
      ap (λ x. eqb (length t) 32 && x) (every_same (λ n. leb (value t n) (m.outline.top n)) (λ n. leb (value t n) (m'.outline.top n)) 32 (λ n h. ap (leb (value t n)) (tops n)))

  module _ (atoms : m.outline.atoms ≡ m'.outline.atoms) (each : (a : ℕ) → SameAtom m a m' a) where
    leads_same : (r : Round) (old new : Valuation) → leads m r old new ≡ leads m' r old new
    leads_same r old new =
        every_same (λ a. some (λ k. takes m r a k old new) (m.acts.choices r a)) (λ a. some (λ k. takes m' r a k old new) (m'.acts.choices r a)) m.outline.atoms
        (λ a h. chosen_same m a m' a (each a) r old new) ∙
        ap (every (λ a. some (λ k. takes m' r a k old new) (m'.acts.choices r a))) atoms

    pub yields_same : (r : Round) (s t : List ℕ) → yields m r s t ≡ yields m' r s t
    yields_same r s t =
        ap (λ x. x && leads m r (value s) (value t)) (state_same t) ∙ ap (λ x. is_state m'.outline t && x) (leads_same r (value s) (value t))

-- a state and its projection agree at the part's variables
pub projected_agree : (m : Meaning) (s : List ℕ) → Agree m.outline (value s) (value (projected m.outline s))
projected_agree m s n e = sym (projected_at m.outline s n (m.outline_laws.names n e) e)

pub leads_projected : (m : Meaning) (r : Round) (s t : List ℕ) → leads m r (value s) (value t) ≡ leads m r (value (projected m.outline s)) (value (projected m.outline t))
leads_projected m r s t =
    leads_seen m r (value s) (value t) (value (projected m.outline s)) (value (projected m.outline t)) (projected_agree m s) (projected_agree m t)

module _ (p w : Meaning) (at : ℕ → ℕ) (part : Part p w at) where
  leads_part : (r : Round) (old new : Valuation) → leads w r old new ≡ true → leads p r old new ≡ true
  leads_part r old new h =
      (every_decides (λ a. some (λ k. takes p r a k old new) (p.acts.choices r a)) p.outline.atoms).1
      (λ a l. sym (chosen_same w (at a) p a (part.atom a l) r old new) ∙ (every_decides (λ x. some (λ k. takes w r x k old new) (w.acts.choices r x)) w.outline.atoms).0 h (at a) (part.within a l))

  pub state_part : (t : List ℕ) → is_state w.outline t ≡ true → is_state p.outline (projected p.outline t) ≡ true
  state_part t h =
      let here : ℕ → ℕ = λ n. cond (is_some (p.outline.kind n)) (value t n) 0 in
      is_state_from p.outline (projected p.outline t) (length_as_state here)
      (λ n l. subst (λ v. v ≤ p.outline.top n) (sym (value_as_state here n l))
      (cond_both (is_some (p.outline.kind n)) (value t n) 0 (λ v. v ≤ p.outline.top n) (λ e. subst (λ v. value t n ≤ v) (part.top n e) (state_value w.outline t h n l)) (λ e. omega arith)))

  pub yields_part : (r : Round) (s t : List ℕ) → yields w r s t ≡ true → yields p r (projected p.outline s) (projected p.outline t) ≡ true
  yields_part r s t h =
      let both = and_parts (is_state w.outline t) (leads w r (value s) (value t)) h in
      and_from (is_state p.outline (projected p.outline t)) (leads p r (value (projected p.outline s)) (value (projected p.outline t)))
      (state_part t both.0) (sym (leads_projected p r s t) ∙ leads_part r (value s) (value t) both.1)

  pub part_simulates : Simulates w p (projected p.outline)
  part_simulates =
      record {
        starts = λ t h. record { yielded = subst (λ s. yields p Initial s (projected p.outline t) ≡ true) (projected_nothing p.outline) (yields_part Initial nothing t h.yielded) };
        steps = λ s t h. record { yielded = yields_part Update s t h.yielded };
      }
