-- A round looks only at the values of a module's variables.
use Rattle.std.proofs.Common.{◌≡◌, ℕ, Bool, true, false, ◌&&◌, ◌⊎◌, is_some, sym, ap, ◌∙◌, inl, inr}
use Rattle.std.proofs.lemmas.Bool.{cases_Bool}
use Rattle.model.specs.Meanings.{Valuation, OutlineFacts, Meaning, Alike}
use Rattle.model.specs.States.{is_value, takes}
use Rattle.model.specs.Tests.{every, some, implies}
use Rattle.model.specs.declared.Round.{Round}
use Rattle.composition.proofs.Tests.{every_same, some_same}

-- the two give the same values to the outline's variables
abbrev pub Agree : OutlineFacts → Valuation → Valuation → Type 0
Agree o v w = (n : ℕ) → is_some (o.kind n) ≡ true → v n ≡ w n

-- each atom has a choice that leads from old values to new ones
abbrev pub leads : Meaning → Round → Valuation → Valuation → Bool
leads m r old new = every (λ a. some (λ k. takes m r a k old new) (m.acts.choices r a)) m.outline.atoms

module _ (m : Meaning) (r : Round) (old new old' new' : Valuation) (olds : Agree m.outline old old') (news : Agree m.outline new new') where
  alike : (a : ℕ) → Alike m.outline r a old new old' new'
  alike a =
      record {
        awaited = λ n e. news n (m.outline_laws.awaits_known a n e).1;
        read = λ u n e. olds n (m.outline_laws.reads_known a n e).1;
      }

  given : (a k n : ℕ) → implies (m.outline.controls a n) (is_value (m.acts.gives r a k n old new) (new n)) ≡ implies (m.outline.controls a n) (is_value (m.acts.gives r a k n old' new') (new' n))
  given a k n = go (cases_Bool (m.outline.controls a n))
    where
      go : (m.outline.controls a n ≡ true) ⊎ (m.outline.controls a n ≡ false) → implies (m.outline.controls a n) (is_value (m.acts.gives r a k n old new) (new n)) ≡ implies (m.outline.controls a n) (is_value (m.acts.gives r a k n old' new') (new' n))
      go (inl e) =
          ap (λ z. implies (m.outline.controls a n) (is_value z (new n))) (m.choice_laws.gives_by_sight r a k n old new old' new' (alike a)) ∙
          ap (λ v. implies (m.outline.controls a n) (is_value (m.acts.gives r a k n old' new') v)) (news n (m.outline_laws.controls_known a n e).1)
      go (inr e) = ap (λ t. implies t (is_value (m.acts.gives r a k n old new) (new n))) e ∙ sym (ap (λ t. implies t (is_value (m.acts.gives r a k n old' new') (new' n))) e)

  pub takes_seen : (a k : ℕ) → takes m r a k old new ≡ takes m r a k old' new'
  takes_seen a k =
      ap (λ t. t && every (λ n. implies (m.outline.controls a n) (is_value (m.acts.gives r a k n old new) (new n))) 32) (m.choice_laws.opens_by_sight r a k old new old' new' (alike a)) ∙
      ap (λ t. m.acts.opens r a k old' new' && t) (every_same (λ n. implies (m.outline.controls a n) (is_value (m.acts.gives r a k n old new) (new n))) (λ n. implies (m.outline.controls a n) (is_value (m.acts.gives r a k n old' new') (new' n))) 32 (λ n h. given a k n))

  pub leads_seen : leads m r old new ≡ leads m r old' new'
  leads_seen =
      every_same (λ a. some (λ k. takes m r a k old new) (m.acts.choices r a)) (λ a. some (λ k. takes m r a k old' new') (m.acts.choices r a)) m.outline.atoms
      (λ a h. some_same (λ k. takes m r a k old new) (λ k. takes m r a k old' new') (m.acts.choices r a) (λ k l. takes_seen a k))
