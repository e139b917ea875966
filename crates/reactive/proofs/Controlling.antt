-- Counts, and what it takes for each name to have one controller.
use Rattle.model.proofs.Counted.{some_counted, only_one, counted_once}
use Rattle.std.proofs.Common.{◌≡◌, ℕ, ◌<◌, true, false, not, eqb, ◌⊎◌, ◌↔◌, is_some, Some, None, Option, refl, ap, inl, inr, ⊎_elim, arith}
use Rattle.std.proofs.lemmas.Bool.{false≢true, both_ways, and_cases, and_left, and_right, cases_Bool, eq-eqb, eqb-true, not-false, not_from_true}
use Rattle.model.specs.Meanings.{Meaning}
use Rattle.model.specs.declared.Kind.{Kind}
use Rattle.model.specs.declared.Kind.TheVariants.{Private, Interface, External}
use Rattle.units.specs.Sealing.{owned, controllers, badly_controlled}
use Rattle.reactive.specs.Modules.{Below, module_of}
use Rattle.reactive.specs.Reactive.{Controlled}
use Rattle.reactive.proofs.Operations.{same_number}
use Rattle.reactive.proofs.States.{variable_from}

-- owned names are private or interface
owned_split : (k : Option Kind) → owned k ≡ true → (k ≡ Some Private) ⊎ (k ≡ Some Interface)
owned_split None e = absurd (false≢true e)
owned_split (Some Private) e = inl refl
owned_split (Some Interface) e = inr refl
owned_split (Some External) e = absurd (false≢true e)

module _ (m : Meaning) where
  owned_from : (n : ℕ) → Controlled (module_of m) n → owned (m.outline.kind n) ≡ true
  owned_from n (inl e) = ap owned e
  owned_from n (inr e) = ap owned e

  controlled_known : (a n : ℕ) → m.outline.controls a n ≡ true → Controlled (module_of m) n
  controlled_known a n c = ⊎_elim (λ h. h) (λ e. absurd (m.outline_laws.controls_own a n c e)) (variable_from m n (m.outline_laws.controls_known a n c).1)

  -- no name is badly controlled
  abbrev pub WellControlled : Type 0
  WellControlled = (n : ℕ) → n < 32 → badly_controlled m.outline n ≡ false

  module _ (well : WellControlled) where
    one_of : (n : ℕ) → Controlled (module_of m) n → controllers m.outline n ≡ 1
    one_of n c =
        let e = owned_from n c in
        ⊎_elim (λ f. absurd (both_ways (owned (m.outline.kind n)) f e)) (λ f. eqb-true (controllers m.outline n) 1 (not-false _ f))
        (and_cases (owned (m.outline.kind n)) (not (eqb (controllers m.outline n) 1)) (well n (m.outline_laws.names n (there c))))
      where
        there : Controlled (module_of m) n → is_some (m.outline.kind n) ≡ true
        there (inl e) = ap is_some e
        there (inr e) = ap is_some e

    pub controls_exactly : (n : ℕ) → Controlled (module_of m) n ↔ ((i : Below m.outline.atoms) × (m.outline.controls i.number n ≡ true))
    controls_exactly n = (
      λ c. let found = some_counted (λ a. m.outline.controls a n) m.outline.atoms (omega (arith, one_of n c)) in (record { number = found.0; low = found.1 }, found.2),
      λ h. controlled_known h.0.number n h.1,
    )

    pub controls_once : (i j : Below m.outline.atoms) (n : ℕ) → m.outline.controls i.number n ≡ true → m.outline.controls j.number n ≡ true → i ≡ j
    controls_once i j n e f =
        same_number i j (only_one (λ a. m.outline.controls a n) m.outline.atoms i.number j.number (one_of n (controlled_known i.number n e)) i.low j.low e f)

  pub well_controlled : ((n : ℕ) → Controlled (module_of m) n → (i : Below m.outline.atoms) × (m.outline.controls i.number n ≡ true)) →
      ((i j : Below m.outline.atoms) (n : ℕ) → m.outline.controls i.number n ≡ true → m.outline.controls j.number n ≡ true → i ≡ j) → WellControlled
  well_controlled some once n h = go (cases_Bool (owned (m.outline.kind n)))
    where
      go : (owned (m.outline.kind n) ≡ true) ⊎ (owned (m.outline.kind n) ≡ false) → badly_controlled m.outline n ≡ false
      go (inr f) = and_left (owned (m.outline.kind n)) (not (eqb (controllers m.outline n) 1)) f
      go (inl t) =
          let found = some n (owned_split (m.outline.kind n) t) in
          and_right (owned (m.outline.kind n)) (not (eqb (controllers m.outline n) 1)) (not_from_true _ (eq-eqb (controllers m.outline n) 1
          (counted_once (λ a. m.outline.controls a n) m.outline.atoms found.0.number found.0.low found.1
          (λ j l e. ap (λ (i : Below m.outline.atoms). i.number) (once (record { number = j; low = l }) found.0 n e found.1)))))
