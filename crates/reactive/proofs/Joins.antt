-- Joins are refused as the published conditions on composition say.
use Rattle.std.proofs.Common.{◌≡◌, ℕ, ◌+◌, ◌<◌, ◌≤◌, Bool, true, false, not, ◌&&◌, eqb, ltb, ◌⊎◌, ◌↔◌, is_some, Some, None, Option, sym, refl, ap, ◌∙◌, subst, inl, inr, ⊎_elim, arith}
use Rattle.std.proofs.lemmas.Bool.{false≢true, both_ways, and_from, and_parts, cases_Bool, cases_eq, eq-eqb, eqb-true, le-ltb, lt-ltb, ltb-false, ltb-true, not-true, not_from_false}
use Rattle.std.specs.Option.{option_or}
use Rattle.composition.proofs.Clashes.{clash_flip}
use Rattle.composition.specs.Faults.{clash, clashes, differs, raised, join_fault}
use Rattle.composition.specs.Meanings.{joined}
use Rattle.model.specs.Faults.{own}
use Rattle.model.specs.Meanings.{Meaning}
use Rattle.model.specs.Tests.{lowest}
use Rattle.model.specs.declared.Fault.{Fault}
use Rattle.model.specs.declared.Kind.{Kind}
use Rattle.model.specs.declared.Kind.TheVariants.{Private, Interface, External}
use Rattle.model.proofs.Lowest.{lowest_found, lowest_clear, clear_lowest}
use Rattle.units.specs.Refusals.{refusal_fault}
use Rattle.units.specs.Sealing.{badly_controlled, circular, sees_too_much, gets_stuck, leaves_range, too_wide, at_lowest, if_so, of_drawing, verdict, ◌else◌}
use Rattle.units.specs.declared.refusal.Refusal.{Refusal}
use Rattle.units.specs.declared.refusal.Refusal.TheVariants.{FaultyDrawing, NotOneController, AwaitsItself, SeesTooMuch, GetsStuck, LeavesRange, TooWide}
use Rattle.units.proofs.Evidence.{of_drawing_parts}
use Rattle.reactive.specs.Joins.{Clashes, Differs, JudgedJoin, JoinsAreRefusedAsPublished}
use Rattle.reactive.specs.Limits.{Limits}
use Rattle.reactive.specs.Modules.{module_of}
use Rattle.reactive.specs.Operations.{composed, NamesApart, SameValues, AwaitsInEither, Compatible, SameModule}
use Rattle.reactive.specs.Reactive.{Module, Controlled, Awaits, Acyclic, IsModule}
use Rattle.reactive.proofs.Awaiting.{NoCircle, acyclic_from, no_circle}
use Rattle.reactive.proofs.Composing.{awaits_split, awaits_joined, controls_exactly, one_controller, composed_is_module}
use Rattle.reactive.proofs.Controlling.{WellControlled, well_controlled}
use Rattle.reactive.proofs.Deciding.{drawing_decided}
use Rattle.reactive.proofs.Fit.{fit_exactly, module_free, module_inside}
use Rattle.reactive.proofs.Operations.{joins_are}
use Rattle.reactive.proofs.Refusing.{From, from_lowest, from_if, from_else, first_refuses, second_refuses, lowest_refuses, drawing_refuses, three, nine, ten, eleven, none_of_three, three_low, drawing_low, none_iff, least_iff, number, same_refusal, none_not_some}
use Rattle.reactive.proofs.Same.{controlled_there, atom_back, awaits_back, same_flipped, same_modules, plus_same}
use Rattle.reactive.proofs.States.{kind_split, variable_from, variable_there}

-- Kinds that clash

-- the kind is there
abbrev There : Option Kind → Type 0
There k = ((k ≡ Some Private) ⊎ (k ≡ Some Interface)) ⊎ (k ≡ Some External)

abbrev Clash : Option Kind → Option Kind → Type 0
Clash j k = ((j ≡ Some Private) × There k) ⊎ (((k ≡ Some Private) × There j) ⊎ ((j ≡ Some Interface) × (k ≡ Some Interface)))

clash_there : (j k : Option Kind) → clash j k ≡ true → Clash j k
clash_there None None e = absurd (false≢true e)
clash_there None (Some Private) e = absurd (false≢true e)
clash_there None (Some Interface) e = absurd (false≢true e)
clash_there None (Some External) e = absurd (false≢true e)
clash_there (Some Private) None e = absurd (false≢true e)
clash_there (Some Private) (Some k) e = inl (refl, kind_split (Some k) refl)
clash_there (Some Interface) None e = absurd (false≢true e)
clash_there (Some Interface) (Some Private) e = inr (inl (refl, inl (inr refl)))
clash_there (Some Interface) (Some Interface) e = inr (inr (refl, refl))
clash_there (Some Interface) (Some External) e = absurd (false≢true e)
clash_there (Some External) None e = absurd (false≢true e)
clash_there (Some External) (Some Private) e = inr (inl (refl, inr refl))
clash_there (Some External) (Some Interface) e = absurd (false≢true e)
clash_there (Some External) (Some External) e = absurd (false≢true e)

there_some : (k : Option Kind) → There k → is_some k ≡ true
there_some k (inl (inl e)) = ap is_some e
there_some k (inl (inr e)) = ap is_some e
there_some k (inr e) = ap is_some e

private_clash : (k : Option Kind) → is_some k ≡ true → clash (Some Private) k ≡ true
private_clash None e = absurd (false≢true e)
private_clash (Some k) e = refl

clash_from : (j k : Option Kind) → Clash j k → clash j k ≡ true
clash_from j k (inl (e, v)) = subst (λ x. clash x k ≡ true) (sym e) (private_clash k (there_some k v))
clash_from j k (inr (inl (e, v))) = clash_flip j k ∙ subst (λ x. clash x j ≡ true) (sym e) (private_clash j (there_some j v))
clash_from j k (inr (inr (e, f))) = subst (λ x. clash x k ≡ true) (sym e) (subst (λ x. clash (Some Interface) x ≡ true) (sym f) refl)

-- the checks of sealing from the second on, the third on, the fourth on

abbrev from_13 : Meaning → Option Refusal
from_13 m = at_lowest AwaitsItself (lowest (circular m.outline) m.outline.atoms) else at_lowest SeesTooMuch (lowest (sees_too_much m.outline) m.outline.atoms) else at_lowest GetsStuck (lowest (gets_stuck m) m.outline.atoms) else at_lowest LeavesRange (lowest (leaves_range m) m.outline.atoms) else if_so TooWide (too_wide m)

abbrev from_12 : Meaning → Option Refusal
from_12 m = at_lowest NotOneController (lowest (badly_controlled m.outline) 32) else from_13 m

abbrev from_14 : Meaning → Option Refusal
from_14 m = at_lowest SeesTooMuch (lowest (sees_too_much m.outline) m.outline.atoms) else at_lowest GetsStuck (lowest (gets_stuck m) m.outline.atoms) else at_lowest LeavesRange (lowest (leaves_range m) m.outline.atoms) else if_so TooWide (too_wide m)

above_14 : (m : Meaning) → From 14 (from_14 m)
above_14 m =
    from_else 14 (at_lowest SeesTooMuch (lowest (sees_too_much m.outline) m.outline.atoms)) _ (from_lowest 14 SeesTooMuch _ (λ n. omega arith))
    (from_else 14 (at_lowest GetsStuck (lowest (gets_stuck m) m.outline.atoms)) _ (from_lowest 14 GetsStuck _ (λ n. omega arith))
    (from_else 14 (at_lowest LeavesRange (lowest (leaves_range m) m.outline.atoms)) (if_so TooWide (too_wide m)) (from_lowest 14 LeavesRange _ (λ n. omega arith)) (from_if 14 TooWide (too_wide m) (omega arith))))

above_12 : (m : Meaning) → From 12 (from_12 m)
above_12 m =
    from_else 12 (at_lowest NotOneController (lowest (badly_controlled m.outline) 32)) (from_13 m) (from_lowest 12 NotOneController _ (λ n. omega arith))
    (from_else 12 (at_lowest AwaitsItself (lowest (circular m.outline) m.outline.atoms)) (from_14 m) (from_lowest 12 AwaitsItself _ (λ n. omega arith))
    (λ f e. let h : 14 ≤ number f = above_14 m f e in omega (arith, h)))

-- the atom of which a refusal tells
abbrev atom_told : Refusal → ℕ
atom_told f = (refusal_fault f).place

skip : (x y : Option Refusal) → x ≡ None → (x else y) ≡ y
skip x y e = ap (λ o. o else y) e

module _ (l r : Meaning) where
  abbrev P : Module
  P = module_of l

  abbrev Q : Module
  Q = module_of r

  abbrev m : Meaning
  m = joined l r

  clash_iff : (n : ℕ) → (clashes l.outline r.outline n ≡ true) ↔ Clashes P Q n
  clash_iff n = (clash_there (l.outline.kind n) (r.outline.kind n), clash_from (l.outline.kind n) (r.outline.kind n))

  clash_low : (n : ℕ) → Clashes P Q n → n < 32
  clash_low n (inl (e, v)) = l.outline_laws.names n (ap is_some e)
  clash_low n (inr (inl (e, v))) = r.outline_laws.names n (ap is_some e)
  clash_low n (inr (inr (e, f))) = l.outline_laws.names n (ap is_some e)

  differ_iff : (n : ℕ) → (differs l.outline r.outline n ≡ true) ↔ Differs P Q n
  differ_iff n = (there, back)
    where
      there : differs l.outline r.outline n ≡ true → Differs P Q n
      there h =
          let both = and_parts (is_some (l.outline.kind n) && is_some (r.outline.kind n)) (not (eqb (l.outline.top n) (r.outline.top n))) h in
          let two = and_parts (is_some (l.outline.kind n)) (is_some (r.outline.kind n)) both.0 in (
            variable_from l n two.0,
            variable_from r n two.1,
            λ same. both_ways (eqb (l.outline.top n) (r.outline.top n)) (not-true _ both.1) (eq-eqb (l.outline.top n) (r.outline.top n) (omega (arith, (same (l.outline.top n)).0 (omega arith), (same (r.outline.top n)).1 (omega arith)))),
          )

      back : Differs P Q n → differs l.outline r.outline n ≡ true
      back (x, y, other) =
          and_from (is_some (l.outline.kind n) && is_some (r.outline.kind n)) (not (eqb (l.outline.top n) (r.outline.top n)))
          (and_from (is_some (l.outline.kind n)) (is_some (r.outline.kind n)) (variable_there l n x) (variable_there r n y))
          (not_from_false _ (⊎_elim (λ t. let e = eqb-true (l.outline.top n) (r.outline.top n) t in absurd (other (λ v. (λ h. omega (arith, e, h), λ h. omega (arith, e, h))))) (λ f. f) (cases_Bool (eqb (l.outline.top n) (r.outline.top n)))))

  differ_low : (n : ℕ) → Differs P Q n → n < 32
  differ_low n d = l.outline_laws.names n (variable_there l n d.0)

  apart_iff : ((n : ℕ) → Clashes P Q n → ⊥) ↔ NamesApart P Q
  apart_iff = (
    λ none. record { left_private = λ x h v. none x (inl (h, v)); right_private = λ x h v. none x (inr (inl (h, v))); interfaces = λ x h k. none x (inr (inr (h, k))) },
    λ apart n. ⊎_elim (λ c. apart.left_private n c.0 c.1) (⊎_elim (λ c. apart.right_private n c.0 c.1) (λ c. apart.interfaces n c.0 c.1)),
  )

  values_iff : ((n : ℕ) → Differs P Q n → ⊥) ↔ SameValues P Q
  values_iff = (
    λ none x v h k. ⊎_elim (λ e. (λ a. omega (arith, e, a), λ a. omega (arith, e, a))) (λ d. absurd (none x (h, k, λ same. d (omega (arith, (same (l.outline.top x)).0 (omega arith), (same (r.outline.top x)).1 (omega arith)))))) (cases_eq (l.outline.top x) (r.outline.top x)),
    λ same n d. d.2 (λ v. same n v d.0 d.1),
  )

  abbrev full : Bool
  full = ltb 16 (l.outline.atoms + r.outline.atoms)

  -- what may be composed, but for awaiting
  abbrev Allowed : Type 0
  Allowed = NamesApart P Q × SameValues P Q × (l.outline.atoms + r.outline.atoms ≤ 16)

  module _ (sound_left : l.outline.fault ≡ None) (sound_right : r.outline.fault ≡ None) where
    fault_is : m.outline.fault ≡ three (lowest (clashes l.outline r.outline) 32) (lowest (differs l.outline r.outline) 32) full
    fault_is =
        subst (λ f. option_or (raised 1 f) (option_or (raised (1 + l.outline.layers) r.outline.fault) (join_fault l.outline r.outline)) ≡ join_fault l.outline r.outline) (sym sound_left)
        (subst (λ f. option_or (raised (1 + l.outline.layers) f) (join_fault l.outline r.outline) ≡ join_fault l.outline r.outline) (sym sound_right) refl)

    abbrev none_clash : (lowest (clashes l.outline r.outline) 32 ≡ None) ↔ ((n : ℕ) → Clashes P Q n → ⊥)
    none_clash = none_iff (clashes l.outline r.outline) (Clashes P Q) 32 clash_iff clash_low

    abbrev none_differ : (lowest (differs l.outline r.outline) 32 ≡ None) ↔ ((n : ℕ) → Differs P Q n → ⊥)
    none_differ = none_iff (differs l.outline r.outline) (Differs P Q) 32 differ_iff differ_low

    sound_iff : (m.outline.fault ≡ None) ↔ Allowed
    sound_iff = (
      λ e.
          let h = (none_of_three (lowest (clashes l.outline r.outline) 32) (lowest (differs l.outline r.outline) 32) full).0 (sym fault_is ∙ e) in
          (apart_iff.0 (none_clash.0 h.0), values_iff.0 (none_differ.0 h.1), ltb-false 16 (l.outline.atoms + r.outline.atoms) h.2),
      λ h. fault_is ∙ (none_of_three (lowest (clashes l.outline r.outline) 32) (lowest (differs l.outline r.outline) 32) full).1 (none_clash.1 (apart_iff.1 h.0), none_differ.1 (values_iff.1 h.1), le-ltb 16 (l.outline.atoms + r.outline.atoms) h.2),
    )

    -- the verdict is a fault of the drawing exactly where the drawing has it
    faulty : (f : Fault) → f.number < 12 → (verdict m ≡ Some (FaultyDrawing f)) ↔ (three (lowest (clashes l.outline r.outline) 32) (lowest (differs l.outline r.outline) 32) full ≡ Some f)
    faulty f low =
        let first = first_refuses (of_drawing m.outline.fault) (from_12 m) 12 (FaultyDrawing f) low (above_12 m) in
        let told = drawing_refuses m.outline.fault f in
        (λ e. sym fault_is ∙ told.0 (first.0 e), λ e. first.1 (told.1 (fault_is ∙ e)))

    module _ (p : IsModule P) (q : IsModule Q) where
      module _ (allowed : Allowed) where
        sound : m.outline.fault ≡ None
        sound = sound_iff.1 allowed

        same : SameModule (module_of m) (composed P Q)
        same = joins_are l r sound

        controls_whole : (x : ℕ) → Controlled (composed P Q) x ↔ ((i : P.Index ⊎ Q.Index) × ((composed P Q).atom i).controls x)
        controls_whole = controls_exactly P Q p q allowed.0 allowed.1 (drawing_decided l).interface (drawing_decided r).interface

        whole_controlled : WellControlled m
        whole_controlled = well_controlled m
            (λ n c. let found = (controls_whole n).0 (controlled_there (module_of m) (composed P Q) same n c) in (same.back found.0, ((atom_back (module_of m) (composed P Q) same found.0).controls n).1 found.1))
            (λ i j n c d.
            let e = one_controller P Q p q allowed.0 allowed.1 (drawing_decided l).interface (drawing_decided r).interface (same.there i) (same.there j) n (((same.atoms i).controls n).0 c) (((same.atoms j).controls n).0 d) in
            sym (same.there_and_back i) ∙ ap same.back e ∙ same.there_and_back j)

        well_checked : at_lowest NotOneController (lowest (badly_controlled m.outline) 32) ≡ None
        well_checked = ap (at_lowest NotOneController) (clear_lowest (badly_controlled m.outline) 32 whole_controlled)

        to_either : (x y : ℕ) → Awaits (module_of m) x y → AwaitsInEither P Q x y
        to_either x y w = awaits_split P Q x y (awaits_back (composed P Q) (module_of m) (same_flipped (module_of m) (composed P Q) same) x y w)

        from_either : (x y : ℕ) → AwaitsInEither P Q x y → Awaits (module_of m) x y
        from_either x y w = awaits_back (module_of m) (composed P Q) same x y (awaits_joined P Q x y w)

        acyclic_iff : Acyclic (AwaitsInEither P Q) ↔ NoCircle m
        acyclic_iff = (
          λ h. no_circle m (λ x y a b. h x y (plus_same (Awaits (module_of m)) (AwaitsInEither P Q) to_either x y a) (plus_same (Awaits (module_of m)) (AwaitsInEither P Q) to_either y x b)),
          λ h x y a b. acyclic_from m h x y (plus_same (AwaitsInEither P Q) (Awaits (module_of m)) from_either x y a) (plus_same (AwaitsInEither P Q) (Awaits (module_of m)) from_either y x b),
        )

        whole_module : Acyclic (AwaitsInEither P Q) → IsModule (module_of m)
        whole_module h = (same_modules (module_of m) (composed P Q) same).1 (composed_is_module P Q p q allowed.0 allowed.1 (drawing_decided l).interface (drawing_decided r).interface h)

      fit : (verdict m ≡ None) ↔ (Compatible P Q × (l.outline.atoms + r.outline.atoms ≤ 16) × Limits m)
      fit = (
        λ e.
            let (no_fault, module_fine, limits) = (fit_exactly m).0 e in
            let allowed = sound_iff.0 no_fault in
            (record { apart = allowed.0; same_values = allowed.1; acyclic = (acyclic_iff allowed).1 (no_circle m module_fine.acyclic) }, allowed.2, limits),
        λ h.
            let allowed : Allowed = (h.0.apart, h.0.same_values, h.1) in
            (fit_exactly m).1 (sound allowed, whole_module allowed h.0.acyclic, h.2),
      )

      -- the check for circles, where the ones before it pass
      circle_at : (a : ℕ) → (verdict m ≡ Some (AwaitsItself a)) ↔
          ((of_drawing m.outline.fault ≡ None) × (at_lowest NotOneController (lowest (badly_controlled m.outline) 32) ≡ None) × (lowest (circular m.outline) m.outline.atoms ≡ Some a))
      circle_at a =
          let drawing = second_refuses (of_drawing m.outline.fault) (from_12 m) (AwaitsItself a) (λ g e same_number. omega (arith, same_number, drawing_low m.outline.fault (λ f h. three_low _ _ full f (sym fault_is ∙ h)) g e)) in
          let one = second_refuses (at_lowest NotOneController (lowest (badly_controlled m.outline) 32)) (from_13 m) (AwaitsItself a) (λ g e same_number. twelve (lowest (badly_controlled m.outline) 32) g e same_number) in
          let circles = first_refuses (at_lowest AwaitsItself (lowest (circular m.outline) m.outline.atoms)) (from_14 m) 14 (AwaitsItself a) (omega arith) (above_14 m) in
          let place = lowest_refuses AwaitsItself atom_told (λ n. refl) (lowest (circular m.outline) m.outline.atoms) a in (
            λ e. let d = drawing.0 e in let o = one.0 d.1 in (d.0, o.0, place.0 (circles.0 o.1)),
            λ h. drawing.1 (h.0, one.1 (h.1, circles.1 (place.1 h.2))),
          )
        where
          twelve : (x : Option ℕ) (g : Refusal) → at_lowest NotOneController x ≡ Some g → number g ≡ 13 → ⊥
          twelve None g e n = absurd (none_not_some g e)
          twelve (Some i) g e n = omega (arith, n, ap number (same_refusal (NotOneController i) g e))

      circle : ((a : ℕ) × (verdict m ≡ Some (AwaitsItself a))) ↔ (NamesApart P Q × SameValues P Q × (l.outline.atoms + r.outline.atoms ≤ 16) × (Acyclic (AwaitsInEither P Q) → ⊥))
      circle = (
        λ h.
            let c = (circle_at h.0).0 h.1 in
            let allowed = sound_iff.0 (of_drawing_parts m.outline.fault c.0) in
            let found = lowest_found (circular m.outline) m.outline.atoms h.0 c.2 in
            (allowed.0, allowed.1, allowed.2, λ acyclic. both_ways (circular m.outline h.0) ((acyclic_iff allowed).0 acyclic h.0 found.inside) found.passes),
        λ h.
            let allowed : Allowed = (h.0, h.1, h.2) in
            let found = circling allowed h.3 (lowest (circular m.outline) m.outline.atoms) refl in
            (found.0, (circle_at found.0).1 (ap of_drawing (sound allowed), well_checked allowed, found.1)),
      )
        where
          circling : (allowed : Allowed) → (Acyclic (AwaitsInEither P Q) → ⊥) → (o : Option ℕ) → lowest (circular m.outline) m.outline.atoms ≡ o → (a : ℕ) × (lowest (circular m.outline) m.outline.atoms ≡ Some a)
          circling allowed cyclic None e = absurd (cyclic ((acyclic_iff allowed).1 (lowest_clear (circular m.outline) m.outline.atoms e)))
          circling allowed cyclic (Some a) e = (a, e)

      limits : Compatible P Q → l.outline.atoms + r.outline.atoms ≤ 16 → (refusal : Refusal) → verdict m ≡ Some refusal → ((a : ℕ) × (refusal ≡ SeesTooMuch a)) ⊎ (refusal ≡ TooWide)
      limits compatible few refusal e =
          let allowed : Allowed = (compatible.apart, compatible.same_values, few) in
          let fine = whole_module allowed compatible.acyclic in
          let one = skip (of_drawing m.outline.fault) (from_12 m) (ap of_drawing (sound allowed)) in
          let two = skip (at_lowest NotOneController (lowest (badly_controlled m.outline) 32)) (from_13 m) (well_checked allowed) in
          let three_on = skip (at_lowest AwaitsItself (lowest (circular m.outline) m.outline.atoms)) (from_14 m) (ap (at_lowest AwaitsItself) (clear_lowest (circular m.outline) m.outline.atoms ((acyclic_iff allowed).0 compatible.acyclic))) in
          let stuck : at_lowest GetsStuck (lowest (gets_stuck m) m.outline.atoms) ≡ None = ap (at_lowest GetsStuck) (clear_lowest (gets_stuck m) m.outline.atoms (module_free m fine)) in
          let range : at_lowest LeavesRange (lowest (leaves_range m) m.outline.atoms) ≡ None = ap (at_lowest LeavesRange) (clear_lowest (leaves_range m) m.outline.atoms (module_inside m fine)) in
          let rest = skip (at_lowest GetsStuck (lowest (gets_stuck m) m.outline.atoms)) (at_lowest LeavesRange (lowest (leaves_range m) m.outline.atoms) else if_so TooWide (too_wide m)) stuck ∙ skip (at_lowest LeavesRange (lowest (leaves_range m) m.outline.atoms)) (if_so TooWide (too_wide m)) range in
          told (lowest (sees_too_much m.outline) m.outline.atoms) (too_wide m) (sym (ap (λ y. at_lowest SeesTooMuch (lowest (sees_too_much m.outline) m.outline.atoms) else y) rest) ∙ sym three_on ∙ sym two ∙ sym one ∙ e)
        where
          told : (x : Option ℕ) (b : Bool) → (at_lowest SeesTooMuch x else if_so TooWide b) ≡ Some refusal → ((a : ℕ) × (refusal ≡ SeesTooMuch a)) ⊎ (refusal ≡ TooWide)
          told (Some a) b e = inl (a, sym (same_refusal (SeesTooMuch a) refusal e))
          told None true e = inr (sym (same_refusal TooWide refusal e))
          told None false e = absurd (none_not_some refusal e)

      judged_join : JudgedJoin P Q (l.outline.atoms + r.outline.atoms) (Limits m) (verdict m)
      judged_join =
          let c = lowest (clashes l.outline r.outline) 32 in
          let d = lowest (differs l.outline r.outline) 32 in
          record {
            fit = fit;
            clash = λ n.
                let told = faulty (own 9 n) (omega arith) in
                let least = least_iff (clashes l.outline r.outline) (Clashes P Q) 32 clash_iff clash_low n in
                (λ e. least.0 ((nine c d full n).0 (told.0 e)), λ h. told.1 ((nine c d full n).1 (least.1 h)));
            values = λ n.
                let told = faulty (own 10 n) (omega arith) in
                let least = least_iff (differs l.outline r.outline) (Differs P Q) 32 differ_iff differ_low n in (
                  λ e. let h = (ten c d full n).0 (told.0 e) in (apart_iff.0 (none_clash.0 h.0), least.0 h.1),
                  λ h. told.1 ((ten c d full n).1 (none_clash.1 (apart_iff.1 h.0), least.1 h.1)),
                );
            atoms =
                let told = faulty (own 11 0) (omega arith) in (
                  λ e. let h = (eleven c d full).0 (told.0 e) in (apart_iff.0 (none_clash.0 h.0), values_iff.0 (none_differ.0 h.1), ltb-true 16 (l.outline.atoms + r.outline.atoms) h.2),
                  λ h. told.1 ((eleven c d full).1 (none_clash.1 (apart_iff.1 h.0), none_differ.1 (values_iff.1 h.1), lt-ltb 16 (l.outline.atoms + r.outline.atoms) h.2)),
                );
            circle = circle;
            limited = limits;
          }

pub joins_refused : JoinsAreRefusedAsPublished
joins_refused l r = judged_join l r
