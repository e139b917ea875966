-- The outline of a gate list keeps the laws of outlines.
use Rattle.std.specs.Prelude.{◌≡◌, ℕ, ◌<◌, ◌≤◌, Bool, true, false, cond, ◌⊎◌, List, [], length, is_some, Some, None, Option, ◌≢◌, refl}
use Rattle.std.proofs.Common.{inl, inr, ⊎_elim, ap, subst, ◌∙◌, arith}
use Rattle.std.proofs.lemmas.List.{nil_from_length}
use Rattle.std.proofs.lemmas.Bool.{both_ways}
use Rattle.std.specs.List.{slice_get}
use Rattle.std.specs.Option.{option_map}
use Rattle.model.specs.Meanings.{OutlineLaws}
use Rattle.model.specs.Tests.{some}
use Rattle.model.proofs.Bounded.{some_at}
use Rattle.model.specs.declared.Fault.{Fault}
use Rattle.model.specs.declared.Kind.{Kind}
use Rattle.model.specs.declared.Kind.TheVariants.{External}
use Rattle.gates.specs.Facts.{gate_fault, by_use, kind_in, of_part, list_outline}
use Rattle.gates.specs.Gates.{uses, used, target, controls_of, reads_of, awaits_of}
use Rattle.gates.specs.Netlists.{Netlist}
use Rattle.gates.specs.WellFormed.{WellFormed}
use Rattle.gates.specs.declared.gate.Field.{Field}
use Rattle.gates.specs.declared.gate.Field.TheVariants.{Input, Out, Own}
use Rattle.gates.specs.declared.gate.Part.{Part}
use Rattle.gates.specs.laws.Parts.{controls_owned, reads_uses, awaits_uses, controls_target, target_small, used_small, asked, used_nth, small_nth, nth_some}

some_by_use : (out own input : Bool) → ((out ≡ true) ⊎ (own ≡ true)) ⊎ (input ≡ true) → is_some (by_use out own input) ≡ true
some_by_use true own input h = refl
some_by_use false true input h = refl
some_by_use false false true h = refl
some_by_use false false false h = ⊎_elim (⊎_elim (λ e. e) (λ e. e)) (λ e. e) h

used_by_some : (out own input : Bool) → is_some (by_use out own input) ≡ true → ((out ≡ true) ⊎ (own ≡ true)) ⊎ (input ≡ true)
used_by_some true own input h = inl (inl refl)
used_by_some false true input h = inl (inr refl)
used_by_some false false true h = inr refl
used_by_some false false false h = inr h

not_external : (out own input : Bool) → (out ≡ true) ⊎ (own ≡ true) → by_use out own input ≢ Some External
not_external true own input h e = let z : ◌≡◌ {A = ℕ} 0 1 = cc in omega arith
not_external false true input h e = let z : ◌≡◌ {A = ℕ} 0 1 = cc in omega arith
not_external false false input h e = ⊎_elim (both_ways false refl) (both_ways false refl) h

one_or_none : (o : Option Kind) → cond (is_some o) 1 0 ≤ 255
one_or_none None = omega arith
one_or_none (Some k) = omega arith

one_of_some : (o : Option Kind) → is_some o ≡ true → 1 ≤ cond (is_some o) 1 0
one_of_some None h = absurd (both_ways false refl h)
one_of_some (Some k) h = omega arith

none_of_none : (o : Option Kind) → o ≡ None → ◌≡◌ {A = ℕ} (cond (is_some o) 1 0) 0
none_of_none o h = ap (λ q. cond (is_some q) 1 0) h

module _ (l : Netlist) (w : WellFormed l) where
  abbrev ps : List Part
  ps = l.parts

  known : (a n : ℕ) (f : Field) (p : Part) → slice_get ps a ≡ Some p → uses f p n ≡ true → is_some (kind_in ps n) ≡ true
  known a n Out p e u = some_by_use (used Out ps n) (used Own ps n) (used Input ps n) (inl (inl (used_nth Out ps a n p e u)))
  known a n Own p e u = some_by_use (used Out ps n) (used Own ps n) (used Input ps n) (inl (inr (used_nth Own ps a n p e u)))
  known a n Input p e u = some_by_use (used Out ps n) (used Own ps n) (used Input ps n) (inr (used_nth Input ps a n p e u))

  named : (n : ℕ) → is_some (kind_in ps n) ≡ true → n < 32
  named n h =
      ⊎_elim (⊎_elim (used_small Out ps n w.named) (used_small Own ps n w.named)) (used_small Input ps n w.named) (used_by_some (used Out ps n) (used Own ps n) (used Input ps n) h)

  no_parts : is_some l.fault_place ≡ true → ps ≡ []
  no_parts h = nil_from_length ps (w.empty_if_faulty h)

  numbered : (o : Option ℕ) (f : Fault) → option_map gate_fault o ≡ Some f → 1 ≤ f.number
  numbered None f e = let z : ◌≡◌ {A = ℕ} 0 1 = cc in absurd (omega arith)
  numbered (Some place) f e = let is : gate_fault place ≡ f = cc in subst (λ (g : Fault). 1 ≤ g.number) is (omega arith)

  told_there : (o : Option ℕ) → is_some (option_map gate_fault o) ≡ true → is_some o ≡ true
  told_there None h = h
  told_there (Some place) h = refl

  pub outline_laws : OutlineLaws (list_outline l)
  outline_laws = record {
    some_layer = omega arith;
    layers_told = omega arith;
    names = named;
    top_from_1 = λ n h. one_of_some (kind_in ps n) h;
    top_to_255 = λ n. one_or_none (kind_in ps n);
    no_top = λ n h. none_of_none (kind_in ps n) h;
    few_atoms = w.few;
    controls_known = λ a n h.
        let k = asked ps a (λ p. controls_of p n) h in
        (k.inside, ⊎_elim (known a n Out k.part k.there) (known a n Own k.part k.there) (controls_owned k.part n k.holds));
    reads_known = λ a n h.
        let k = asked ps a (λ p. reads_of p n) h in
        (k.inside, known a n Own k.part k.there (reads_uses k.part n k.holds));
    awaits_known = λ a n h.
        let k = asked ps a (λ p. awaits_of p n) h in
        (k.inside, known a n Input k.part k.there (awaits_uses k.part n k.holds));
    controls_some = λ a h.
        let k = nth_some ps a h in
        let named = small_nth ps a k.0 w.named k.1 in
        ap (λ o. some (λ n. of_part (λ p. controls_of p n) false o) 32) k.1 ∙ some_at (controls_of k.0) 32 (target k.0) (target_small k.0 named) (controls_target k.0 named);
    controls_own = λ a n h.
        let k = asked ps a (λ p. controls_of p n) h in
        not_external (used Out ps n) (used Own ps n) (used Input ps n) (⊎_elim (λ u. inl (used_nth Out ps a n k.part k.there u)) (λ u. inr (used_nth Own ps a n k.part k.there u)) (controls_owned k.part n k.holds));
    fault_numbered = numbered l.fault_place;
    fault_empty = λ h.
        let none = no_parts (told_there l.fault_place h) in
        (ap length none, λ n. ap (λ qs. kind_in qs n) none);
  }
