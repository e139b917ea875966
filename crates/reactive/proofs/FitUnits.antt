-- When a unit is fit.
use Rattle.std.proofs.Common.{◌≡◌, ℕ, ◌+◌, ◌≤◌, ltb, ◌↔◌, map, None, sym, refl, ap, ◌∙◌, subst, ap₂, length-append, arith}
use Rattle.std.proofs.lemmas.Bool.{le-ltb, ltb-false}
use Rattle.std.proofs.lemmas.List.{length-map}
use Rattle.composition.specs.Meanings.{renamed, hidden, joined}
use Rattle.model.specs.Meanings.{Meaning}
use Rattle.units.specs.Sealing.{verdict, if_so}
use Rattle.units.specs.Units.{verdict_with, claim_renamed, claim_joined}
use Rattle.units.specs.declared.refusal.Refusal.TheVariants.{TooManyClaims}
use Rattle.units.proofs.Evidence.{else_parts, else_from, if_so_parts}
use Rattle.reactive.specs.FitUnits.{FitAs, UnitsAreFitExactlyWhenModulesWithinLimits}
use Rattle.reactive.specs.Modules.{module_of}
use Rattle.reactive.specs.Operations.{SameModule, composed, renamed_module, hidden_module}
use Rattle.reactive.specs.Reactive.{Module}
use Rattle.reactive.proofs.Fit.{fit_exactly}
use Rattle.reactive.proofs.Operations.{joins_are, hides_are}
use Rattle.reactive.proofs.Renamed.{renames_are}
use Rattle.reactive.proofs.Same.{same_modules}

-- with so many claims
with_claims : (m : Meaning) (n : ℕ) → (verdict_with m (ltb 8 n) ≡ None) ↔ ((verdict m ≡ None) × (n ≤ 8))
with_claims m n = (
  λ h. let parts = else_parts (verdict m) (if_so TooManyClaims (ltb 8 n)) h in (parts.0, ltb-false 8 n (if_so_parts TooManyClaims (ltb 8 n) parts.1)),
  λ h. else_from (verdict m) (if_so TooManyClaims (ltb 8 n)) h.0 (ap (if_so TooManyClaims) (le-ltb 8 n h.1)),
)

-- a pile, whose module is P where it has no fault
pile_fit : (m : Meaning) (P : Module) (n k : ℕ) → n ≡ k → (m.outline.fault ≡ None → SameModule (module_of m) P) →
    (verdict_with m (ltb 8 n) ≡ None) ↔ FitAs m P k
pile_fit m P n k e same = (
  λ h.
      let claims = (with_claims m n).0 h in
      let fit = (fit_exactly m).0 claims.0 in
      record { sound = fit.0; fine = (same_modules (module_of m) P (same fit.0)).0 fit.1; limits = fit.2; few = subst (λ x. x ≤ 8) e claims.1 },
  λ h. (with_claims m n).1 ((fit_exactly m).1 (h.sound, (same_modules (module_of m) P (same h.sound)).1 h.fine, h.limits), subst (λ x. x ≤ 8) (sym e) h.few),
)

pub units_fit : UnitsAreFitExactlyWhenModulesWithinLimits
units_fit =
    record {
      sealed = λ m number. (
        λ h. let fit = (fit_exactly m).0 ((with_claims m 0).0 h).0 in record { sound = fit.0; fine = fit.1; limits = fit.2; few = omega arith },
        λ h. (with_claims m 0).1 ((fit_exactly m).1 (h.sound, h.fine, h.limits), omega arith),
      );
      renames = λ u a b. pile_fit (renamed u.meaning a b) (renamed_module (module_of u.meaning) a b) _ _ (length-map u.claims (claim_renamed a b)) (renames_are u.meaning a b);
      hides = λ u n. pile_fit (hidden u.meaning n) (hidden_module (module_of u.meaning) n) _ _ refl (hides_are u.meaning n);
      joins = λ l r.
          pile_fit (joined l.meaning r.meaning) (composed (module_of l.meaning) (module_of r.meaning)) _ _
          (length-append (map claim_joined l.claims) (map claim_joined r.claims) ∙ ap₂ (λ x y. x + y) (length-map l.claims claim_joined) (length-map r.claims claim_joined))
          (joins_are l.meaning r.meaning);
    }
