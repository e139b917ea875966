-- What a call leaves of what every unit keeps.
use Rattle.std.proofs.Common.{◌≡◌, ℕ, zero, suc, false, List, [], ◌∷◌, ◌++◌, map, slice_get, Some, None, Ok, Err, Option, Result, refl, arith, sym, ap, ◌∙◌, subst}
use Rattle.std.proofs.Math.Logic.{∥∥₁_map}
use Rattle.model.specs.Meanings.{Meaning}
use Rattle.sealing.specs.Orders.{AtomsInOrder}
use Rattle.units.specs.Life.{Came, by_claim, by_certify, by_refute}
use Rattle.units.specs.Units.{UnitModel, claim, claim_reading, certify, is_wrong_reading, refute, unless, verdict_with}
use Rattle.units.specs.declared.refusal.Refusal.{Refusal}
use Rattle.model.specs.Rows.{row_items}
use Rattle.unit.specs.Calls.{answer_of, let_through}
use Rattle.evidence.specs.Judging.{answer_of as unless_refused}
use Rattle.unit.specs.Claims.{written_claims}
use Rattle.unit.specs.declared.claims.Claim.{Claim}
use Rattle.unit.specs.declared.claims.Claims.{Claims}
use Rattle.unit.specs.Invariants.{ClaimsSee, NoneBeyond, UnitInvariant, order_kept}
use Rattle.unit.specs.States.{SameButClaims, model_of}
use Rattle.unit.specs.declared.state.UnitState.{UnitState}

-- what every unit keeps, after a call that changes claims alone
pub claimed_invariant : (m : Meaning) (old new : UnitState) → (Came (model_of m old) → Came (model_of m new)) → SameButClaims old new → ClaimsSee m new.claims → UnitInvariant m old → UnitInvariant m new
claimed_invariant m old new comes same see before = record {
  judged = same.verdict ∙ before.judged ∙ ap (verdict_with m) (sym same.crowded);
  ordered = same.order ∙ before.ordered ∙ ap (λ v. order_kept v m.outline) (sym same.verdict);
  in_order = λ fit. subst (λ order. ∥ AtomsInOrder m.outline order ∥₁) (sym same.order) (before.in_order (sym same.verdict ∙ fit));
  fired = subst (NoneBeyond m.outline.atoms) (sym same.phase) before.fired;
  claims_see = see;
  came = ∥∥₁_map before.came comes;
}

pub came_by_claim : (m : Meaning) (old new : UnitState) (bs : List ℕ) → model_of m new ≡ (claim (model_of m old) bs).unit → Came (model_of m old) → Came (model_of m new)
came_by_claim m old new bs model h = subst Came (sym model) (by_claim (model_of m old) bs h)

pub came_by_certify : (m : Meaning) (old new : UnitState) (number : ℕ) (bs : List ℕ) → model_of m new ≡ (certify (model_of m old) number bs).unit → Came (model_of m old) → Came (model_of m new)
came_by_certify m old new number bs model h = subst Came (sym model) (by_certify (model_of m old) number bs h)

pub came_by_refute : (m : Meaning) (old new : UnitState) (number : ℕ) (bs : List ℕ) → model_of m new ≡ (refute (model_of m old) number bs).unit → Came (model_of m old) → Came (model_of m new)
came_by_refute m old new number bs model h = subst Came (sym model) (by_refute (model_of m old) number bs h)

module _ (P : List ℕ → Type 0) (last : List ℕ) (here : P last) where
  appended : (xs : List (List ℕ)) → ((i : ℕ) (x : List ℕ) → slice_get xs i ≡ Some x → P x) → (i : ℕ) (x : List ℕ) → slice_get (xs ++ last ∷ []) i ≡ Some x → P x
  appended [] there zero x e = let same : last ≡ x = cc in subst P same here
  appended [] there (suc i) x e = let z : ◌≡◌ {A = ℕ} 0 1 = cc in absurd (omega arith)
  appended (y ∷ ys) there zero x e = there zero x e
  appended (y ∷ ys) there (suc i) x e = appended ys (λ j z k. there (suc j) z k) i x e

written_append : (xs : List Claim) (c : Claim) → map (λ x. row_items x.bytes) (xs ++ c ∷ []) ≡ map (λ x. row_items x.bytes) xs ++ row_items c.bytes ∷ []
written_append [] c = refl
written_append (x ∷ xs) c = ap (λ rest. row_items x.bytes ∷ rest) (written_append xs c)

-- a claim added behind the others
pub added_see : (m : Meaning) (old new : Claims) (c : Claim) → new.table.items ≡ old.table.items ++ c ∷ [] → is_wrong_reading (claim_reading m (row_items c.bytes)) ≡ false → ClaimsSee m old → ClaimsSee m new
added_see m old new c e right there number bs k =
    appended (λ xs. is_wrong_reading (claim_reading m xs) ≡ false) (row_items c.bytes) right (written_claims old) there number bs
    (ap (λ items. slice_get items number) (sym (ap (map (λ x. row_items x.bytes)) e ∙ written_append old.table.items c)) ∙ k)

-- What is answered and left, where nothing is refused and where something is.
module _ (f : Option Refusal) (u after : UnitModel) (a : ℕ) where
  pub answered : (r : Result ℕ Refusal) → r ≡ unless_refused f a → answer_of r ≡ (unless f u after a).answer
  answered r e = ap answer_of e ∙ go f
    where
      go : (g : Option Refusal) → answer_of (unless_refused g a) ≡ (unless g u after a).answer
      go None = refl
      go (Some refusal) = refl

  pub left : (n : ℕ) → Ok n ≡ unless_refused f a → after ≡ (unless f u after a).unit
  left n e = go f e
    where
      go : (g : Option Refusal) → Ok n ≡ unless_refused g a → after ≡ (unless g u after a).unit
      go None k = refl
      go (Some refusal) k = let z : ◌≡◌ {A = ℕ} 0 1 = cc in absurd (omega arith)

  pub spared : (r : Refusal) → Err r ≡ unless_refused f a → u ≡ (unless f u after a).unit
  spared r e = go f e
    where
      go : (g : Option Refusal) → Err r ≡ unless_refused g a → u ≡ (unless g u after a).unit
      go None k = let z : ◌≡◌ {A = ℕ} 0 1 = cc in absurd (omega arith)
      go (Some refusal) k = refl

-- what is let through is not refused
pub not_refused : (v : Option Refusal) → let_through v ≡ Ok tt → v ≡ None
not_refused None e = refl
not_refused (Some r) e = let z : ◌≡◌ {A = ℕ} 0 1 = cc in absurd (omega arith)

-- claims that are written as they were see what they saw
pub written_see : (m : Meaning) (old new : Claims) → written_claims new ≡ written_claims old → ClaimsSee m old → ClaimsSee m new
written_see m old new e there number bs k = there number bs (ap (λ ws. slice_get ws number) (sym e) ∙ k)
