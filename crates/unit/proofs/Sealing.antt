-- What a new unit keeps, and what its verdict tells of the drawing.
use Rattle.std.proofs.Common.{◌≡◌, ℕ, Bool, false, List, [], map, replicate, slice_get, Some, None, Option, sym, refl, ap, ◌∙◌, subst, arith}
use Rattle.model.specs.Rows.{row_items}
use Rattle.model.specs.Meanings.{OutlineFacts, Meaning}
use Rattle.units.specs.Sealing.{verdict, if_so, ◌else◌}
use Rattle.units.specs.Life.{Came, by_seal}
use Rattle.units.specs.declared.refusal.Refusal.{Refusal}
use Rattle.units.specs.declared.refusal.Refusal.TheVariants.{TooManyClaims}
use Rattle.units.specs.Units.{verdict_with, verdict_of, seal, idle}
use Rattle.units.proofs.Evidence.{else_parts}
use Rattle.reactive.proofs.Fit.{passed, fit_exactly}
use Rattle.reactive.proofs.Rounds.{fit_initial, fit_rounds}
use Rattle.sealing.specs.Orders.{AtomsInOrder, NoneCircular, atom_order}
use Rattle.unit.specs.Claims.{claim_of, claims_of}
use Rattle.unit.specs.Invariants.{ClaimsSee, NoneBeyond, UnitInvariant, order_kept}
use Rattle.unit.specs.States.{model_of, new_unit}
use Rattle.unit.specs.Promises.{SealedRightly}
use Rattle.unit.specs.Phases.{phase_of}
use Rattle.unit.specs.declared.claims.Claims.{Claims}
use Rattle.unit.specs.declared.phase.Phase as states
use Rattle.unit.specs.declared.phase.Phase.TheVariants.{Idle, Standing, InRound}
use Rattle.unit.specs.declared.state.UnitState.{UnitState}

pub drawing_fit : (m : Meaning) (crowded : Bool) → verdict_with m crowded ≡ None → verdict m ≡ None
drawing_fit m crowded e = (else_parts (verdict m) (if_so TooManyClaims crowded) e).0

pub no_circle : (m : Meaning) (crowded : Bool) → verdict_with m crowded ≡ None → NoneCircular m.outline
no_circle m crowded e = (passed m (drawing_fit m crowded e)).uncircled

pub else_none : (v : Option Refusal) → (v else None) ≡ v
else_none None = refl
else_none (Some f) = refl

-- the order that is kept of a fit drawing, and of an unfit one
pub kept_fit : (v : Option Refusal) (o : OutlineFacts) (order : List ℕ) → v ≡ None → order ≡ atom_order o → order ≡ order_kept v o
kept_fit v o order e h = h ∙ sym (ap (λ w. order_kept w o) e)

pub kept_unfit : (v : Option Refusal) (o : OutlineFacts) (order : List ℕ) (r : Refusal) → v ≡ Some r → order ≡ replicate 16 0 → order ≡ order_kept v o
kept_unfit v o order r e h = h ∙ sym (ap (λ w. order_kept w o) e)

-- a table without claims has none that sees too much
pub none_see : (m : Meaning) (cs : Claims) → cs.table.items ≡ [] → ClaimsSee m cs
none_see m cs e number bs there =
    let z : ◌≡◌ {A = ℕ} 0 1 = let gone : None ≡ Some bs = sym (ap (λ items. slice_get (map (λ c. row_items c.bytes) items) number) e) ∙ there in cc in
    absurd (omega arith)

-- outside of a round no atom has fired
pub idle_fired : (p : states.Phase) → phase_of p ≡ idle → (atoms : ℕ) → NoneBeyond atoms p
idle_fired Idle e atoms a h = refl
idle_fired (Standing s) e atoms a h = refl
idle_fired (InRound before new fired) e atoms a h = let z : ◌≡◌ {A = ℕ} 0 1 = cc in absurd (omega arith)

pub sealed_model : (m : Meaning) (number : ℕ) (s : UnitState) (none : Claims) → none.table.items ≡ [] → model_of m s ≡ new_unit m number 0 false (claims_of none) → model_of m s ≡ seal m number
sealed_model m number s none e model = model ∙ ap (λ items. new_unit m number 0 false (map claim_of items)) e

-- a sealed unit keeps what every unit keeps
pub sealed_invariant : (m : Meaning) (number : ℕ) (s : UnitState) → model_of m s ≡ seal m number → s.verdict ≡ verdict_with m false → s.order ≡ order_kept s.verdict m.outline → (s.verdict ≡ None → AtomsInOrder m.outline s.order) → ClaimsSee m s.claims → UnitInvariant m s
sealed_invariant m number s model judged ordered in_order see = record {
  judged = judged ∙ sym (ap verdict_of model);
  ordered = ordered;
  in_order = λ fit. ∣ in_order fit ∣₁;
  fired = idle_fired s.phase (ap (λ u. u.phase) model) m.outline.atoms;
  claims_see = see;
  came = ∣ subst Came (sym model) (by_seal m number) ∣₁;
}

pub sealed_rightly : (m : Meaning) (s : UnitState) → s.verdict ≡ verdict_with m false → (s.verdict ≡ None → AtomsInOrder m.outline s.order) → SealedRightly m s
sealed_rightly m s judged ordered =
    let same : s.verdict ≡ verdict m = judged ∙ else_none (verdict m) in
    record {
      fit = (λ e. (fit_exactly m).0 (sym same ∙ e), λ h. same ∙ (fit_exactly m).1 h);
      ordered = ordered;
      starts = λ e. fit_initial m (sym same ∙ e);
      goes_on = λ e. fit_rounds m (sym same ∙ e);
    }
