-- What is answered and left where a call is refused or goes through.
use Rattle.std.proofs.Common.{◌≡◌, ℕ, ◌↔◌, Some, None, Option, sym, refl, ap, subst, arith}
use Rattle.units.specs.Models.{UnitModel, Slip}
use Rattle.units.specs.Units.{unless}
use Rattle.units.specs.declared.refusal.Refusal.{Refusal}
use Rattle.life.specs.Promises.{Is}
use Rattle.life.specs.Rules.{Reply, number_reply, slip_reply, refusal_reply}
use Rattle.life.proofs.Judging.{Judged}

-- a call that answers a number
abbrev pub OnNumber : (ℕ → UnitModel → Type 0) → (Refusal → Type 0) → UnitModel → Reply → UnitModel → Type 0
OnNumber Ok R u (number_reply n) w = Ok n w
OnNumber Ok R u (slip_reply s) w = ⊥
OnNumber Ok R u (refusal_reply r) w = R r × (w ≡ u)

abbrev pub OnSlip : (Slip → UnitModel → Type 0) → (Refusal → Type 0) → UnitModel → Reply → UnitModel → Type 0
OnSlip Ok R u (number_reply n) w = ⊥
OnSlip Ok R u (slip_reply s) w = Ok s w
OnSlip Ok R u (refusal_reply r) w = R r × (w ≡ u)

pub number≢refusal : (n : ℕ) (r : Refusal) → number_reply n ≡ refusal_reply r → ⊥
number≢refusal n r e = let z : ◌≡◌ {A = ℕ} 0 1 = cc in omega arith

pub number≢slip : (n : ℕ) (s : Slip) → number_reply n ≡ slip_reply s → ⊥
number≢slip n s e = let z : ◌≡◌ {A = ℕ} 0 1 = cc in omega arith

pub slip≢refusal : (s : Slip) (r : Refusal) → slip_reply s ≡ refusal_reply r → ⊥
slip≢refusal s r e = let z : ◌≡◌ {A = ℕ} 0 1 = cc in omega arith

-- what has to hold for a call to go through, and what goes through then
pub record Through {A : Type 0} (f : Option Refusal) (after : UnitModel) (a b : A) (w : UnitModel) : Type 0 where
  pub clear : f ≡ None
  pub same : b ≡ a
  pub left : w ≡ after

module _ (f : Option Refusal) (u after : UnitModel) (a : ℕ) where
  number_through : (g : Option Refusal) → f ≡ g → (n : ℕ) (w : UnitModel) → Is number_reply (unless g u after a) (number_reply n) w → Through f after a n w
  number_through None e n w h = let answered : number_reply n ≡ number_reply a = h.answered in record { clear = e; same = cc; left = h.left }
  number_through (Some r) e n w h = absurd (number≢refusal n r h.answered)

  number_no_slip : (g : Option Refusal) (s : Slip) (w : UnitModel) → Is number_reply (unless g u after a) (slip_reply s) w → ⊥
  number_no_slip None s w h = number≢slip a s (sym h.answered)
  number_no_slip (Some r) s w h = slip≢refusal s r h.answered

  number_refused : (g : Option Refusal) → (r : Refusal) (w : UnitModel) → Is number_reply (unless g u after a) (refusal_reply r) w → (g ≡ Some r) × (w ≡ u)
  number_refused None r w h = absurd (number≢refusal a r (sym h.answered))
  number_refused (Some q) r w h = let answered : refusal_reply r ≡ refusal_reply q = h.answered in (cc, h.left)

  module _ (Ok : ℕ → UnitModel → Type 0) (R : Refusal → Type 0) (judged : Judged f R)
      (goes : (n : ℕ) (w : UnitModel) → Ok n w → Through f after a n w) (from : f ≡ None → Ok a after) where
    pub number_call : (reply : Reply) (w : UnitModel) → OnNumber Ok R u reply w ↔ Is number_reply (unless f u after a) reply w
    number_call (number_reply n) w = (
      λ ok. let t = goes n w ok in subst (λ g. Is number_reply (unless g u after a) (number_reply n) w) (sym t.clear) (record { answered = ap number_reply t.same; left = t.left }),
      λ h. let t = number_through f refl n w h in subst (λ k. Ok k w) (sym t.same) (subst (Ok a) (sym t.left) (from t.clear)),
    )
    number_call (slip_reply s) w = (λ x. absurd x, λ h. number_no_slip f s w h)
    number_call (refusal_reply r) w = (
      λ x. subst (λ g. Is number_reply (unless g u after a) (refusal_reply r) w) (sym (judged.back r x.0)) (record { answered = refl; left = x.1 }),
      λ h. let t = number_refused f r w h in (judged.there r t.0, t.1),
    )

module _ (f : Option Refusal) (u after : UnitModel) (a : Slip) where
  slip_through : (g : Option Refusal) → f ≡ g → (s : Slip) (w : UnitModel) → Is slip_reply (unless g u after a) (slip_reply s) w → Through f after a s w
  slip_through None e s w h = let answered : slip_reply s ≡ slip_reply a = h.answered in record { clear = e; same = cc; left = h.left }
  slip_through (Some r) e s w h = absurd (slip≢refusal s r h.answered)

  slip_no_number : (g : Option Refusal) (n : ℕ) (w : UnitModel) → Is slip_reply (unless g u after a) (number_reply n) w → ⊥
  slip_no_number None n w h = number≢slip n a h.answered
  slip_no_number (Some r) n w h = number≢refusal n r h.answered

  slip_refused : (g : Option Refusal) → (r : Refusal) (w : UnitModel) → Is slip_reply (unless g u after a) (refusal_reply r) w → (g ≡ Some r) × (w ≡ u)
  slip_refused None r w h = absurd (slip≢refusal a r (sym h.answered))
  slip_refused (Some q) r w h = let answered : refusal_reply r ≡ refusal_reply q = h.answered in (cc, h.left)

  module _ (Ok : Slip → UnitModel → Type 0) (R : Refusal → Type 0) (judged : Judged f R)
      (goes : (s : Slip) (w : UnitModel) → Ok s w → Through f after a s w) (from : f ≡ None → Ok a after) where
    pub slip_call : (reply : Reply) (w : UnitModel) → OnSlip Ok R u reply w ↔ Is slip_reply (unless f u after a) reply w
    slip_call (slip_reply s) w = (
      λ ok. let t = goes s w ok in subst (λ g. Is slip_reply (unless g u after a) (slip_reply s) w) (sym t.clear) (record { answered = ap slip_reply t.same; left = t.left }),
      λ h. let t = slip_through f refl s w h in subst (λ k. Ok k w) (sym t.same) (subst (Ok a) (sym t.left) (from t.clear)),
    )
    slip_call (number_reply n) w = (λ x. absurd x, λ h. slip_no_number f n w h)
    slip_call (refusal_reply r) w = (
      λ x. subst (λ g. Is slip_reply (unless g u after a) (refusal_reply r) w) (sym (judged.back r x.0)) (record { answered = refl; left = x.1 }),
      λ h. let t = slip_refused f r w h in (judged.there r t.0, t.1),
    )
