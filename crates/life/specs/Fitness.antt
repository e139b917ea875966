-- When a unit is fit, and why another is not.
use Rattle.std.specs.Prelude.{◌≡◌, ℕ, ◌<◌, ◌≤◌, true, false, pos, Some, None}
use Rattle.model.specs.Meanings.{Valuation, Meaning}
use Rattle.model.specs.declared.Fault.{Fault}
use Rattle.model.specs.declared.Round.{Round}
use Rattle.reactive.specs.Counts.{AtMost}
use Rattle.reactive.specs.Limits.{Sees, Way, Limits}
use Rattle.reactive.specs.Modules.{module_of}
use Rattle.reactive.specs.Reactive.{Controlled, Plus, IsModule}
use Rattle.units.specs.Models.{UnitModel}
use Rattle.units.specs.declared.refusal.Refusal.{Refusal}
use Rattle.units.specs.declared.refusal.Refusal.TheVariants.{FaultyDrawing, NotOneController, AwaitsItself, SeesTooMuch, GetsStuck, LeavesRange, TooWide, TooManyClaims}
use Rattle.life.specs.Reasons.{Because, AtLowest, ◌or-else◌}

-- Nothing is wrong with the drawing, its module is a reactive module that keeps the limits, and not more than eight claims were
-- brought to it.
pub record IsFit (u : UnitModel) : Type 0 where
  pub sound : u.meaning.outline.fault ≡ None
  pub reactive : IsModule (module_of u.meaning)
  pub limited : Limits u.meaning
  pub uncrowded : u.crowded ≡ false

pub record HasFault (m : Meaning) (r : Refusal) : Type 0 where
  pub fault : Fault
  pub told : m.outline.fault ≡ Some fault
  pub is : r ≡ FaultyDrawing fault

-- exactly one atom controls the name
pub record OneController (m : Meaning) (n : ℕ) : Type 0 where
  pub atom : ℕ
  pub controls : m.outline.controls atom n ≡ true
  pub alone : (b : ℕ) → m.outline.controls b n ≡ true → b ≡ atom

abbrev pub IllControlled : Meaning → ℕ → Type 0
IllControlled m n = Controlled (module_of m) n × (OneController m n → ⊥)

-- atom a awaits a name that atom b controls
pub record AwaitsAtom (m : Meaning) (a b : ℕ) : Type 0 where
  pub name : ℕ
  pub awaits : m.outline.awaits a name ≡ true
  pub controls : m.outline.controls b name ≡ true

-- no value is above its name's top
abbrev pub InRange : Meaning → Valuation → Type 0
InRange m v = (n : ℕ) → v n ≤ m.outline.top n

-- at some values in range, no choice of the atom is open
pub record Stuck (m : Meaning) (a : ℕ) : Type 0 where
  pub kind : Round
  pub old : Valuation
  pub new : Valuation
  pub old_in_range : InRange m old
  pub new_in_range : InRange m new
  pub closed : (k : ℕ) → k < m.acts.choices kind a → m.acts.opens kind a k old new ≡ false

-- at some values in range, an open choice of the atom gives a name that it controls what is no value of it
pub record OutOfRange (m : Meaning) (a : ℕ) : Type 0 where
  pub kind : Round
  pub old : Valuation
  pub new : Valuation
  pub old_in_range : InRange m old
  pub new_in_range : InRange m new
  pub choice : ℕ
  pub opened : m.acts.opens kind a choice old new ≡ true
  pub name : ℕ
  pub controlled : m.outline.controls a name ≡ true
  pub outside : (x : ℕ) → m.acts.gives kind a choice name old new ≡ pos x → x ≤ m.outline.top name → ⊥

-- what keeps a drawing from being fit, each rule over all names or atoms before the next
abbrev pub UnfitDrawing : Meaning → Refusal → Type 0
UnfitDrawing m =
    HasFault m
    or-else AtLowest (IllControlled m) 32 NotOneController
    or-else AtLowest (λ a. Plus (AwaitsAtom m) a a) m.outline.atoms AwaitsItself
    or-else AtLowest (λ a. AtMost (Sees m.outline a) 65536 → ⊥) m.outline.atoms SeesTooMuch
    or-else AtLowest (Stuck m) m.outline.atoms GetsStuck
    or-else AtLowest (OutOfRange m) m.outline.atoms LeavesRange
    or-else Because (AtMost (Way m) 1048576 → ⊥) TooWide

abbrev pub Unfit : UnitModel → Refusal → Type 0
Unfit u = UnfitDrawing u.meaning or-else Because (u.crowded ≡ true) TooManyClaims
