-- What a drawing tells, and the laws that every kind of drawing keeps.
use Rattle.std.specs.Prelude.{◌≡◌, ℕ, ◌<◌, ◌≤◌, Bool, true, false, ℤ, pos, negsuc, ◌≤ℤ◌, is_some, Some, None, Option, ◌≢◌}
use Rattle.model.specs.declared.Fault.{Fault}
use Rattle.model.specs.declared.Kind.{Kind}
use Rattle.model.specs.declared.Kind.TheVariants.{External}
use Rattle.model.specs.declared.Round.{Round}
use Rattle.model.specs.declared.Round.TheVariants.{Initial, Update}
use Rattle.model.specs.Tests.{some}

-- a value for each name
abbrev pub Valuation : Type 0
Valuation = ℕ → ℕ

-- each value is a byte
abbrev pub AreBytes : Valuation → Type 0
AreBytes v = (n : ℕ) → v n ≤ 255

-- What an outline tells. Names and atoms that are not there are asked after too: their kind is None,
-- their top 0, their sets empty.
pub record OutlineFacts : Type 0 where
  -- what is wrong with the drawing, if anything
  pub fault : Option Fault
  -- how many layers the drawing is piled of; more than 255 are told as 255
  pub layers : ℕ
  -- by name: how the variable is controlled, and its largest value
  pub kind : ℕ → Option Kind
  pub top : ℕ → ℕ
  pub atoms : ℕ
  -- by atom and name: is the name in the atom's set
  pub controls : ℕ → ℕ → Bool
  pub reads : ℕ → ℕ → Bool
  pub awaits : ℕ → ℕ → Bool

pub record OutlineLaws (o : OutlineFacts) : Type 0 where
  pub some_layer : 1 ≤ o.layers
  pub layers_told : o.layers ≤ 255
  -- names are numbers from 0 to 31
  pub names : (n : ℕ) → is_some (o.kind n) ≡ true → n < 32
  pub top_from_1 : (n : ℕ) → is_some (o.kind n) ≡ true → 1 ≤ o.top n
  pub top_to_255 : (n : ℕ) → o.top n ≤ 255
  pub no_top : (n : ℕ) → o.kind n ≡ None → o.top n ≡ 0
  pub few_atoms : o.atoms ≤ 16
  -- sets name only variables, and those that are there belong to an atom that is
  pub controls_known : (a n : ℕ) → o.controls a n ≡ true → (a < o.atoms) × (is_some (o.kind n) ≡ true)
  pub reads_known : (a n : ℕ) → o.reads a n ≡ true → (a < o.atoms) × (is_some (o.kind n) ≡ true)
  pub awaits_known : (a n : ℕ) → o.awaits a n ≡ true → (a < o.atoms) × (is_some (o.kind n) ≡ true)
  -- controlled sets are not empty and hold no external name
  pub controls_some : (a : ℕ) → a < o.atoms → some (o.controls a) 32 ≡ true
  pub controls_own : (a n : ℕ) → o.controls a n ≡ true → o.kind n ≢ Some External
  -- a fault has a number, and leaves no variables and no atoms
  pub fault_numbered : (f : Fault) → o.fault ≡ Some f → 1 ≤ f.number
  pub fault_empty : is_some o.fault ≡ true → (o.atoms ≡ 0) × ((n : ℕ) → o.kind n ≡ None)

-- The choices of each atom in each kind of round: how many, at which old and new values one is open,
-- and what it gives to a name there.
pub record ChoiceFacts : Type 0 where
  pub choices : Round → ℕ → ℕ
  pub opens : Round → ℕ → ℕ → Valuation → Valuation → Bool
  pub gives : Round → ℕ → ℕ → ℕ → Valuation → Valuation → ℤ

-- how many choices an atom may have in a round of this kind
abbrev pub most_choices : Round → ℕ
most_choices Initial = 8
most_choices Update = 8

-- Two pairs of old and new values look alike to atom a: the new ones agree at the names that it awaits
-- and, in an update, the old ones at those that it reads.
pub record Alike (o : OutlineFacts) (r : Round) (a : ℕ) (old new old' new' : Valuation) : Type 0 where
  pub awaited : (n : ℕ) → o.awaits a n ≡ true → new n ≡ new' n
  pub read : r ≡ Update → (n : ℕ) → o.reads a n ≡ true → old n ≡ old' n

pub record ChoiceLaws (o : OutlineFacts) (c : ChoiceFacts) : Type 0 where
  -- each atom that is there has a choice and not more than it may, any other none
  pub some_choice : (r : Round) (a : ℕ) → a < o.atoms → 1 ≤ c.choices r a
  pub few_choices : (r : Round) (a : ℕ) → c.choices r a ≤ most_choices r
  pub no_choice : (r : Round) (a : ℕ) → o.atoms ≤ a → c.choices r a ≡ 0
  -- a choice that is not there is closed, and it, or one asked for a name that its atom does not control, gives 0
  pub absent_closed : (r : Round) (a k : ℕ) (old new : Valuation) → c.choices r a ≤ k → c.opens r a k old new ≡ false
  pub absent_gives : (r : Round) (a k n : ℕ) (old new : Valuation) → c.choices r a ≤ k → c.gives r a k n old new ≡ pos 0
  pub other_gives : (r : Round) (a k n : ℕ) (old new : Valuation) → o.controls a n ≡ false → c.gives r a k n old new ≡ pos 0
  -- what is given is a whole number of 16 bits, where the values seen are bytes
  pub gives_low : (r : Round) (a k n : ℕ) (old new : Valuation) → AreBytes old → AreBytes new → negsuc 32767 ≤ℤ c.gives r a k n old new
  pub gives_high : (r : Round) (a k n : ℕ) (old new : Valuation) → AreBytes old → AreBytes new → c.gives r a k n old new ≤ℤ pos 32767
  -- a choice sees only new values of awaited names and, in an update, old values of read names
  pub opens_by_sight : (r : Round) (a k : ℕ) (old new old' new' : Valuation) → Alike o r a old new old' new' → c.opens r a k old new ≡ c.opens r a k old' new'
  pub gives_by_sight : (r : Round) (a k n : ℕ) (old new old' new' : Valuation) → Alike o r a old new old' new' → c.gives r a k n old new ≡ c.gives r a k n old' new'

-- What a drawing means: the outline's facts, the choices, and that both keep the laws.
pub record Meaning : Type 0 where
  pub outline : OutlineFacts
  pub acts : ChoiceFacts
  pub outline_laws : OutlineLaws outline
  pub choice_laws : ChoiceLaws outline acts
