-- The module that a drawing means, and how its states are told.
use Rattle.std.specs.Prelude.{◌≡◌, ℕ, ◌+◌, ◌<◌, ◌≤◌, Bool, true, false, List, length, ℤ, pos, negsuc, is_some, Some}
use Rattle.model.specs.Meanings.{OutlineFacts, ChoiceFacts, Meaning}
use Rattle.model.specs.States.{value}
use Rattle.model.specs.declared.Kind.TheVariants.{Private, Interface, External}
use Rattle.model.specs.declared.Round.{Round}
use Rattle.model.specs.declared.Round.TheVariants.{Initial, Update}
use Rattle.reactive.specs.Reactive.{Valuation, Atom, Module}

-- The number that a choice gives, as a value. One below 0 is told as one above 255, which no variable may have either.
abbrev pub as_value : ℤ → ℕ
as_value (pos x) = x
as_value (negsuc x) = 256 + x

-- in an initialization round, where no old value is seen, 0 stands for each
abbrev pub no_old : Valuation
no_old n = 0

-- An atom's choices in a round: how many, when one is open, and what it gives to each name.
pub record Choices : Type 0 where
  pub many : ℕ
  pub opens : ℕ → Valuation → Valuation → Bool
  pub gives : ℕ → ℕ → Valuation → Valuation → ℤ

-- one that is open at these old and new values gives the controlled names the values in t
pub record Leads (c : Choices) (controls : ℕ → Bool) (old new t : Valuation) : Type 0 where
  pub choice : ℕ
  pub there : choice < c.many
  pub opened : c.opens choice old new ≡ true
  pub given : (n : ℕ) → controls n ≡ true → as_value (c.gives choice n old new) ≡ t n

abbrev pub atom_from : (ℕ → Bool) → (ℕ → Bool) → (ℕ → Bool) → (Round → Choices) → Atom
atom_from controls reads awaits choices =
    record {
      controls = λ n. controls n ≡ true;
      reads = λ n. reads n ≡ true;
      awaits = λ n. awaits n ≡ true;
      init = Leads (choices Initial) controls no_old;
      update = Leads (choices Update) controls;
    }

abbrev pub choices_of : ChoiceFacts → ℕ → Round → Choices
choices_of c a r = record { many = c.choices r a; opens = c.opens r a; gives = c.gives r a }

abbrev pub atom_of : OutlineFacts → ChoiceFacts → ℕ → Atom
atom_of o c a = atom_from (o.controls a) (o.reads a) (o.awaits a) (choices_of c a)

-- a number below n
pub record Below (n : ℕ) : Type 0 where
  pub number : ℕ
  pub low : number < n

abbrev pub module_from : OutlineFacts → ChoiceFacts → Module
module_from o c =
    record {
      private = λ n. o.kind n ≡ Some Private;
      interface = λ n. o.kind n ≡ Some Interface;
      external = λ n. o.kind n ≡ Some External;
      typed = λ n v. v ≤ o.top n;
      Index = Below o.atoms;
      atom = λ i. atom_of o c i.number;
    }

abbrev pub module_of : Meaning → Module
module_of m = module_from m.outline m.acts

-- a state of the drawing is told by a row: 32 values, 0 at each name that is no variable
pub record Row (m : Meaning) (t : List ℕ) : Type 0 where
  pub long : length t ≡ 32
  pub zero : (n : ℕ) → is_some (m.outline.kind n) ≡ false → value t n ≡ 0
