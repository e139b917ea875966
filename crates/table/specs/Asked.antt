-- What is found of an atom and of a choice of a table.
use Rattle.std.specs.Prelude.{◌≡◌, ℕ, suc, ◌<◌, ◌≤◌, List, length, Some, None, Option}
use Rattle.std.specs.List.{slice_get}
use Rattle.model.specs.declared.Round.{Round}
use Rattle.model.specs.declared.Round.TheVariants.{Initial, Update}
use Rattle.language.specs.Expressions.{Number, number_bytes, truth_bytes}
use Rattle.language.specs.Tables.{TableAtom, TableChoice, size}
use Rattle.model.specs.declared.row.Row.{Row}
use Rattle.table.specs.Layouts.{IsAtomAt}
use Rattle.table.specs.Rows.{Paired}
use Rattle.table.specs.declared.parts.AtomLayout.{AtomLayout}
use Rattle.table.specs.Items.{after_item, item_bytes, item_place}

-- the atom, if there is one, begins at `start` and lies so
abbrev pub IsAtomOf : List ℕ → ℕ → Option TableAtom → Option AtomLayout → Type 0
IsAtomOf bs start = Paired (IsAtomAt bs start)

abbrev pub places_in : Round → AtomLayout → Row ℕ 8
places_in Initial l = l.initial
places_in Update l = l.update

-- how many names the atom controls
abbrev pub controlled : Option TableAtom → ℕ
controlled None = 0
controlled (Some a) = size a.controls

-- The items from this place on are the choice's guard and its numbers, as many as counted, all of them within the bytes.
pub record ChoiceStands (bs : List ℕ) (count : ℕ) (c : TableChoice) (place : ℕ) : Type 0 where
  pub few_bytes : length bs ≤ 4096
  pub guard_inside : after_item bs place ≤ length bs
  pub guard_is : item_bytes bs place ≡ truth_bytes c.guard
  pub number_inside : (m : ℕ) → m < count → after_item bs (item_place bs place (suc m)) ≤ length bs
  pub number_is : (m : ℕ) (e : Number) → slice_get c.gives m ≡ Some e → item_bytes bs (item_place bs place (suc m)) ≡ number_bytes e
  pub numbered : (m : ℕ) → m < count → (e : Number) × (slice_get c.gives m ≡ Some e)

-- the choice, if there is one, stands at this place
abbrev pub IsChoiceOf : List ℕ → ℕ → Option TableChoice → Option ℕ → Type 0
IsChoiceOf bs count = Paired (ChoiceStands bs count)
