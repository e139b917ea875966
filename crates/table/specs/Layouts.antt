-- How a layout tells where the parts of a table lie.
use Rattle.std.specs.Prelude.{◌≡◌, ℕ, List}
use Rattle.model.specs.Rows.{row_items}
use Rattle.model.specs.Sets.{has}
use Rattle.model.specs.declared.Round.TheVariants.{Initial, Update}
use Rattle.model.specs.declared.row.Row.{Row}
use Rattle.language.specs.Expressions.{Seen}
use Rattle.language.specs.Tables.{TableSyntax, TableAtom, TableChoice, fine, bit, size, seen_in, read_choice}
use Rattle.table.specs.Places.{choices_end, atoms_end, first_choice, first_atom}
use Rattle.table.specs.Rows.{Each}
use Rattle.table.specs.Variables.{AreVariables}
use Rattle.table.specs.declared.parts.AtomLayout.{AtomLayout}
use Rattle.table.specs.declared.parts.Layout.{Layout}

-- the choice is what stands at this place of the bytes, which is behind the choices before it
pub record IsChoiceAt (bs : List ℕ) (start : ℕ) (s : Seen) (count : ℕ) (before : List TableChoice) (c : TableChoice) (place : ℕ) : Type 0 where
  pub begins : place ≡ choices_end start before
  pub end : ℕ
  pub read : read_choice s count bs place ≡ fine c end

-- the choices, of which the first begins at `start`, are those that stand at these places
abbrev pub AreChoicesAt : List ℕ → ℕ → Seen → ℕ → List TableChoice → Row ℕ 8 → Type 0
AreChoicesAt bs start s count cs places = Each (IsChoiceAt bs start s count) cs (row_items places)

-- the atom, which begins at `start`, has these sets, and its choices lie at these places
pub record IsAtomAt (bs : List ℕ) (start : ℕ) (a : TableAtom) (l : AtomLayout) : Type 0 where
  pub controls : (n : ℕ) → has l.controls n ≡ bit a.controls n
  pub reads : (n : ℕ) → has l.reads n ≡ bit a.reads n
  pub awaits : (n : ℕ) → has l.awaits n ≡ bit a.awaits n
  pub initial : AreChoicesAt bs (first_choice Initial start a) (seen_in Initial a.reads a.awaits) (size a.controls) a.initial l.initial
  pub update : AreChoicesAt bs (first_choice Update start a) (seen_in Update a.reads a.awaits) (size a.controls) a.update l.update

-- each atom begins behind those before it, the first at `start`
abbrev pub AreAtomsAt : List ℕ → ℕ → List TableAtom → Row AtomLayout 16 → Type 0
AreAtomsAt bs start xs atoms = Each (λ before. IsAtomAt bs (atoms_end start before)) xs (row_items atoms)

-- the layout of the table that begins at `start` in these bytes
pub record IsLayout (bs : List ℕ) (start : ℕ) (t : TableSyntax) (l : Layout) : Type 0 where
  pub variables : AreVariables t.variables l.variables
  pub atoms : AreAtomsAt bs (first_atom start t) t.atoms l.atoms
