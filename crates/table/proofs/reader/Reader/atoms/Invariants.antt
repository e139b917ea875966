use Rattle.std.proofs.Common.{◌≡◌, List, length}
use Rattle.language.specs.Tables.{TableVariable, read_atom}
use Rattle.model.specs.Rows.{row_items}
use Rattle.table.specs.Layouts.{AreAtomsAt}
use Rattle.table.specs.Places.{atoms_end}
use Rattle.table.specs.Variables.{AreVariables}
use Rattle.table.proofs.Rows.{SoFar}
use Rattle.table.proofs.reader.Reader.atoms.Given as goal

abbrev pub invariant-loop : goal.invariant-loop
invariant-loop l =
    (length (row_items l.atoms) ≡ l.counter)
    × ((vs : List TableVariable) → AreVariables vs l.variables → SoFar (read_atom vs) l.fn.self l.count l.counter l.self (λ made. AreAtomsAt l.fn.self.bytes.now l.fn.self.place made l.atoms × (l.self.place ≡ atoms_end l.fn.self.place made)))
