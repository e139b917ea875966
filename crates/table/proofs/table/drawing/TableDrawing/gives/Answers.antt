use Rattle.std.proofs.Common.{◌≡◌, rules}
use Rattle.language.specs.Tables.{atom_gives}
use Rattle.model.specs.States.{value}
use Rattle.table.specs.Table.{atom_of}
use Rattle.table.proofs.Values.{gives}
use Rattle.table.proofs.table.drawing.TableDrawing.gives.Goals as goal

pub returns : goal.returns
returns c =
    let a = c.args in
    let is : c.number_value.result ≡ atom_gives a.round (atom_of a.self.now a.atom) a.choice a.name (value a.old) (value a.new) =
    gives a.self.now a.round a.atom a.choice a.name c.number.result.now a.old a.new c.number_value.result c.number.ensures c.number_value.ensures.evaluated c.number_value.ensures.means in
    search (rules, is)
