use Rattle.table.proofs.Told.{atom_told}
use Rattle.table.proofs.table.Table.atom.Goals as goal

pub returns : goal.returns
returns c = atom_told c.args.self.now c.in_ok-layout.field-0.now c.in_ok-layout.ensures c.as_slice.result.now c.args.atom c.get.result c.as_slice.ensures.items c.get.ensures.lookup
