use Rattle.std.proofs.Common.{◌∙◌}
use Rattle.table.proofs.Told.{variable_told}
use Rattle.table.proofs.table.Table.variable.Goals as goal

pub returns : goal.returns
returns c = c.at.ensures ∙ variable_told c.args.self.now c.in_ok-layout.field-0.now c.in_ok-layout.ensures c.args.name
