use Rattle.table.proofs.TableRows.{table_goes}
use Rattle.table.proofs.reader.Reader.table.Goals as goal

pub returns : goal.returns
returns c =
    let variables = c.in_ok-variables.ensures in
    table_goes c.in_ok-width.ensures variables c.in_ok-count.ensures (c.in_ok-atoms.ensures variables.outcome.part variables.outcome.made)
