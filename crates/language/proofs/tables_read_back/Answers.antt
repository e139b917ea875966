use Rattle.language.proofs.Tables.{tables_read_back}
use Rattle.language.proofs.tables_read_back.Goals as goal

pub returns : goal.returns
returns c = tables_read_back
