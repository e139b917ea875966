use Rattle.language.proofs.Expressions.{expressions_read_back}
use Rattle.language.proofs.expressions_read_back.Goals as goal

pub returns : goal.returns
returns c = expressions_read_back
