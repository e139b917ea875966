use Rattle.language.proofs.Expressions.{whole_expressions_are_written}
use Rattle.language.proofs.whole_expressions_are_written.Goals as goal

pub returns : goal.returns
returns c = whole_expressions_are_written
