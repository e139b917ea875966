use Rattle.language.proofs.Expressions.{comparisons_are_exact}
use Rattle.language.proofs.comparisons_are_exact.Goals as goal

pub returns : goal.returns
returns c = comparisons_are_exact
