use Rattle.language.proofs.Fronts.{expressions_are_read_from_the_front}
use Rattle.language.proofs.expressions_are_read_from_the_front.Goals as goal

pub returns : goal.returns
returns c = expressions_are_read_from_the_front
