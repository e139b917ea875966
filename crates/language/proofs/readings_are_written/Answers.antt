use Rattle.language.proofs.Expressions.{readings_are_written}
use Rattle.language.proofs.readings_are_written.Goals as goal

pub returns : goal.returns
returns c = readings_are_written
