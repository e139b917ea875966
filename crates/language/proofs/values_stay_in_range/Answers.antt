use Rattle.language.proofs.Expressions.{values_stay_in_range}
use Rattle.language.proofs.values_stay_in_range.Goals as goal

pub returns : goal.returns
returns c = values_stay_in_range
