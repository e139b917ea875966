use Rattle.language.proofs.Expressions.{values_go_by_sight}
use Rattle.language.proofs.values_go_by_sight.Goals as goal

pub returns : goal.returns
returns c = values_go_by_sight
