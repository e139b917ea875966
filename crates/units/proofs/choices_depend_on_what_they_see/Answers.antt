use Rattle.units.proofs.Theory.{choices_by_sight}
use Rattle.units.proofs.choices_depend_on_what_they_see.Goals as goal

pub returns : goal.returns
returns c = choices_by_sight
