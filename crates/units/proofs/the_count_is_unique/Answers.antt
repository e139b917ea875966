use Rattle.units.proofs.Theory.{count_is_unique}
use Rattle.units.proofs.the_count_is_unique.Goals as goal

pub returns : goal.returns
returns c = count_is_unique
