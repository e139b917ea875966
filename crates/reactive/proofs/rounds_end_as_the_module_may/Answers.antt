use Rattle.reactive.proofs.RoundsOfUnits.{rounds_end}
use Rattle.reactive.proofs.rounds_end_as_the_module_may.Goals as goal

pub returns : goal.returns
returns c = rounds_end
