use Rattle.reactive.proofs.Theorems.{rounds_completed}
use Rattle.reactive.proofs.every_round_can_be_completed.Goals as goal

pub returns : goal.returns
returns c = rounds_completed
