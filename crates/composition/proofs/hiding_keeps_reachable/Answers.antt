use Rattle.composition.proofs.Hiding.{hidden_corresponds}
use Rattle.composition.proofs.hiding_keeps_reachable.Goals as goal

pub returns : goal.returns
returns c = hidden_corresponds
