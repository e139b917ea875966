use Rattle.reactive.proofs.Operations.{hides_are}
use Rattle.reactive.proofs.hides_are_hidings.Goals as goal

pub returns : goal.returns
returns c = hides_are
