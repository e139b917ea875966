use Rattle.reactive.proofs.Operations.{joins_are}
use Rattle.reactive.proofs.joins_are_compositions.Goals as goal

pub returns : goal.returns
returns c = joins_are
