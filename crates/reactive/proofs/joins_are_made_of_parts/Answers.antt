use Rattle.reactive.proofs.Piles.{joins_parts}
use Rattle.reactive.proofs.joins_are_made_of_parts.Goals as goal

pub returns : goal.returns
returns c = joins_parts
