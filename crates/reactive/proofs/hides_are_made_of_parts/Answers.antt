use Rattle.reactive.proofs.Piles.{hides_part}
use Rattle.reactive.proofs.hides_are_made_of_parts.Goals as goal

pub returns : goal.returns
returns c = hides_part
