use Rattle.reactive.proofs.Piles.{renames_part}
use Rattle.reactive.proofs.renames_are_made_of_parts.Goals as goal

pub returns : goal.returns
returns c = renames_part
