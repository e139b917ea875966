use Rattle.reactive.proofs.Piles.{hides_part}
use Rattle.any_drawing.specs.Meaning.{any_meaning}
use Rattle.any_drawing.proofs.tree.AnyDrawing.hide.Goals as goal

pub returns-clause-part : goal.returns-clause-part
returns-clause-part c = hides_part (any_meaning c.args.below) c.args.name
