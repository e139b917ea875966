use Rattle.reactive.proofs.Piles.{renames_part}
use Rattle.any_drawing.specs.Meaning.{any_meaning}
use Rattle.any_drawing.proofs.tree.AnyDrawing.rename.Goals as goal

pub returns-clause-part : goal.returns-clause-part
returns-clause-part c = renames_part (any_meaning c.args.below) c.args.old c.args.new
