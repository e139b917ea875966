use Rattle.reactive.proofs.Piles.{joins_parts}
use Rattle.any_drawing.specs.Meaning.{any_meaning}
use Rattle.any_drawing.proofs.tree.AnyDrawing.join.Goals as goal

pub returns-clause-parts : goal.returns-clause-parts
returns-clause-parts c = joins_parts (any_meaning c.args.left) (any_meaning c.args.right)
