use Rattle.std.proofs.Common.{rules}
use Rattle.any_drawing.proofs.tree.asking.AnyDrawingDrawing.+gives.Goals as goal

pub returns-in-Rename : goal.returns-in-Rename
returns-in-Rename t c =
    let told = rw (c.name-name_below.ensures, c.state-old_below.ensures, c.state-new_below.ensures) at c.gives-in-Rename.ensures in
    search rules
