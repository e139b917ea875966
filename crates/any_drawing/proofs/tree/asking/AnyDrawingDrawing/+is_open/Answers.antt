use Rattle.std.proofs.Common.{rules}
use Rattle.any_drawing.proofs.tree.asking.AnyDrawingDrawing.+is_open.Goals as goal

pub returns-in-Rename : goal.returns-in-Rename
returns-in-Rename t c =
    let told = rw (c.state-old_below.ensures, c.state-new_below.ensures) at c.is_open-in-Rename.ensures in
    search rules
