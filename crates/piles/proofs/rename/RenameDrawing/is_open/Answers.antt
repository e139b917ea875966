use Rattle.std.proofs.Common.{rules}
use Rattle.piles.proofs.rename.RenameDrawing.is_open.Goals as goal

pub returns : goal.returns
returns g c =
    let told = rw (c.state-old.ensures, c.state-new.ensures) at c.is_open.ensures in
    search rules
