use Rattle.std.proofs.Common.{rules}
use Rattle.piles.proofs.rename.RenameDrawing.gives.Goals as goal

pub returns : goal.returns
returns g c =
    let told = rw (c.name-name.ensures, c.state-old.ensures, c.state-new.ensures) at c.gives.ensures in
    search rules
