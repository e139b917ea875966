use Rattle.reactive.proofs.Renamed.{renames_are}
use Rattle.reactive.proofs.renames_are_renamings.Goals as goal

pub returns : goal.returns
returns c = renames_are
