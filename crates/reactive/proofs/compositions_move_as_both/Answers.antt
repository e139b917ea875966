use Rattle.reactive.proofs.Theorems.{compositions_move}
use Rattle.reactive.proofs.compositions_move_as_both.Goals as goal

pub returns : goal.returns
returns c = compositions_move
