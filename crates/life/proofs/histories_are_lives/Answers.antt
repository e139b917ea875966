use Rattle.life.proofs.Lives.{histories_lives}
use Rattle.life.proofs.histories_are_lives.Goals as goal

pub returns : goal.returns
returns c = histories_lives
