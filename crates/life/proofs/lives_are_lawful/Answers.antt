use Rattle.life.proofs.Law.{lives_lawful}
use Rattle.life.proofs.lives_are_lawful.Goals as goal

pub returns : goal.returns
returns c = lives_lawful
