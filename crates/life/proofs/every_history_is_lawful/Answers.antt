use Rattle.life.proofs.Law.{lawful}
use Rattle.life.proofs.every_history_is_lawful.Goals as goal

pub returns : goal.returns
returns c = lawful
