use Rattle.life.proofs.Lives.{calls_ruled}
use Rattle.life.proofs.the_rules_say_what_calls_do.Goals as goal

pub returns : goal.returns
returns c = calls_ruled
