use Rattle.life.proofs.Lives.{piles_ruled}
use Rattle.life.proofs.the_rules_say_what_piles_are.Goals as goal

pub returns : goal.returns
returns c = piles_ruled
