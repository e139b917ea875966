use Rattle.reactive.proofs.RoundsOfUnits.{rounds_lead}
use Rattle.reactive.proofs.rounds_lead_wherever_the_module_may.Goals as goal

pub returns : goal.returns
returns c = rounds_lead
