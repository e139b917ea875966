use Rattle.reactive.proofs.Rounds.{fit_rounds}
use Rattle.reactive.proofs.fit_units_complete_every_round.Goals as goal

pub returns : goal.returns
returns c = fit_rounds
