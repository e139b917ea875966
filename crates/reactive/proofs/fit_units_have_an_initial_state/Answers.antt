use Rattle.reactive.proofs.Rounds.{fit_initial}
use Rattle.reactive.proofs.fit_units_have_an_initial_state.Goals as goal

pub returns : goal.returns
returns c = fit_initial
