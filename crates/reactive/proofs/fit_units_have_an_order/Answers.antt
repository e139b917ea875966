use Rattle.reactive.proofs.Rounds.{fit_order}
use Rattle.reactive.proofs.fit_units_have_an_order.Goals as goal

pub returns : goal.returns
returns c = fit_order
