use Rattle.reactive.proofs.FitUnits.{units_fit}
use Rattle.reactive.proofs.units_are_fit_exactly_when_modules_within_limits.Goals as goal

pub returns : goal.returns
returns c = units_fit
