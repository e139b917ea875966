use Rattle.reactive.proofs.Fit.{fit_exactly}
use Rattle.reactive.proofs.fit_units_are_modules.Goals as goal

pub returns : goal.returns
returns c = fit_exactly
