use Rattle.reactive.proofs.Fit.{finite_types}
use Rattle.reactive.proofs.drawings_have_finite_types.Goals as goal

pub returns : goal.returns
returns c = finite_types
