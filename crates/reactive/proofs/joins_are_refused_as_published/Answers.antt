use Rattle.reactive.proofs.Joins.{joins_refused}
use Rattle.reactive.proofs.joins_are_refused_as_published.Goals as goal

pub returns : goal.returns
returns c = joins_refused
