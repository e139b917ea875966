use Rattle.units.proofs.Theory.{evidence_exists}
use Rattle.units.proofs.evidence_exists_for_every_test.Goals as goal

pub returns : goal.returns
returns c = evidence_exists
