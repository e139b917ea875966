use Rattle.units.proofs.Theory.{certificates_hold}
use Rattle.units.proofs.accepted_certificates_hold.Goals as goal

pub returns : goal.returns
returns c = certificates_hold
