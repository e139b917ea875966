use Rattle.units.proofs.Theory.{certificates_judged}
use Rattle.units.proofs.certificates_are_judged_rightly.Goals as goal

pub returns : goal.returns
returns c = certificates_judged
