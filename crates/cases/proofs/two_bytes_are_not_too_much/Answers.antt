use Rattle.cases.proofs.Passing.{two_bytes_pass}
use Rattle.cases.proofs.two_bytes_are_not_too_much.Goals as goal

pub returns : goal.returns
returns c = two_bytes_pass
