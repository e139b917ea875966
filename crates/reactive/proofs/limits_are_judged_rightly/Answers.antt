use Rattle.reactive.proofs.Limits.{limits_judged}
use Rattle.reactive.proofs.limits_are_judged_rightly.Goals as goal

pub returns : goal.returns
returns c = limits_judged
