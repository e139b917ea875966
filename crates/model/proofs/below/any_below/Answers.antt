use Rattle.std.proofs.Common.{◌∙◌, ap, is_some}
use Rattle.model.proofs.Bounded.{lowest_there}
use Rattle.model.proofs.below.any_below.Goals as goal

pub returns : goal.returns
returns g c = λ p h. c.is_some.ensures ∙ ap is_some (c.lowest_below.ensures p h) ∙ lowest_there p c.args.bound
