use Rattle.std.proofs.Common.{ap, ◌∙◌, refl}
use Rattle.language.specs.Expressions.{read_truth}
use Rattle.unit.specs.Truths.{is_truth}
use Rattle.unit.proofs.claims.ClaimDefault.default.Goals as goal

pub invariant_of-result : goal.invariant_of-result
unfolding read_truth
invariant_of-result c = record { right = ap is_truth c.always.ensures ∙ refl }
