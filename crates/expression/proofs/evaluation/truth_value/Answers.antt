use Rattle.expression.proofs.Evaluated.{truth_evaluated}
use Rattle.expression.proofs.evaluation.truth_value.Goals as goal

pub returns-clause-means : goal.returns-clause-means
returns-clause-means c = truth_evaluated c.args.bytes.now c.args.old c.args.new _ c.whole_truth.ensures
