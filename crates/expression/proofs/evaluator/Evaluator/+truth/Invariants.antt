use Rattle.std.proofs.Common.{◌+◌, ◌*◌}
use Rattle.expression.proofs.evaluator.Evaluator.+truth.Given as goal

abbrev pub decreases-truth : goal.decreases-truth
decreases-truth l = 2 * l.self.now.levels

-- one above that of each of the two that are read
abbrev pub decreases-truths : goal.decreases-truths
decreases-truths l = 2 * l.self.now.levels + 1
