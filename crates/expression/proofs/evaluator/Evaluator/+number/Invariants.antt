use Rattle.std.proofs.Common.{◌+◌, ◌*◌}
use Rattle.expression.proofs.evaluator.Evaluator.+number.Given as goal

abbrev pub decreases-number : goal.decreases-number
decreases-number l = 2 * l.self.now.levels

-- one above that of each of the two that are read
abbrev pub decreases-numbers : goal.decreases-numbers
decreases-numbers l = 2 * l.self.now.levels + 1
