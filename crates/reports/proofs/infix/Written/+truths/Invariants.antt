use Rattle.std.proofs.Common.{◌+◌, ◌*◌}
use Rattle.reports.proofs.infix.Written.+truths.Given as goal

abbrev pub decreases-fmt_truth : goal.decreases-fmt_truth
decreases-fmt_truth g l = 3 * l.levels

abbrev pub decreases-fmt_operand : goal.decreases-fmt_operand
decreases-fmt_operand g l = 3 * l.levels + 1

abbrev pub decreases-fmt_both : goal.decreases-fmt_both
decreases-fmt_both g l = 3 * l.levels + 2
