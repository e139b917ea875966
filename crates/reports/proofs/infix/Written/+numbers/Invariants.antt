use Rattle.std.proofs.Common.{◌+◌, ◌*◌}
use Rattle.reports.proofs.infix.Written.+numbers.Given as goal

abbrev pub decreases-fmt_number : goal.decreases-fmt_number
decreases-fmt_number g l = 2 * l.levels

abbrev pub decreases-fmt_two : goal.decreases-fmt_two
decreases-fmt_two g l = 2 * l.levels + 1
