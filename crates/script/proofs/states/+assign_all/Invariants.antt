use Rattle.std.proofs.Common.{length}
use Rattle.script.proofs.states.+assign_all.Given as goal

abbrev pub decreases-assign_all : goal.decreases-assign_all
decreases-assign_all l = length l.text.now
