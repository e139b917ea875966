use Rattle.expression.proofs.checking.Checker.+truth_end.Given as goal

abbrev pub decreases-truth_end : goal.decreases-truth_end
decreases-truth_end l = l.levels
