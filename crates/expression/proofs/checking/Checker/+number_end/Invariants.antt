use Rattle.expression.proofs.checking.Checker.+number_end.Given as goal

abbrev pub decreases-number_end : goal.decreases-number_end
decreases-number_end l = l.levels
