use Rattle.drawing_tests.proofs.run_time_piles.joins.+inverters_by_halves.Given as goal

abbrev pub decreases-inverters_by_halves : goal.decreases-inverters_by_halves
decreases-inverters_by_halves l = l.count
