use Rattle.samples.proofs.bytes.+push_sum.Given as goal

abbrev pub decreases-push_sum : goal.decreases-push_sum
decreases-push_sum l = l.halvings
