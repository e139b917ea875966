use Rattle.theory.proofs.Members.{pigeonhole, count_unique}
use Rattle.theory.proofs.counts_are_unique.Goals as goal

pub returns : goal.returns
returns c = record { at_most = pigeonhole; unique = λ property xs ys. count_unique }
