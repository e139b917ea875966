use Rattle.std.proofs.Common.{rules}
use Rattle.sealing.proofs.atom_in_round.AtomInRound.ranges.Goals as goal

pub returns : goal.returns
returns g c = λ k h. search (rules, c.from_fn.ensures.items.at k 0 h)
