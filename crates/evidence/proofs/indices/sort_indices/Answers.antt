use Rattle.std.proofs.Common.{ap}
use Rattle.std.proofs.lemmas.Cmp.{nat_list_cmp_total}
use Rattle.std.proofs.lemmas.List.Sorted.{ranks_by}
use Rattle.std.proofs.lemmas.Fn.{always_returns_same}
use Rattle.std.specs.Ordering.{is_lt}
use Rattle.evidence.specs.Indices.{state_or_nothing, is_lower}
use Rattle.evidence.proofs.indices.sort_indices.Goals as goal

pub returns-clause-sorted : goal.returns-clause-sorted
returns-clause-sorted c =
    c.sort_unstable_by.ensures.sorted (is_lower c.args.states.now) (ranks_by nat_list_cmp_total (state_or_nothing c.args.states.now)) (always_returns_same _ _ _ (λ a r f' k. (ap is_lt k.met.1, ap (λ x. record { 0 = x }) k.met.0)))
