use Rattle.std.proofs.Common.{rules, ◌≡◌, ℕ, ◌<◌, length, get_or}
use Rattle.evidence.proofs.Lookups.{indexed}
use Rattle.evidence.proofs.indices.sorted_indices.Goals as goal

pub returns-clause-sorted : goal.returns-clause-sorted
returns-clause-sorted c =
    let all = c.from_fn-indices.result in
    let whole : length all ≡ 2048 = search rules in
    let each : (k : ℕ) → k < 2048 → get_or all k 0 ≡ k = λ k h. search (rules, c.from_fn-indices.ensures.items.at k 0 h) in
    indexed c.args.states.now all c.sort_indices.new.indices whole c.requires.few each c.sort_indices.ensures.permutation c.sort_indices.ensures.long c.sort_indices.ensures.sorted
