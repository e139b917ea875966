use Rattle.std.proofs.Common.{ℕ, rules, tests}
use Rattle.std.proofs.lemmas.Iterator.{items_from_collect, YieldsList-from_map}
use Rattle.std.proofs.lemmas.Iterator.Consumers.{YieldsList-at, YieldsList-from_chain, YieldsList-from_first}
use Rattle.model.specs.Sets.{members_left}
use Rattle.model.specs.States.{value}
use Rattle.reports.specs.declared.verdict.Age.TheVariants.{Old, New}
use Rattle.reports.specs.declared.verdict.Seen.{Seen}
use Rattle.reports.proofs.verdict.seen_values.Goals as goal

pub returns : goal.returns
returns c =
    let witness = c.args.witness.now in
    let old_at : ℕ → Seen = λ n. record { age = Old; name = n; value = value witness.old n } in
    let new_at : ℕ → Seen = λ n. record { age = New; name = n; value = value witness.new n } in
    items_from_collect c.collect.result c.collect.ensures.ran
    (YieldsList-from_chain
    (YieldsList-at c.chain.ensures.first
    (YieldsList-from_map _ old_at (YieldsList-at c.map-old.ensures.source (YieldsList-from_first (λ n. n) members_left _ c.iter.ensures)) c.map-old.ensures.closure (λ x r q k. search (rules, tests))))
    (YieldsList-at c.chain.ensures.second
    (YieldsList-from_map _ new_at (YieldsList-at c.map-new.ensures.source (YieldsList-from_first (λ n. n) members_left _ c.iter-2.ensures)) c.map-new.ensures.closure (λ x r q k. search (rules, tests))))
    c.chain.ensures.first_done c.chain.ensures.second_done)
