use Rattle.std.proofs.Common.{◌∙◌, ◌<◌, arith, rules, tests}
use Rattle.std.proofs.lemmas.Iterator.{YieldsList-from_map}
use Rattle.std.proofs.lemmas.Iterator.Adapters.{serves_from_places}
use Rattle.std.proofs.lemmas.Iterator.Consumers.{YieldsList-at, YieldsList-from_first, sum_by_from_yields_List, fits_by_from_yields_list}
use Rattle.std.proofs.lemmas.List.Elements.{All-filter}
use Rattle.std.proofs.lemmas.List.FromFn.{get_or-range_with_len}
use Rattle.std.specs.List.{range_with_len}
use Rattle.model.specs.Sets.{has, members, members_left}
use Rattle.reports.proofs.Below.{bit, bits_below}
use Rattle.reports.proofs.outline.mask.Goals as goal

-- a name is below 32, so the shift by it is allowed
pub sum-requires-clause-can : goal.sum-requires-clause-can
sum-requires-clause-can c =
    let few = All-filter (has c.args.names.now) (λ n. n < 32) (range_with_len 0 32) (λ k d l. rw (get_or-range_with_len 0 32 k d l) (omega (arith, l))) in (
      tt,
      serves_from_places (YieldsList-at c.map.ensures.source (YieldsList-from_first (λ n. n) members_left _ c.iter.ensures))
          (λ x q k. search (rules, tests)) (λ x k l is. let small = few k x l in search (rules, tests)),
    )

pub sum-requires-clause-fits : goal.sum-requires-clause-fits
sum-requires-clause-fits c =
    let is = bits_below (has c.args.names.now) 32 (omega arith) in
    fits_by_from_yields_list bit (members c.args.names.now) c.map.result _
    (YieldsList-from_map _ bit (YieldsList-at c.map.ensures.source (YieldsList-from_first (λ n. n) members_left _ c.iter.ensures)) c.map.ensures.closure (λ x r q k. search (rules, tests)))
    (rw is.0 is.1)

pub returns : goal.returns
returns c =
    sum_by_from_yields_List bit (members c.args.names.now) c.map.result _ c.sum.ensures.ran
    (YieldsList-from_map _ bit (YieldsList-at c.map.ensures.source (YieldsList-from_first (λ n. n) members_left _ c.iter.ensures)) c.map.ensures.closure (λ x r q k. search (rules, tests)))
    ∙ (bits_below (has c.args.names.now) 32 (omega arith)).0
