use Rattle.std.proofs.Common.{true, false, rules, tests}
use Rattle.std.proofs.lemmas.Iterator.{first_from_Range, serves_from_Range}
use Rattle.model.proofs.Lowest.{lowest_from}
use Rattle.model.proofs.below.lowest_below.Goals as goal

pub find-requires-clause-callable : goal.find-requires-clause-callable
find-requires-clause-callable g c = serves_from_Range (λ x q k. search (rules, tests)) (λ x low high. search (rules, c.requires))

pub returns : goal.returns
returns g c =
    let answered = goal.F-post g c.args.test in
    λ p h. lowest_from answered p c.args.bound h _ (first_from_Range _ _ _ _ (λ k. answered k true) (λ k. answered k false) c.find.ensures.ran (λ x q k. search (rules, tests)) (λ x q k. (search rules, search (rules, tests))))
