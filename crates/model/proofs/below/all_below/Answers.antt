use Rattle.std.proofs.Common.{true, false, refl, rules, tests, arith}
use Rattle.std.proofs.lemmas.Iterator.{cases_from_all, serves_from_Range, YieldsList-from_range}
use Rattle.model.proofs.Bounded.{every_from}
use Rattle.model.proofs.below.all_below.Goals as goal

pub all-requires-clause-callable : goal.all-requires-clause-callable
all-requires-clause-callable g c = serves_from_Range (λ x q k. search (rules, tests)) (λ x low high. search (rules, c.requires))

pub returns : goal.returns
returns g c =
    let answered = goal.F-post g c.args.test in
    let bound = c.args.bound in
    λ p h. every_from answered p bound h _ (cases_from_all _ _ _ (λ k. answered k true) (λ k. answered k false) c.all.ensures.ran (YieldsList-from_range 0 bound bound refl (omega arith)) (λ x q k. (search rules, search (rules, tests))) (λ x q k. search (rules, tests)))
