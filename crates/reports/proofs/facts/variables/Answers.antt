use Rattle.std.proofs.Common.{refl, rules, tests}
use Rattle.std.proofs.lemmas.Iterator.{items_from_collect, YieldsList-from_range}
use Rattle.std.proofs.lemmas.Iterator.Consumers.{YieldsList-from_filter_map}
use Rattle.reports.proofs.Below.{variable_found, variables_below}
use Rattle.reports.proofs.facts.variables.Goals as goal

pub returns : goal.returns
returns g c =
    let o = g.D.Outline.outline c.args.drawing.now in
    rw (← variables_below o 32) (items_from_collect c.collect.result c.collect.ensures.ran
    (YieldsList-from_filter_map _ (variable_found o) (YieldsList-from_range 0 32 32 c.filter_map.ensures.source refl) c.filter_map.ensures.closure (λ x r q k. search (rules, tests))))
