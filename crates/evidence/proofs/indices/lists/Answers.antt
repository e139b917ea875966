use Rattle.std.proofs.Common.{◌∙◌}
use Rattle.std.proofs.lemmas.Fn.{always_returns_same}
use Rattle.evidence.proofs.Lookups.{against, looked_up}
use Rattle.evidence.proofs.indices.lists.Goals as goal

pub returns : goal.returns
returns c =
    c.is_ok.ensures.value
    ∙ looked_up c.args.states.now c.args.indices.now c.args.state c.requires.sorted c.binary_search_by.result c.binary_search_by.ensures.bound
    (c.binary_search_by.ensures.position (against c.args.states.now c.args.indices.now c.args.state c.requires.sorted) (always_returns_same _ _ _ (λ a r f' k. (k.met.1, λ j. (k.met.0.0 j, k.met.0.1 j)))))
