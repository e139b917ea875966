use Rattle.std.proofs.Common.{rules}
use Rattle.model.specs.States.{is_state}
use Rattle.evidence.proofs.states.lowest_foreign.Goals as goal

pub returns : goal.returns
returns g c = c.lowest_failing.ensures (is_state (g.D.Outline.outline c.args.drawing.now)) (λ i b l h. search (rules, h))
