use Rattle.std.proofs.Common.{◌∙◌}
use Rattle.model.proofs.States.{state_parts}
use Rattle.units.specs.Evidence.{is_listed}
use Rattle.units.specs.Units.{old_state}
use Rattle.evidence.proofs.Counted.{round_counted}
use Rattle.evidence.proofs.Steps.{nothing_state}
use Rattle.evidence.proofs.round.RoundSearch.count.Goals as goal

pub values_count-requires-clause-state : goal.values_count-requires-clause-state
values_count-requires-clause-state g c = nothing_state (g.D.Drawing.meaning c.args.self.now.drawing.now)

pub returns : goal.returns
returns g c =
    let m = g.D.Drawing.meaning c.args.self.now.drawing.now in
    let before = c.args.self.now.before in
    let ready = c.requires.ready in
    c.values_count.ensures
    ∙ round_counted m ready.fit before (state_parts m.outline (old_state before) ready.from_state).within c.args.self.now.order.now ready.ordered (is_listed c.args.self.now.states.now)
