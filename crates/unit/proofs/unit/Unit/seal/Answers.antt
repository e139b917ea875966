use Rattle.life.proofs.Piles.{sealed_rules}
use Rattle.unit.specs.States.{model_of}
use Rattle.unit.proofs.Sealing.{none_see, sealed_model, sealed_invariant, sealed_rightly}
use Rattle.unit.proofs.unit.Unit.seal.Goals as goal

pub invariant_of-result : goal.invariant_of-result
invariant_of-result g c =
    let m = g.D.Drawing.meaning c.args.drawing in
    let made = c.new-state in
    let model = sealed_model m c.args.number made.result c.none.result c.none.ensures made.ensures.model in
    record { invariant = sealed_invariant m c.args.number made.result model made.ensures.judged made.ensures.ordered made.ensures.in_order (made.ensures.claims_see (none_see m c.none.result c.none.ensures)) }

pub returns-clause-rightly : goal.returns-clause-rightly
returns-clause-rightly g c = sealed_rightly (g.D.Drawing.meaning c.args.drawing) c.new-state.result c.new-state.ensures.judged c.new-state.ensures.in_order

pub returns-clause-sealed : goal.returns-clause-sealed
returns-clause-sealed g c =
    let m = g.D.Drawing.meaning c.args.drawing in
    let made = c.new-state in
    (sealed_rules m c.args.number (model_of m made.result)).1 (sealed_model m c.args.number made.result c.none.result c.none.ensures made.ensures.model)
