use Rattle.unit.specs.States.{model_of}
use Rattle.unit.proofs.Steps.{claim_allowed}
use Rattle.unit.proofs.Calls.{came_by_claim, claimed_invariant}
use Rattle.unit.proofs.unit.Unit.claim.Goals as goal

pub invariant_of-self : goal.invariant_of-self
invariant_of-self g c =
    let m = g.D.Drawing.meaning c.args.self.now.drawing in
    let old = c.args.self.now.state in
    let before = c.args.self.now.invariant in
    let left = c.claim.ensures in
    record { invariant = claimed_invariant m old c.claim.new.self (came_by_claim m old c.claim.new.self c.args.bytes.now left.unit) left.others (left.claims_see before.claims_see) before }

pub returns-clause-allowed : goal.returns-clause-allowed
returns-clause-allowed g c =
    let m = g.D.Drawing.meaning c.args.self.now.drawing in
    claim_allowed (model_of m c.args.self.now.state) (model_of m c.claim.new.self) c.args.bytes.now c.claim.result c.claim.ensures.answer c.claim.ensures.unit
