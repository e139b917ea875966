use Rattle.unit.proofs.Steps.{certify_allowed}
use Rattle.unit.specs.States.{model_of}
use Rattle.unit.proofs.Accepted.{certified}
use Rattle.unit.proofs.Calls.{came_by_certify, claimed_invariant, written_see}
use Rattle.unit.proofs.unit.Unit.accept_certificate.Goals as goal

pub invariant_of-self : goal.invariant_of-self
invariant_of-self g c =
    let m = g.D.Drawing.meaning c.args.self.now.drawing in
    let old = c.args.self.now.state in
    let before = c.args.self.now.invariant in
    let left = c.certify.ensures in
    record { invariant = claimed_invariant m old c.certify.new.self (came_by_certify m old c.certify.new.self c.args.number c.args.bytes.now left.unit) left.others (written_see m old.claims c.certify.new.self.claims left.written before.claims_see) before }

pub returns-clause-accepted : goal.returns-clause-accepted
returns-clause-accepted g c =
    certified (model_of (g.D.Drawing.meaning c.args.self.now.drawing) c.args.self.now.state) c.args.number c.args.bytes.now c.certify.result c.certify.ensures.answer

pub returns-clause-allowed : goal.returns-clause-allowed
returns-clause-allowed g c =
    let m = g.D.Drawing.meaning c.args.self.now.drawing in
    certify_allowed (model_of m c.args.self.now.state) (model_of m c.certify.new.self) c.args.bytes.now c.certify.result c.args.number c.certify.ensures.answer c.certify.ensures.unit
