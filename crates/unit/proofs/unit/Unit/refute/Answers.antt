use Rattle.unit.proofs.Steps.{refute_allowed}
use Rattle.unit.specs.States.{model_of}
use Rattle.unit.proofs.Accepted.{broken_rightly}
use Rattle.unit.proofs.Calls.{came_by_refute, claimed_invariant, written_see}
use Rattle.unit.proofs.unit.Unit.refute.Goals as goal

pub invariant_of-self : goal.invariant_of-self
invariant_of-self g c =
    let m = g.D.Drawing.meaning c.args.self.now.drawing in
    let old = c.args.self.now.state in
    let before = c.args.self.now.invariant in
    let left = c.refute.ensures in
    record { invariant = claimed_invariant m old c.refute.new.self (came_by_refute m old c.refute.new.self c.args.number c.args.bytes.now left.unit) left.others (written_see m old.claims c.refute.new.self.claims left.written before.claims_see) before }

pub returns-clause-accepted : goal.returns-clause-accepted
returns-clause-accepted g c =
    broken_rightly (model_of (g.D.Drawing.meaning c.args.self.now.drawing) c.args.self.now.state) c.args.number c.args.bytes.now c.refute.result c.refute.ensures.answer

pub returns-clause-allowed : goal.returns-clause-allowed
returns-clause-allowed g c =
    let m = g.D.Drawing.meaning c.args.self.now.drawing in
    refute_allowed (model_of m c.args.self.now.state) (model_of m c.refute.new.self) c.args.bytes.now c.refute.result c.args.number c.refute.ensures.answer c.refute.ensures.unit
