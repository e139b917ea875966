use Rattle.std.proofs.Common.{rules, ◌≡◌, length, Ok, sym, ap, ◌∙◌}
use Rattle.units.specs.Evidence.{states_in}
use Rattle.units.specs.Units.{broken, refute_refusal, claims_marked, with_claims}
use Rattle.unit.specs.States.{model_of}
use Rattle.unit.proofs.Calls.{answered, left, spared}
use Rattle.unit.proofs.state.UnitState.refute.Goals as goal

pub returns-in_err-length-clause-answer : goal.returns-in_err-length-clause-answer
returns-in_err-length-clause-answer g c =
    let m = g.D.Drawing.meaning c.args.drawing.now in
    let u = model_of m c.args.self.now in
    let bs = c.args.bytes.now in
    let after = with_claims u (claims_marked c.args.number broken u.claims) in
    let same : c.from_residual.result ≡ c.run_length.result = search rules in
    answered (refute_refusal u c.args.number bs) u after (length (states_in bs)) c.from_residual.result (same ∙ c.run_length.ensures)

pub returns-in_err-length-clause-unit : goal.returns-in_err-length-clause-unit
returns-in_err-length-clause-unit g c =
    let m = g.D.Drawing.meaning c.args.drawing.now in
    let u = model_of m c.args.self.now in
    let bs = c.args.bytes.now in
    let after = with_claims u (claims_marked c.args.number broken u.claims) in
    spared (refute_refusal u c.args.number bs) u after (length (states_in bs)) c.in_err-length.field-0.0 (sym c.in_err-length.was ∙ c.run_length.ensures)

pub returns-clause-answer : goal.returns-clause-answer
returns-clause-answer g c =
    let m = g.D.Drawing.meaning c.args.drawing.now in
    let u = model_of m c.args.self.now in
    let bs = c.args.bytes.now in
    let after = with_claims u (claims_marked c.args.number broken u.claims) in
    answered (refute_refusal u c.args.number bs) u after (length (states_in bs)) (Ok c.in_ok-length.length) (sym c.in_ok-length.was ∙ c.run_length.ensures)

pub returns-clause-unit : goal.returns-clause-unit
returns-clause-unit g c =
    let m = g.D.Drawing.meaning c.args.drawing.now in
    let u = model_of m c.args.self.now in
    let bs = c.args.bytes.now in
    let after = with_claims u (claims_marked c.args.number broken u.claims) in
    ap (with_claims u) c.mark.ensures.marked ∙ left (refute_refusal u c.args.number bs) u after (length (states_in bs)) c.in_ok-length.length (sym c.in_ok-length.was ∙ c.run_length.ensures)
