use Rattle.std.proofs.Common.{rules, ◌≡◌, Ok, sym, ap, ◌∙◌}
use Rattle.units.specs.Evidence.{certificate_count, states_in}
use Rattle.units.specs.Units.{held, certify_refusal, claims_marked, with_claims}
use Rattle.unit.specs.States.{model_of}
use Rattle.unit.proofs.Calls.{answered, left, spared}
use Rattle.unit.proofs.state.UnitState.certify.Goals as goal

pub returns-in_err-count-clause-answer : goal.returns-in_err-count-clause-answer
returns-in_err-count-clause-answer g c =
    let m = g.D.Drawing.meaning c.args.drawing.now in
    let u = model_of m c.args.self.now in
    let bs = c.args.bytes.now in
    let after = with_claims u (claims_marked c.args.number held u.claims) in
    let same : c.from_residual.result ≡ c.certificate_count.result = search rules in
    answered (certify_refusal u c.args.number bs) u after (certificate_count m (states_in bs)) c.from_residual.result (same ∙ c.certificate_count.ensures)

pub returns-in_err-count-clause-unit : goal.returns-in_err-count-clause-unit
returns-in_err-count-clause-unit g c =
    let m = g.D.Drawing.meaning c.args.drawing.now in
    let u = model_of m c.args.self.now in
    let bs = c.args.bytes.now in
    let after = with_claims u (claims_marked c.args.number held u.claims) in
    spared (certify_refusal u c.args.number bs) u after (certificate_count m (states_in bs)) c.in_err-count.field-0.0 (sym c.in_err-count.was ∙ c.certificate_count.ensures)

pub returns-clause-answer : goal.returns-clause-answer
returns-clause-answer g c =
    let m = g.D.Drawing.meaning c.args.drawing.now in
    let u = model_of m c.args.self.now in
    let bs = c.args.bytes.now in
    let after = with_claims u (claims_marked c.args.number held u.claims) in
    answered (certify_refusal u c.args.number bs) u after (certificate_count m (states_in bs)) (Ok c.in_ok-count.count) (sym c.in_ok-count.was ∙ c.certificate_count.ensures)

pub returns-clause-unit : goal.returns-clause-unit
returns-clause-unit g c =
    let m = g.D.Drawing.meaning c.args.drawing.now in
    let u = model_of m c.args.self.now in
    let bs = c.args.bytes.now in
    let after = with_claims u (claims_marked c.args.number held u.claims) in
    ap (with_claims u) c.mark.ensures.marked ∙ left (certify_refusal u c.args.number bs) u after (certificate_count m (states_in bs)) c.in_ok-count.count (sym c.in_ok-count.was ∙ c.certificate_count.ensures)
