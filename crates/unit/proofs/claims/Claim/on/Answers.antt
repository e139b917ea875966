use Rattle.std.proofs.Common.{rules, ◌≡◌, sym, ap, ◌∙◌, refl}
use Rattle.expression.specs.Checking.{seen_of}
use Rattle.model.specs.Rows.{row_items}
use Rattle.unit.specs.Truths.{is_truth}
use Rattle.unit.proofs.Reading.{check_passed, check_is_truth, check_made}
use Rattle.unit.proofs.claims.Claim.on.Goals as goal

pub invariant_of-result : goal.invariant_of-result
invariant_of-result g c =
    let m = g.D.Drawing.meaning c.args.drawing.now in
    let bs = c.args.bytes.now in
    let written : row_items c.in_ok-row.row ≡ bs = search rules in
    let passed = check_passed m bs (seen_of c.claim_names.result) c.check_truth.result c.claim_names.ensures c.check_truth.ensures.told (sym c.ok-2.ensures.value ∙ c.in_ok-ok.was) in
    record { right = ap is_truth written ∙ check_is_truth m bs passed }

pub returns-clause-made : goal.returns-clause-made
returns-clause-made g c =
    let m = g.D.Drawing.meaning c.args.drawing.now in
    let bs = c.args.bytes.now in
    let written : row_items c.in_ok-row.row ≡ bs = search rules in
    let passed = check_passed m bs (seen_of c.claim_names.result) c.check_truth.result c.claim_names.ensures c.check_truth.ensures.told (sym c.ok-2.ensures.value ∙ c.in_ok-ok.was) in
    check_made m bs (record { bytes = c.in_ok-row.row; mark = _; right = _ }) written refl passed
