use Rattle.std.proofs.Common.{rules, is_some, ◌∙◌}
use Rattle.units.specs.Units.{claim_sight}
use Rattle.unit.proofs.Reading.{seen_same, variables_only}
use Rattle.unit.proofs.claims.claim_names.Goals as goal

pub returns : goal.returns
returns g c =
    let m = g.D.Drawing.meaning c.args.drawing.now in
    seen_same (record { old = c.gather.result; new = c.none.result }) (claim_sight m) (λ n. c.gather.ensures (λ k. is_some (m.outline.kind k)) (λ k b l h. search (rules, h)) n ∙ variables_only m n) c.none.ensures
