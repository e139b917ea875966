use Rattle.std.proofs.Common.{ap, ◌∙◌}
use Rattle.units.specs.Units.{claim_reading, is_wrong_reading}
use Rattle.unit.proofs.Calls.{added_see}
use Rattle.unit.proofs.state.UnitState.claim.Goals as goal

pub returns-clause-claims_see : goal.returns-clause-claims_see
returns-clause-claims_see g c =
    let m = g.D.Drawing.meaning c.args.drawing.now in
    added_see m c.args.self.now.claims c.add.new.self _ c.add.ensures.added (ap (λ bs. is_wrong_reading (claim_reading m bs)) c.in_ok-claim.ensures.written ∙ c.in_ok-claim.ensures.read)
