use Rattle.std.proofs.Common.{rules, ◌≡◌}
use Rattle.model.specs.Tests.{lowest}
use Rattle.units.specs.Sealing.{badly_controlled, circular, sees_too_much, gets_stuck, leaves_range, too_wide, at_lowest, if_so, ◌else◌}
use Rattle.units.specs.declared.refusal.Refusal.TheVariants.{NotOneController, AwaitsItself, SeesTooMuch, GetsStuck, LeavesRange, TooWide}
use Rattle.sealing.proofs.Chain.{judged}
use Rattle.sealing.proofs.verdict.judge.Goals as goal

pub returns : goal.returns
returns g c =
    let m = g.D.Drawing.meaning c.args.drawing.now in
    let o = g.D.Outline.outline c.args.drawing.now in
    let control : c.or_else.result ≡ (c.fault_refusal.result else at_lowest NotOneController (lowest (badly_controlled o) 32)) = search rules in
    let circle : c.or_else-2.result ≡ (c.or_else.result else at_lowest AwaitsItself (lowest (circular o) o.atoms)) = search rules in
    let sight : c.or_else-3.result ≡ (c.or_else-2.result else at_lowest SeesTooMuch (lowest (sees_too_much o) o.atoms)) = search rules in
    let failure : c.or_else-4.result ≡ (c.or_else-3.result else (at_lowest GetsStuck (lowest (gets_stuck m) o.atoms) else at_lowest LeavesRange (lowest (leaves_range m) o.atoms))) = search rules in
    let width : c.or_else-5.result ≡ (c.or_else-4.result else if_so TooWide (too_wide m)) = search rules in
    judged m o (g.met.D.Drawing.agree c.args.drawing.now) c.fault_refusal.result c.or_else.result c.or_else-2.result c.or_else-3.result c.or_else-4.result c.or_else-5.result c.fault_refusal.ensures control circle sight failure width
