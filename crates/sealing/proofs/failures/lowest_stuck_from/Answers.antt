use Rattle.std.proofs.Common.{◌≡◌, ◌&&◌, leb, rules, ap, ◌∙◌}
use Rattle.model.specs.Tests.{lowest}
use Rattle.units.specs.Sealing.{gets_stuck}
use Rattle.sealing.proofs.Failing.{asked_from}
use Rattle.sealing.proofs.failures.lowest_stuck_from.Goals as goal

pub returns : goal.returns
returns g c =
    let stuck = gets_stuck (g.D.Drawing.meaning c.args.drawing.now) in
    c.lowest_below.ensures stuck
    (λ k b l h. let is : b ≡ (leb c.args.from k && stuck k) = search (rules, h) in is ∙ asked_from stuck c.args.from k c.requires)
    ∙ ap (lowest stuck) c.atoms.ensures
