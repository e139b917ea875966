use Rattle.std.proofs.Common.{◌≡◌, Some, rules, sym, ap, ◌∙◌}
use Rattle.units.specs.Sealing.{in_some_round, gets_stuck, leaves_range, at_lowest, ◌else◌}
use Rattle.units.specs.declared.refusal.Refusal.TheVariants.{GetsStuck, LeavesRange}
use Rattle.sealing.specs.Witnesses.{either_failure}
use Rattle.sealing.proofs.Failing.{fails_so, none_fails, clear_before, first_fails}
use Rattle.sealing.proofs.failures.failure_refusal.Goals as goal

pub returns-in_err-first : goal.returns-in_err-first
returns-in_err-first g c =
    let m = g.D.Drawing.meaning c.args.drawing.now in
    let atoms = (g.D.Outline.outline c.args.drawing.now).atoms in
    c.from_residual.ensures ∙ sym (none_fails (in_some_round m either_failure) (gets_stuck m) (leaves_range m) (fails_so m) atoms (sym c.lowest_failing.ensures ∙ c.in_err-first.was))

pub lowest_stuck_from-requires : goal.lowest_stuck_from-requires
lowest_stuck_from-requires g c =
    let m = g.D.Drawing.meaning c.args.drawing.now in
    let atoms = (g.D.Outline.outline c.args.drawing.now).atoms in
    clear_before (in_some_round m either_failure) (gets_stuck m) (leaves_range m) (fails_so m) atoms c.in_ok-first.first (sym c.lowest_failing.ensures ∙ c.in_ok-first.was)

pub returns : goal.returns
returns g c =
    let m = g.D.Drawing.meaning c.args.drawing.now in
    let atoms = (g.D.Outline.outline c.args.drawing.now).atoms in
    let first = c.in_ok-first.first in
    let is : c.or.result ≡ (at_lowest GetsStuck c.lowest_stuck_from.result else at_lowest LeavesRange (Some first)) = search rules in
    is ∙ ap (λ s. at_lowest GetsStuck s else at_lowest LeavesRange (Some first)) c.lowest_stuck_from.ensures
    ∙ first_fails (in_some_round m either_failure) (gets_stuck m) (leaves_range m) (fails_so m) atoms first (sym c.lowest_failing.ensures ∙ c.in_ok-first.was)
