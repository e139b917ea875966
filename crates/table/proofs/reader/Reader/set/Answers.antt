use Rattle.std.proofs.Common.{true, false, refl, rules}
use Rattle.std.specs.Fn.{FnReturnsAt}
use Rattle.table.proofs.SetItems.{set_fine, set_wrong}
use Rattle.table.proofs.reader.Reader.set.Goals as goal

pub returns-then-test : goal.returns-then-test
returns-then-test g c =
    let says : FnReturnsAt g.F.Fn c.args.test c.names_of-names.result true = record { shown = _; shows = refl; says = record { met = c.if-test.ensures } } in
    λ p judges. set_fine p c.in_ok-word.ensures c.names_of-names.ensures (judges _ _ _ c.names_of-names.ensures says)

pub returns : goal.returns
returns g c =
    let says : FnReturnsAt g.F.Fn c.args.test c.names_of-names.result false = record { shown = _; shows = refl; says = record { met = c.if-test.ensures } } in
    λ p judges. set_wrong p c.in_ok-word.ensures (search rules) (judges _ _ _ c.names_of-names.ensures says)
