use Rattle.std.proofs.Common.{Err, ℕ, subst, rules, arith}
use Rattle.std.proofs.lemmas.Grind.{common_steps}
use Rattle.std.specs.Fn.{FnReturnsAt}
use Rattle.table.proofs.Judged.{part_ends, judged_fine, judged_wrong}
use Rattle.table.proofs.reader.Reader.expression.Goals as goal

pub map_err-requires : goal.map_err-requires
map_err-requires g c = λ e is.
    let answered : FnReturnsAt g.F.Fn c.args.check c.in_ok-part.part.now c.check.result = search rules in
    let says : FnReturnsAt g.F.Fn c.args.check c.in_ok-part.part.now (Err e) = subst (λ r. FnReturnsAt g.F.Fn c.args.check c.in_ok-part.part.now r) is answered in
    let ends = part_ends c.in_ok-size.size c.in_ok-part.ensures in
    let inside = c.requires.inside _ _ says in
    grind (arith, common_steps)

pub returns : goal.returns
returns g c = λ fault checks.
    let answered : FnReturnsAt g.F.Fn c.args.check c.in_ok-part.part.now c.check.result = search rules in
    let outcome = checks _ _ answered in
    let fine = judged_fine fault c.in_ok-size.ensures c.in_ok-part.ensures in
    let wrong = λ (place : ℕ) (broken : _). judged_wrong fault c.in_ok-size.ensures c.in_ok-part.ensures {place = place} {broken = broken} in
    grind (arith, common_steps, fine, wrong)
