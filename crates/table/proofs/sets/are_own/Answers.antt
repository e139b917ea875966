use Rattle.std.proofs.Common.{◌≡◌, ltb, false, rules, ◌∙◌, arith}
use Rattle.std.proofs.lemmas.Bool.Decides.{nat_tests}
use Rattle.language.specs.Tables.{own_kind}
use Rattle.table.proofs.SetItems.{own_by_all, own_none}
use Rattle.table.proofs.sets.are_own.Goals as goal

pub returns-then-count-gt0 : goal.returns-then-count-gt0
returns-then-count-gt0 c = λ vs w laid of. c.all_pass.ensures (λ v. own_kind v.kind) (search rules) ∙ own_by_all vs w c.args.variables.now c.args.names.now laid of (omega arith)

pub returns-else-count-gt0 : goal.returns-else-count-gt0
returns-else-count-gt0 c =
    λ vs w laid of.
    let no : ltb 0 c.count.result ≡ false = grind (arith, nat_tests) in
    no ∙ own_none vs w c.args.variables.now c.args.names.now laid of (omega arith)
