use Rattle.std.proofs.Common.{true, rules, ◌∙◌}
use Rattle.table.proofs.SetItems.{known_same}
use Rattle.table.proofs.sets.are_known.Goals as goal

pub returns : goal.returns
returns c = λ vs w laid of. c.all_pass.ensures (λ v. true) (search rules) ∙ known_same vs w c.args.variables.now c.args.names.now laid of
