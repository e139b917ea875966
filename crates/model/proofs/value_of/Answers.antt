use Rattle.std.proofs.Common.{sym, arith}
use Rattle.std.proofs.lemmas.List.{get_or_past}
use Rattle.model.proofs.value_of.Goals as goal

pub returns-else-name-lt32 : goal.returns-else-name-lt32
returns-else-name-lt32 c = sym (get_or_past c.args.state c.args.name 0 (omega arith))
