use Rattle.std.proofs.Common.{◌^◌, ◌<◌, ◌∙◌, rules, arith}
use Rattle.language.specs.Tables.{bit}
use Rattle.table.proofs.Words.{all_names}
use Rattle.table.proofs.sets.names_of.Goals as goal

pub returns : goal.returns
returns c n =
    let small : c.args.word < 2 ^ 32 = omega arith in
    c.gather.ensures (bit c.args.word) (λ k b l e. search rules) n ∙ all_names c.args.word small n
