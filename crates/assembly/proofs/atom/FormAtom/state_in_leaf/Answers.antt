use Rattle.std.proofs.Common.{rules, get_or, sym, ap, ◌∙◌, arith}
use Rattle.std.proofs.lemmas.List.{get_or_past}
use Rattle.assembly.proofs.Tables.{table_is, named_past}
use Rattle.assembly.proofs.atom.FormAtom.state_in_leaf.Goals as goal

pub returns : goal.returns
returns c =
    let t = c.args.self.now in
    let v = c.args.state in
    rw c.items.ensures
    (table_is 32 c.gather.result.items (λ n. 0) (λ n. get_or v (get_or t.in_whole.items n n) 0) c.gather.result.full (λ n l. let same = c.gather.ensures n 0 l in search rules) (λ n l. sym (ap (λ m. get_or v m 0) (named_past t.in_whole.items n t.in_whole.full l) ∙ get_or_past v n 0 (omega arith))))
