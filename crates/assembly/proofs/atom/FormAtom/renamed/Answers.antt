use mathlib.Core.Path.{fun_ext}
use Rattle.std.proofs.Common.{rules, get_or}
use Rattle.model.specs.Exchange.{exchange}
use Rattle.assembly.proofs.Tables.{table_is, atom_equal, named_exchange, named_exchanged}
use Rattle.assembly.proofs.atom.FormAtom.renamed.Goals as goal

pub returns : goal.returns
returns c =
    let t = c.args.self.now in
    let e = c.args.exchange in
    atom_equal t.leaf t.number (fun_ext c.names.ensures) (fun_ext c.names-2.ensures) (fun_ext c.names-3.ensures)
    (table_is 32 c.gather.result.items (λ n. n) (λ n. exchange e.one e.other (get_or t.in_whole.items n n)) c.gather.result.full (λ n l. let same = c.gather.ensures n n l in search rules) (λ n l. named_exchange t.in_whole.items e.one e.other n t.in_whole.full e.one_name e.other_name l))
    (table_is 32 c.gather-2.result.items (λ n. n) (λ n. get_or t.in_leaf.items (exchange e.one e.other n) (exchange e.one e.other n)) c.gather-2.result.full (λ n l. let same = c.gather-2.ensures n n l in search rules) (λ n l. named_exchanged t.in_leaf.items e.one e.other n t.in_leaf.full e.one_name e.other_name l))
