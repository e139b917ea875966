use Rattle.std.proofs.Common.{refl, rules}
use Rattle.assembly.proofs.Tables.{table_is, atom_equal}
use Rattle.assembly.proofs.atom.FormAtom.own.Goals as goal

pub returns : goal.returns
returns c =
    atom_equal 0 c.args.number refl refl refl
    (table_is 32 c.gather.result.items (λ n. n) (λ n. n) c.gather.result.full (λ n l. let same = c.gather.ensures n n l in search rules) (λ n l. refl))
    (table_is 32 c.gather-2.result.items (λ n. n) (λ n. n) c.gather-2.result.full (λ n l. let same = c.gather-2.ensures n n l in search rules) (λ n l. refl))
