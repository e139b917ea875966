use Rattle.std.proofs.Common.{None, rules}
use Rattle.assembly.proofs.Tables.{leaf_of}
use Rattle.assembly.proofs.form.Form.of_leaf.Goals as goal

pub returns : goal.returns
returns g c =
    leaf_of (g.D.Drawing.meaning c.args.drawing.now) _ (g.met.D.Drawing.agree c.args.drawing.now) c.fault.result c.layers.result c.atoms.result c.gather.result.items c.gather-2.result.items c.gather-3.result.items c.gather.result.full c.gather-2.result.full c.fault.ensures c.layers.ensures c.atoms.ensures
    (λ n l. let same = c.gather.ensures n None l in search rules)
    (λ n l. let same = c.gather-2.ensures n 0 l in search rules)
    (λ a l. let same = c.gather-3.ensures a None l in search rules)
