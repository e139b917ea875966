use Rattle.std.proofs.Common.{rules}
use Rattle.units.specs.Sealing.{awaits_atom}
use Rattle.sealing.proofs.await_table.await_set.Goals as goal

pub returns : goal.returns
returns g c = c.gather.ensures (awaits_atom (g.D.Outline.outline c.args.drawing.now) c.args.atom) (λ k b l h. search (rules, h))
