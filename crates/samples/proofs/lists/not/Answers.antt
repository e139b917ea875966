use Rattle.std.proofs.Common.{ap, ◌∙◌}
use Rattle.gates.specs.Meanings.{gates_meaning}
use Rattle.samples.proofs.lists.not.Goals as goal

pub returns : goal.returns
returns c = c.open.ensures.means ∙ ap gates_meaning c.inverter.ensures
