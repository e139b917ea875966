use Rattle.life.proofs.Law.{lives_lawful}
use Rattle.unit.specs.States.{model_of}
use Rattle.unit.proofs.unit.Unit.refusal.Goals as goal

pub returns-clause-lawful : goal.returns-clause-lawful
returns-clause-lawful g c =
    let unit = c.args.self.now in
    lives_lawful (model_of (g.D.Drawing.meaning unit.drawing) unit.state) unit.invariant.came
