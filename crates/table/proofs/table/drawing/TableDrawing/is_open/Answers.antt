use Rattle.table.proofs.Values.{opens}
use Rattle.table.proofs.table.drawing.TableDrawing.is_open.Goals as goal

pub returns-clause-answer : goal.returns-clause-answer
returns-clause-answer c =
    let a = c.args in
    opens a.self.now a.round a.atom a.choice c.guard.result.now a.old a.new c.truth_value.result c.guard.ensures c.truth_value.ensures.evaluated c.truth_value.ensures.means
