use Rattle.std.proofs.Common.{◌≡◌, not, false}
use Rattle.model.specs.Tests.{some}
use Rattle.sealing.specs.Search.{open_at, wrong_choice}
use Rattle.sealing.proofs.search.Search.fails.Given as goal

-- whether a choice so far is open is known, and none of them is wrong
abbrev pub invariant-loop-choice : goal.invariant-loop-choice
invariant-loop-choice g l =
    let acts = (g.D.Drawing.meaning l.self.drawing.now).acts in
    record {
      known : l.stuck ≡ not (some (open_at acts l.self.query l.witness) l.choice);
      right : some (wrong_choice acts l.self.query l.witness) l.choice ≡ false;
    }
