use Rattle.std.proofs.Common.{not, ◌||◌, ◌+◌, sym, ap, ◌∙◌, arith}
use Rattle.std.proofs.lemmas.Bool.{and_from, and_left, and_right}
use Rattle.std.proofs.Math.Bool.{or-true}
use Rattle.model.specs.Tests.{some}
use Rattle.model.proofs.Bounded.{some_none, some_more, some_at}
use Rattle.sealing.specs.Search.{open_at, wrong_name, wrong_choice}
use Rattle.sealing.proofs.Bounds.{some_past}
use Rattle.sealing.proofs.search.Search.fails.Goals as goal
use Rattle.sealing.proofs.search.Search.fails.Goals.{then-is_open+else-gives_outside, else-is_open}

pub loop-choice-init : goal.loop-choice-init
loop-choice-init g c =
    let acts = (g.D.Drawing.meaning c.args.self.now.drawing.now).acts in
    let query = c.args.self.now.query in
    let witness = c.args.witness.now in
    record { known = sym (ap not (some_none (open_at acts query witness))); right = some_none (wrong_choice acts query witness) }

pub returns-then-gives_outside : goal.returns-then-gives_outside
returns-then-gives_outside g c =
    let acts = (g.D.Drawing.meaning c.args.self.now.drawing.now).acts in
    let query = c.args.self.now.query in
    let witness = c.args.witness.now in
    let choice = c.loop-choice.choice in
    let wrong = and_from (open_at acts query witness choice) (some (wrong_name acts query witness choice) 32) (sym c.is_open.ensures ∙ c.if-is_open.true) (sym c.gives_outside.ensures ∙ c.if-gives_outside.true) in
    let found = some_at (wrong_choice acts query witness) query.choices choice (omega arith) wrong in
    sym (ap (λ b. not (some (open_at acts query witness) query.choices) || b) found ∙ or-true (not (some (open_at acts query witness) query.choices)))

pub loop-choice-preserved : goal.loop-choice-preserved
loop-choice-preserved g c =
    let acts = (g.D.Drawing.meaning c.args.self.now.drawing.now).acts in
    let query = c.args.self.now.query in
    let witness = c.args.witness.now in
    let choice = c.loop-choice.choice in
    let before = c.loop-choice.invariant in
    elim c.if-is_open.branch [
      | then-is_open+else-gives_outside w ↦ record {
        known = w.stuck-is ∙ sym (ap not (some_at (open_at acts query witness) (choice + 1) choice (omega arith) (sym c.is_open.ensures ∙ w.if-is_open.true)));
        right = some_more (wrong_choice acts query witness) choice before.right (and_right (open_at acts query witness choice) (some (wrong_name acts query witness choice) 32) (sym w.gives_outside.ensures ∙ w.if-gives_outside.false));
      }
      | else-is_open w ↦ record {
        known = w.stuck-is ∙ before.known ∙ sym (ap not (some_past (open_at acts query witness) choice (sym c.is_open.ensures ∙ w.if-is_open.false)));
        right = some_more (wrong_choice acts query witness) choice before.right (and_left (open_at acts query witness choice) (some (wrong_name acts query witness choice) 32) (sym c.is_open.ensures ∙ w.if-is_open.false));
      }
    ]
