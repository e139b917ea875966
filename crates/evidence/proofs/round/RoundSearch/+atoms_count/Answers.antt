use Rattle.std.proofs.Common.{rules, ◌≡◌, ◌+◌, ◌<◌, ◌≤◌, true, cond, Some, None, sym, ap, ◌∙◌, subst, arith}
use Rattle.model.specs.Meanings.{OutlineFacts}
use Rattle.model.specs.States.{is_state}
use Rattle.sealing.specs.Orders.{atom_at}
use Rattle.sealing.proofs.Bounds.{then_some_witness}
use Rattle.units.specs.Evidence.{is_listed}
use Rattle.evidence.specs.Counts.{sum_below}
use Rattle.evidence.proofs.Sums.{sum_none}
use Rattle.evidence.proofs.Steps.{choice_count, atoms_left, atoms_none, atoms_missing, atoms_more, atoms_skip, gift_byte, made_state}
use Rattle.evidence.proofs.round.RoundSearch.+atoms_count.Goals as goal
use Rattle.evidence.proofs.round.RoundSearch.+atoms_count.Goals.{then-is_open+in_ok-under, else-is_open}

pub returns-then-place-atoms : goal.returns-then-place-atoms
returns-then-place-atoms g t c =
    let m = g.D.Drawing.meaning c.args.self.now.drawing.now in
    let atoms = ap (λ (o : OutlineFacts). o.atoms) (g.met.D.Drawing.agree c.args.self.now.drawing.now) in
    c.then_some.ensures ∙ then_some_witness c.is_listed.result 1 ∙ ap (λ b. cond b (Some 1) None) c.is_listed.ensures
    ∙ sym (atoms_none m c.args.self.now.before (is_listed c.args.self.now.states.now) c.args.self.now.order.now c.args.place c.args.new (omega (arith, atoms)))

pub loop-choice-init : goal.loop-choice-init
loop-choice-init g t c = sum_none (choice_count (g.D.Drawing.meaning c.args.self.now.drawing.now) c.args.self.now.before (is_listed c.args.self.now.states.now) c.args.self.now.order.now c.args.place c.args.new)

pub with_choice-made-requires : goal.with_choice-made-requires
with_choice-made-requires g t c =
    let m = g.D.Drawing.meaning c.args.self.now.drawing.now in
    let atoms = ap (λ (o : OutlineFacts). o.atoms) (g.met.D.Drawing.agree c.args.self.now.drawing.now) in
    gift_byte m c.args.self.now.before c.args.self.now.order.now c.requires.ready c.args.new c.args.place c.loop-choice.choice c.requires.state (omega (arith, atoms)) (sym c.is_open.ensures ∙ c.if-is_open.true)

pub atoms_count-requires : goal.atoms_count-requires
atoms_count-requires g t c κs within =
    let m = g.D.Drawing.meaning c.args.self.now.drawing.now in
    let atoms = ap (λ (o : OutlineFacts). o.atoms) (g.met.D.Drawing.agree c.args.self.now.drawing.now) in
    let state : is_state m.outline c.with_choice-made.result ≡ true = subst (λ s. is_state m.outline s ≡ true) (sym c.with_choice-made.ensures) (made_state m c.args.self.now.before c.args.self.now.order.now c.requires.ready c.args.new c.args.place c.loop-choice.choice c.requires.state (omega (arith, atoms)) (sym c.is_open.ensures ∙ c.if-is_open.true)) in
    let inside : c.args.place + 1 ≤ m.outline.atoms = omega (arith, atoms) in
    let few : m.outline.atoms ≤ 16 = m.outline_laws.few_atoms in
    let room : c.args.place < 16 = omega arith in
    search rules

pub returns-in_err-under : goal.returns-in_err-under
returns-in_err-under g t c =
    let m = g.D.Drawing.meaning c.args.self.now.drawing.now in
    let before = c.args.self.now.before in
    let listed = is_listed c.args.self.now.states.now in
    let order = c.args.self.now.order.now in
    let atoms = ap (λ (o : OutlineFacts). o.atoms) (g.met.D.Drawing.agree c.args.self.now.drawing.now) in
    let low : c.args.place < m.outline.atoms = omega (arith, atoms) in
    c.from_residual.ensures
    ∙ sym (atoms_missing m before listed order c.args.place c.args.new low c.loop-choice.choice c.with_choice-made.result c.atoms_count.result (subst (λ n. c.loop-choice.choice < n) (c.choices-choice-end.ensures.answer ∙ ap (λ r. m.acts.choices r (atom_at order c.args.place)) c.round.ensures) c.loop-choice-test.true) (sym c.is_open.ensures ∙ c.if-is_open.true) c.with_choice-made.ensures c.atoms_count.ensures c.in_err-under.was)

pub loop-choice-preserved : goal.loop-choice-preserved
loop-choice-preserved g t c =
    let m = g.D.Drawing.meaning c.args.self.now.drawing.now in
    let before = c.args.self.now.before in
    let listed = is_listed c.args.self.now.states.now in
    let order = c.args.self.now.order.now in
    elim c.if-is_open.branch [
      | then-is_open+in_ok-under w ↦ atoms_more m before listed order c.args.place c.args.new c.loop-choice.choice c.loop-choice.count w.with_choice-made.result w.atoms_count.result w.in_ok-under.under c.if-is_open.count c.loop-choice.invariant (sym c.is_open.ensures ∙ w.if-is_open.true) w.with_choice-made.ensures w.atoms_count.ensures w.in_ok-under.was (w.count-is ∙ w.saturating_add-count.ensures)
      | else-is_open w ↦ atoms_skip m before listed order c.args.place c.args.new c.loop-choice.choice c.loop-choice.count c.if-is_open.count c.loop-choice.invariant (sym c.is_open.ensures ∙ w.if-is_open.false) w.count-is
    ]

pub returns : goal.returns
returns g t c =
    let m = g.D.Drawing.meaning c.args.self.now.drawing.now in
    let before = c.args.self.now.before in
    let listed = is_listed c.args.self.now.states.now in
    let order = c.args.self.now.order.now in
    let atoms = ap (λ (o : OutlineFacts). o.atoms) (g.met.D.Drawing.agree c.args.self.now.drawing.now) in
    let low : c.args.place < m.outline.atoms = omega (arith, atoms) in
    let end : c.loop-choice.choice ≡ c.choices-choice-end.result = omega arith in
    sym (atoms_left m before listed order c.args.place c.args.new low
    ∙ ap (sum_below (choice_count m before listed order c.args.place c.args.new)) (sym (end ∙ c.choices-choice-end.ensures.answer ∙ ap (λ r. m.acts.choices r (atom_at order c.args.place)) c.round.ensures))
    ∙ c.loop-choice.invariant)
