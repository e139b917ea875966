use Rattle.std.proofs.Common.{rules, ◌≡◌, ◌+◌, ◌-◌, ◌<◌, ◌≤◌, true, set, sym, refl, ap, ◌∙◌, subst, arith}
use Rattle.model.specs.Meanings.{OutlineFacts}
use Rattle.model.specs.States.{is_state}
use Rattle.units.specs.Evidence.{is_listed}
use Rattle.evidence.specs.Counts.{given_top, sum_below, atoms_count}
use Rattle.evidence.proofs.Sums.{sum_none}
use Rattle.evidence.proofs.Steps.{value_count, values_left, values_none, values_missing, values_more, given_is_state}
use Rattle.evidence.proofs.round.RoundSearch.+values_count.Goals as goal

pub returns-then-name-ge32 : goal.returns-then-name-ge32
returns-then-name-ge32 g t c =
    let m = g.D.Drawing.meaning c.args.self.now.drawing.now in
    let before = c.args.self.now.before in
    let listed = is_listed c.args.self.now.states.now in
    let order = c.args.self.now.order.now in
    let all : m.outline.atoms - 0 ≡ m.outline.atoms = omega arith in
    c.atoms_count.ensures ∙ ap (λ n. atoms_count m before listed order 0 n c.args.new) all ∙ sym (values_none m before listed order c.args.name c.args.new c.if-name-ge32.true)

pub loop-value-init : goal.loop-value-init
loop-value-init g t c = sum_none (value_count (g.D.Drawing.meaning c.args.self.now.drawing.now) c.args.self.now.before (is_listed c.args.self.now.states.now) c.args.self.now.order.now c.args.name c.args.new)

pub values_count-requires : goal.values_count-requires
values_count-requires g t c κs within =
    let m = g.D.Drawing.meaning c.args.self.now.drawing.now in
    let top : c.given_top-value-end.result ≡ given_top m.outline c.args.name = c.given_top-value-end.ensures ∙ ap (λ (o : OutlineFacts). given_top o c.args.name) (sym (g.met.D.Drawing.agree c.args.self.now.drawing.now)) in
    let state : is_state m.outline (set c.args.new c.args.name c.loop-value.value) ≡ true = given_is_state m c.args.new c.args.name c.loop-value.value c.if-name-ge32.false c.requires.state (subst (λ n. c.loop-value.value ≤ n) top c.loop-value-test.true) in
    let low : c.args.name < 32 = c.if-name-ge32.false in
    search rules

pub returns-in_err-under : goal.returns-in_err-under
returns-in_err-under g t c =
    let m = g.D.Drawing.meaning c.args.self.now.drawing.now in
    let before = c.args.self.now.before in
    let listed = is_listed c.args.self.now.states.now in
    let order = c.args.self.now.order.now in
    let top : c.given_top-value-end.result ≡ given_top m.outline c.args.name = c.given_top-value-end.ensures ∙ ap (λ (o : OutlineFacts). given_top o c.args.name) (sym (g.met.D.Drawing.agree c.args.self.now.drawing.now)) in
    let inside : c.loop-value.value < given_top m.outline c.args.name + 1 = omega (arith, top) in
    c.from_residual.ensures
    ∙ sym (values_missing m before listed order c.args.name c.args.new c.if-name-ge32.false c.loop-value.value _ c.values_count.result inside refl c.values_count.ensures c.in_err-under.was)

pub loop-value-preserved : goal.loop-value-preserved
loop-value-preserved g t c =
    let m = g.D.Drawing.meaning c.args.self.now.drawing.now in
    let before = c.args.self.now.before in
    let listed = is_listed c.args.self.now.states.now in
    let order = c.args.self.now.order.now in
    values_more m before listed order c.args.name c.args.new c.loop-value.value c.loop-value.count _ c.values_count.result c.in_ok-under.under c.saturating_add-count.result c.loop-value.invariant refl c.values_count.ensures c.in_ok-under.was c.saturating_add-count.ensures

pub returns-in_ok-under : goal.returns-in_ok-under
returns-in_ok-under g t c =
    let m = g.D.Drawing.meaning c.args.self.now.drawing.now in
    let before = c.args.self.now.before in
    let listed = is_listed c.args.self.now.states.now in
    let order = c.args.self.now.order.now in
    let top : c.given_top-value-end.result ≡ given_top m.outline c.args.name = c.given_top-value-end.ensures ∙ ap (λ (o : OutlineFacts). given_top o c.args.name) (sym (g.met.D.Drawing.agree c.args.self.now.drawing.now)) in
    let end : c.loop-value.value + 1 ≡ given_top m.outline c.args.name + 1 = omega (arith, top) in
    let all = values_more m before listed order c.args.name c.args.new c.loop-value.value c.loop-value.count _ c.values_count.result c.in_ok-under.under c.saturating_add-count.result c.loop-value.invariant refl c.values_count.ensures c.in_ok-under.was c.saturating_add-count.ensures in
    sym (values_left m before listed order c.args.name c.args.new c.if-name-ge32.false ∙ ap (sum_below (value_count m before listed order c.args.name c.args.new)) (sym end) ∙ all)
