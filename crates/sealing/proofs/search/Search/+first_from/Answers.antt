use Rattle.std.proofs.Common.{◌+◌, ◌-◌, is_some, sym, ap, ◌∙◌, arith}
use Rattle.model.specs.States.{value}
use Rattle.sealing.specs.Search.{failure_at, witness_if, filling_with, IsNext, Narrow}
use Rattle.sealing.proofs.Bounds.{first_none, then_some_witness}
use Rattle.sealing.proofs.Filling.{fills_none, fills_skip, fills_child, fills_found, fills_passed, fills_clear}
use Rattle.sealing.proofs.search.Search.+first_from.Goals as goal

pub returns-in_default : goal.returns-in_default
returns-in_default g t c =
    let query = c.args.self.now.query in
    let test = witness_if (failure_at query.failure (g.D.Drawing.meaning c.args.self.now.drawing.now).acts query) in
    let narrow : Narrow (value query.ranges) c.args.place 64 = rw c.in_default.is at c.next_place.ensures in
    c.then_some.ensures
    ∙ then_some_witness c.occurs.result c.args.witness
    ∙ ap (λ b. witness_if (λ _. b) c.args.witness) c.occurs.ensures
    ∙ sym (fills_skip test (value query.ranges) c.args.witness c.args.place 64 (omega arith) (omega arith) narrow c.requires.blank ∙ fills_none test (value query.ranges) c.args.witness 64 (omega arith))

pub loop-value-init : goal.loop-value-init
loop-value-init g t c =
    let query = c.args.self.now.query in
    first_none (filling_with (witness_if (failure_at query.failure (g.D.Drawing.meaning c.args.self.now.drawing.now).acts query)) (value query.ranges) c.in-Some.next (63 - c.in-Some.next) c.args.witness)

pub returns-in-Some-first_from : goal.returns-in-Some-first_from
returns-in-Some-first_from g t c =
    let query = c.args.self.now.query in
    let test = witness_if (failure_at query.failure (g.D.Drawing.meaning c.args.self.now.drawing.now).acts query) in
    let next : IsNext (value query.ranges) c.args.place c.in-Some.next = rw c.in-Some.is at c.next_place.ensures in
    let at = c.first_from.ensures ∙ fills_child test (value query.ranges) c.args.witness c.in-Some.next c.loop-value.value c.with.result (omega (arith, next.inside)) c.with.ensures in
    sym c.in-Some-first_from.is
    ∙ at
    ∙ sym (fills_skip test (value query.ranges) c.args.witness c.args.place c.in-Some.next next.from (omega (arith, next.inside)) next.narrow c.requires.blank ∙ fills_found test (value query.ranges) c.args.witness c.in-Some.next c.loop-value.value (omega (arith, next.inside)) (omega arith) c.loop-value.invariant (ap is_some (sym at ∙ c.in-Some-first_from.is)))

pub loop-value-preserved : goal.loop-value-preserved
loop-value-preserved g t c =
    let query = c.args.self.now.query in
    let next : IsNext (value query.ranges) c.args.place c.in-Some.next = rw c.in-Some.is at c.next_place.ensures in
    fills_passed (witness_if (failure_at query.failure (g.D.Drawing.meaning c.args.self.now.drawing.now).acts query)) (value query.ranges) c.args.witness c.in-Some.next c.loop-value.value c.with.result c.first_from.result (omega (arith, next.inside)) c.with.ensures c.first_from.ensures c.in_default-first_from.is c.loop-value.invariant

pub returns-in_default-first_from : goal.returns-in_default-first_from
returns-in_default-first_from g t c =
    let query = c.args.self.now.query in
    let test = witness_if (failure_at query.failure (g.D.Drawing.meaning c.args.self.now.drawing.now).acts query) in
    let next : IsNext (value query.ranges) c.args.place c.in-Some.next = rw c.in-Some.is at c.next_place.ensures in
    sym
    (fills_skip test (value query.ranges) c.args.witness c.args.place c.in-Some.next next.from (omega (arith, next.inside)) next.narrow c.requires.blank
    ∙ fills_clear test (value query.ranges) c.args.witness c.in-Some.next (c.loop-value.value + 1) (omega (arith, next.inside)) (omega arith) (fills_passed test (value query.ranges) c.args.witness c.in-Some.next c.loop-value.value c.with.result c.first_from.result (omega (arith, next.inside)) c.with.ensures c.first_from.ensures c.in_default-first_from.is c.loop-value.invariant))
