use Rattle.std.proofs.Common.{◌≡◌, not, true, length, Some, None, Ok, sym, ap, ◌∙◌, subst, arith}
use Rattle.model.specs.Meanings.{OutlineFacts}
use Rattle.model.specs.States.{is_state}
use Rattle.model.specs.Tests.{lowest}
use Rattle.model.proofs.Bounded.{lowest_none, lowest_more}
use Rattle.units.specs.Evidence.{state_at}
use Rattle.evidence.proofs.Certificates.{is_foreign, is_wrong, lacks_initial, lacks_successor, accepted, missing, round_missing, round_there, total_none, total_more, total_all, all_states_there}
use Rattle.evidence.proofs.Steps.{nothing_state}
use Rattle.evidence.proofs.certificate.judge_certificate.Goals as goal

pub returns-in-Some : goal.returns-in-Some
returns-in-Some g c = λ p h.
    let m = g.D.Drawing.meaning c.args.drawing.now in
    let agree = g.met.D.Drawing.agree c.args.drawing.now in
    is_foreign m p c.args.states.now c.in-Some.index
    (ap (λ (o : OutlineFacts). lowest (λ i. not (is_state o (state_at c.args.states.now i))) (length c.args.states.now)) agree ∙ sym c.lowest_foreign.ensures ∙ c.in-Some.is)

pub returns-in-Some-lowest_failing : goal.returns-in-Some-lowest_failing
returns-in-Some-lowest_failing g c = λ p h.
    let m = g.D.Drawing.meaning c.args.drawing.now in
    let agree = g.met.D.Drawing.agree c.args.drawing.now in
    let one = ap (λ (o : OutlineFacts). lowest (λ i. not (is_state o (state_at c.args.states.now i))) (length c.args.states.now)) agree ∙ sym c.lowest_foreign.ensures ∙ c.in_default.is in
    is_wrong m p c.args.states.now one c.in-Some-lowest_failing.index (sym (c.lowest_failing.ensures p h) ∙ c.in-Some-lowest_failing.is)

pub count-requires : goal.count-requires
count-requires g c =
    let m = g.D.Drawing.meaning c.args.drawing.now in
    record { ready = record { fit = c.requires.fit; from_state = nothing_state m; ordered = c.requires.ordered }; indexed = c.sorted_indices-sorted.ensures.sorted }

pub returns-in_default-count : goal.returns-in_default-count
returns-in_default-count g c = λ p h.
    let m = g.D.Drawing.meaning c.args.drawing.now in
    let agree = g.met.D.Drawing.agree c.args.drawing.now in
    let one = ap (λ (o : OutlineFacts). lowest (λ i. not (is_state o (state_at c.args.states.now i))) (length c.args.states.now)) agree ∙ sym c.lowest_foreign.ensures ∙ c.in_default.is in
    let two = sym (c.lowest_failing.ensures p h) ∙ c.in_default-lowest_failing.is in
    lacks_initial m p c.args.states.now one two (round_missing m c.args.states.now None c.count.result c.count.ensures c.in_default-count.is)

pub loop-index-init : goal.loop-index-init
loop-index-init g c =
    let m = g.D.Drawing.meaning c.args.drawing.now in
    let there = round_there m c.args.states.now None c.count.result c.in-Some-count.count c.count.ensures c.in-Some-count.is in
    record {
      listed = lowest_none (missing m (λ s. true) c.args.states.now);
      counted = total_none m c.args.states.now c.in-Some-count.count there.1 (omega arith);
    }

pub count-requires-in-loop-index : goal.count-requires-in-loop-index
count-requires-in-loop-index g c =
    let m = g.D.Drawing.meaning c.args.drawing.now in
    let agree = g.met.D.Drawing.agree c.args.drawing.now in
    let one = ap (λ (o : OutlineFacts). lowest (λ i. not (is_state o (state_at c.args.states.now i))) (length c.args.states.now)) agree ∙ sym c.lowest_foreign.ensures ∙ c.in_default.is in
    record { ready = record { fit = c.requires.fit; from_state = all_states_there m c.args.states.now one c.loop-index.index c.loop-index-test.true; ordered = c.requires.ordered }; indexed = c.sorted_indices-sorted.ensures.sorted }

pub returns-in_default-count-2 : goal.returns-in_default-count-2
returns-in_default-count-2 g c = λ p h.
    let m = g.D.Drawing.meaning c.args.drawing.now in
    let agree = g.met.D.Drawing.agree c.args.drawing.now in
    let one = ap (λ (o : OutlineFacts). lowest (λ i. not (is_state o (state_at c.args.states.now i))) (length c.args.states.now)) agree ∙ sym c.lowest_foreign.ensures ∙ c.in_default.is in
    let two = sym (c.lowest_failing.ensures p h) ∙ c.in_default-lowest_failing.is in
    let three = round_there m c.args.states.now None c.count.result c.in-Some-count.count c.count.ensures c.in-Some-count.is in
    lacks_successor m p c.args.states.now one two three.0 c.loop-index.index c.loop-index-test.true c.loop-index.invariant.listed
    (round_missing m c.args.states.now (Some (state_at c.args.states.now c.loop-index.index)) c.count-in-loop-index.result c.count-in-loop-index.ensures c.in_default-count-2.is)

pub loop-index-preserved : goal.loop-index-preserved
loop-index-preserved g c =
    let m = g.D.Drawing.meaning c.args.drawing.now in
    let there = round_there m c.args.states.now (Some (state_at c.args.states.now c.loop-index.index)) c.count-in-loop-index.result c.in-Some-count-2.more c.count-in-loop-index.ensures c.in-Some-count-2.is in
    record {
      listed = lowest_more (missing m (λ s. true) c.args.states.now) c.loop-index.index c.loop-index.invariant.listed there.0;
      counted = total_more m c.args.states.now c.loop-index.index c.loop-index.count c.in-Some-count-2.more c.saturating_add-count.result c.loop-index-test.true c.loop-index.invariant.counted there.1 c.saturating_add-count.ensures;
    }

pub returns : goal.returns
returns g c = λ p h.
    let m = g.D.Drawing.meaning c.args.drawing.now in
    let agree = g.met.D.Drawing.agree c.args.drawing.now in
    let one = ap (λ (o : OutlineFacts). lowest (λ i. not (is_state o (state_at c.args.states.now i))) (length c.args.states.now)) agree ∙ sym c.lowest_foreign.ensures ∙ c.in_default.is in
    let two = sym (c.lowest_failing.ensures p h) ∙ c.in_default-lowest_failing.is in
    let three = round_there m c.args.states.now None c.count.result c.in-Some-count.count c.count.ensures c.in-Some-count.is in
    let all : c.loop-index.index ≡ length c.args.states.now = omega arith in
    let counted = total_all m c.args.states.now c.requires.fit c.args.order.now c.requires.ordered (all_states_there m c.args.states.now one) c.loop-index.index c.loop-index.count c.requires.few all c.loop-index.invariant.counted in
    ap Ok counted ∙ accepted m p c.args.states.now one two three.0 (subst (λ n. lowest (missing m p c.args.states.now) n ≡ None) all c.loop-index.invariant.listed)
