use Rattle.std.proofs.Common.{◌+◌, ◌-◌, not, length, sym, ap, ◌∙◌, arith}
use Rattle.model.specs.Meanings.{OutlineFacts}
use Rattle.model.specs.States.{is_state, yields}
use Rattle.model.specs.Tests.{lowest}
use Rattle.model.specs.declared.Round.TheVariants.{Update}
use Rattle.model.proofs.Lowest.{lowest_found}
use Rattle.units.specs.Evidence.{state_at}
use Rattle.evidence.proofs.Runs.{is_foreign, not_initial, not_followed, true_in_last, accepted}
use Rattle.evidence.proofs.run.judge_run.Goals as goal

pub returns-in-Some : goal.returns-in-Some
returns-in-Some g c = λ p h.
    let m = g.D.Drawing.meaning c.args.drawing.now in
    let agree = g.met.D.Drawing.agree c.args.drawing.now in
    is_foreign m p c.args.states.now c.in-Some.index
    (ap (λ (o : OutlineFacts). lowest (λ i. not (is_state o (state_at c.args.states.now i))) (length c.args.states.now)) agree ∙ sym c.lowest_foreign.ensures ∙ c.in-Some.is)

pub returns-then-not-yields : goal.returns-then-not-yields
returns-then-not-yields g c = λ p h.
    let m = g.D.Drawing.meaning c.args.drawing.now in
    let agree = g.met.D.Drawing.agree c.args.drawing.now in
    let one = ap (λ (o : OutlineFacts). lowest (λ i. not (is_state o (state_at c.args.states.now i))) (length c.args.states.now)) agree ∙ sym c.lowest_foreign.ensures ∙ c.in_default.is in
    not_initial m p c.args.states.now one (sym c.yields.ensures ∙ c.if-not-yields.true)

pub overflow_add-result : goal.overflow_add-result
overflow_add-result g c =
    let m = g.D.Drawing.meaning c.args.drawing.now in
    let ss = c.args.states.now in
    let found = lowest_found (λ i. not (yields m Update (state_at ss i) (state_at ss (i + 1)))) (length ss - 1) c.in-Some-lowest_unfollowed.index (sym c.lowest_unfollowed.ensures ∙ c.in-Some-lowest_unfollowed.is) in
    omega (arith, found.inside)

pub returns-in-Some-lowest_unfollowed : goal.returns-in-Some-lowest_unfollowed
returns-in-Some-lowest_unfollowed g c = λ p h.
    let m = g.D.Drawing.meaning c.args.drawing.now in
    let agree = g.met.D.Drawing.agree c.args.drawing.now in
    let one = ap (λ (o : OutlineFacts). lowest (λ i. not (is_state o (state_at c.args.states.now i))) (length c.args.states.now)) agree ∙ sym c.lowest_foreign.ensures ∙ c.in_default.is in
    let two = sym c.yields.ensures ∙ c.if-not-yields.false in
    not_followed m p c.args.states.now one two c.in-Some-lowest_unfollowed.index (sym c.lowest_unfollowed.ensures ∙ c.in-Some-lowest_unfollowed.is)

pub returns-then-holds : goal.returns-then-holds
returns-then-holds g c = λ p h.
    let m = g.D.Drawing.meaning c.args.drawing.now in
    let agree = g.met.D.Drawing.agree c.args.drawing.now in
    let one = ap (λ (o : OutlineFacts). lowest (λ i. not (is_state o (state_at c.args.states.now i))) (length c.args.states.now)) agree ∙ sym c.lowest_foreign.ensures ∙ c.in_default.is in
    let two = sym c.yields.ensures ∙ c.if-not-yields.false in
    let three = sym c.lowest_unfollowed.ensures ∙ c.in_default-lowest_unfollowed.is in
    true_in_last m p c.args.states.now one two three (sym (h (length c.args.states.now - 1) c.holds.result (omega arith) c.holds.ensures) ∙ c.if-holds.true)

pub returns : goal.returns
returns g c = λ p h.
    let m = g.D.Drawing.meaning c.args.drawing.now in
    let agree = g.met.D.Drawing.agree c.args.drawing.now in
    let one = ap (λ (o : OutlineFacts). lowest (λ i. not (is_state o (state_at c.args.states.now i))) (length c.args.states.now)) agree ∙ sym c.lowest_foreign.ensures ∙ c.in_default.is in
    let two = sym c.yields.ensures ∙ c.if-not-yields.false in
    let three = sym c.lowest_unfollowed.ensures ∙ c.in_default-lowest_unfollowed.is in
    accepted m p c.args.states.now one two three (sym (h (length c.args.states.now - 1) c.holds.result (omega arith) c.holds.ensures) ∙ c.if-holds.false)
