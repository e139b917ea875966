use Rattle.std.proofs.Common.{◌≡◌, ◌<◌, sym, ◌∙◌, ap, rules, Ok, Err, length, ◌==◌}
use Rattle.std.specs.List.{before_first, after_first, position_or_len}
use Rattle.script.specs.States.{state_in_words, states_in_words}
use Rattle.script.proofs.Spelt.{first_state, first_wrong, last_state, last_wrong}
use Rattle.script.proofs.states.states_in_words.Goals as goal

pub returns-in_err-state_in_words : goal.returns-in_err-state_in_words
returns-in_err-state_in_words c =
    let rest = c.loop-state.rest.now in
    let e = c.in_err-state_in_words.field-0.0 in
    let cut : position_or_len (λ c. c == 59) rest < length rest = search rules in
    let named : c.in-Some.state.now ≡ before_first (λ c. c == 59) rest = search rules in
    let wrong : state_in_words (before_first (λ c. c == 59) rest) ≡ Err e =
    sym (ap state_in_words named) ∙ sym c.state_in_words.ensures ∙ c.in_err-state_in_words.was in
    let is : states_in_words c.args.text.now ≡ Err e = c.loop-state.invariant.1 ∙ first_wrong _ rest cut e wrong in
    search (rules, is)

pub loop-state-preserved : goal.loop-state-preserved
loop-state-preserved c =
    let rest = c.loop-state.rest.now in
    let state = c.in_ok-state_in_words.field-0 in
    let cut : position_or_len (λ c. c == 59) rest < length rest = search rules in
    let named : c.in-Some.state.now ≡ before_first (λ c. c == 59) rest = search rules in
    let part : state_in_words (before_first (λ c. c == 59) rest) ≡ Ok state =
    sym (ap state_in_words named) ∙ sym c.state_in_words.ensures ∙ c.in_ok-state_in_words.was in
    let later : c.in-Some.later.now ≡ after_first (λ c. c == 59) rest = search rules in
    (search rules, c.loop-state.invariant.1 ∙ rw (later, c.in_ok-extend_from_slice.ensures.items) (first_state _ rest cut state part))

pub returns-in_err-state_in_words-2 : goal.returns-in_err-state_in_words-2
returns-in_err-state_in_words-2 c =
    let rest = c.loop-state.rest.now in
    let e = c.in_err-state_in_words-2.field-0.0 in
    let whole : position_or_len (λ c. c == 59) rest ≡ length rest = search rules in
    let wrong : state_in_words rest ≡ Err e = sym c.state_in_words-2.ensures ∙ c.in_err-state_in_words-2.was in
    let is : states_in_words c.args.text.now ≡ Err e = c.loop-state.invariant.1 ∙ last_wrong _ rest whole e wrong in
    search (rules, is)

pub returns : goal.returns
returns c =
    let rest = c.loop-state.rest.now in
    let state = c.in_ok-state_in_words-2.field-0 in
    let whole : position_or_len (λ c. c == 59) rest ≡ length rest = search rules in
    let part : state_in_words rest ≡ Ok state = sym c.state_in_words-2.ensures ∙ c.in_ok-state_in_words-2.was in
    rw c.in_ok-extend_from_slice-2.ensures.items (c.loop-state.invariant.1 ∙ last_state _ rest whole state part)
