use Rattle.std.proofs.Common.{◌≡◌, sym, ◌∙◌, rules}
use Rattle.script.specs.States.{assign, give}
use Rattle.script.proofs.Assign.{assigned, given_twice, given_once}
use Rattle.script.proofs.states.assign.Goals as goal

pub returns-then-is_some : goal.returns-then-is_some
returns-then-is_some c =
    let is : assign c.args.given c.args.text.now ≡ give c.args.given c.in_ok-name.name c.in_ok-value.value = search (rules, assigned) in
    sym (is ∙ given_twice c.args.given _ _ (search rules))

pub returns : goal.returns
returns c =
    let is : assign c.args.given c.args.text.now ≡ give c.args.given c.in_ok-name.name c.in_ok-value.value = search (rules, assigned) in
    rw c.from-place.ensures (sym (is ∙ given_once c.args.given _ _ (search rules)))
