use Rattle.std.proofs.Common.{◌≡◌, ℕ, ◌<◌, get_or, None, rules, tests}
use Rattle.script.specs.States.{value_given}
use Rattle.script.proofs.Assign.{values_are}
use Rattle.script.proofs.states.state_in_words.Goals as goal

pub returns : goal.returns
returns c =
    let given = c.in_ok-given.given in
    let maps = c.map.ensures.items in
    let each : (i : ℕ) → i < 32 → get_or c.map.result i 0 ≡ value_given given i = λ i few. let call = maps.at i None 0 few in search (rules, tests) in
    let values = values_are given c.map.result maps.long each in
    rw (← values) (search rules)
