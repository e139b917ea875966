use Rattle.std.proofs.Common.{◌≡◌, ◌++◌, Ok, vec_items, length}
use denote.Text.{Utf8}
use denote.Shadow.{shadow}
use Rattle.script.specs.States.{all_states, parts, then}
use Rattle.script.proofs.states.states_in_words.Given as goal

-- what is read and what is left are the whole
abbrev pub invariant-loop-state : goal.invariant-loop-state
invariant-loop-state l = shadow (Utf8 l.rest) × (all_states (parts 59 l.fn.text) ≡ then (all_states (parts 59 l.rest)) (λ states. Ok (vec_items l.bytes ++ states)))

abbrev pub decreases-loop-state : goal.decreases-loop-state
decreases-loop-state l = length l.rest
