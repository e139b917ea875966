use Rattle.std.proofs.Common.{◌≡◌, ◌+◌, length, min, take, None}
use Rattle.model.specs.States.{nothing}
use Rattle.model.specs.Tests.{lowest}
use Rattle.model.specs.declared.Round.TheVariants.{Initial, Update}
use Rattle.units.specs.Counting.{total}
use Rattle.units.specs.Evidence.{state_at, misses_some, outcomes}
use Rattle.evidence.proofs.certificate.judge_certificate.Given as goal

-- no successor of a state so far is missing, and all are counted
abbrev pub invariant-loop-index : goal.invariant-loop-index
invariant-loop-index g l = record {
  listed : lowest (λ i. misses_some (g.D.Drawing.meaning l.drawing) l.states Update (state_at l.states i)) l.index ≡ None;
  counted : l.count ≡ min (length (outcomes (g.D.Drawing.meaning l.drawing) Initial nothing) + total (λ s. length (outcomes (g.D.Drawing.meaning l.drawing) Update s)) (take l.index l.states)) 4294967295;
}
