use Rattle.std.proofs.Common.{◌≡◌, ℕ, ◌<◌, ◌≤◌, length}
use Rattle.model.specs.States.{value}
use Rattle.evidence.proofs.Steps.{made_at}
use Rattle.evidence.proofs.round.RoundSearch.with_choice.Given as goal

-- the names so far have their new values, the others what they had
abbrev pub invariant-loop-name : goal.invariant-loop-name
invariant-loop-name g l = record {
  long : length l.made ≡ 32;
  done : (n : ℕ) → n < l.name → value l.made n ≡ made_at (g.D.Drawing.meaning l.self.drawing.now) l.self.before l.new l.atom l.choice n;
  left : (n : ℕ) → l.name ≤ n → value l.made n ≡ value l.new n;
}
