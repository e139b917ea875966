use mathlib.Core.List.{List-discrete}
use native.Mathlib.Decide.{ℕ_discrete}
use Rattle.theory.proofs.Evidence.{evidence_exists}
use Rattle.theory.proofs.evidence_always_exists.Goals as goal

pub returns : goal.returns
returns c = λ initial good step all. evidence_exists (List-discrete ℕ_discrete)
