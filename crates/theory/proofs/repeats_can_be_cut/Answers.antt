use mathlib.Core.List.{List-discrete}
use native.Mathlib.Decide.{ℕ_discrete}
use Rattle.theory.proofs.Runs.{simple_run}
use Rattle.theory.proofs.repeats_can_be_cut.Goals as goal

pub returns : goal.returns
returns c = λ initial step t. simple_run (List-discrete ℕ_discrete)
