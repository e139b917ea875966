use Rattle.theory.proofs.Runs.{map_trajectory, map_ends, map_reachable}
use Rattle.theory.proofs.simulations_keep_runs.Goals as goal

pub returns : goal.returns
returns c =
    record {
      trajectories = λ initial initial' step step' f along run. map_trajectory along run;
      ends = map_ends;
      reachable = λ initial initial' step step' f along. map_reachable along;
    }
