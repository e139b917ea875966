use Rattle.reactive.proofs.Runs.{trajectories_are}
use Rattle.reactive.proofs.trajectories_are_the_published_ones.Goals as goal

pub returns : goal.returns
returns c = trajectories_are
