use Rattle.composition.proofs.Joining.{joined_projects}
use Rattle.composition.proofs.joins_project.Goals as goal

pub returns : goal.returns
returns c = joined_projects
