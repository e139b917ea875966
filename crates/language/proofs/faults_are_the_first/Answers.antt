use Rattle.language.proofs.TableFronts.{faults_are_the_first}
use Rattle.language.proofs.faults_are_the_first.Goals as goal

pub returns : goal.returns
returns c = faults_are_the_first
