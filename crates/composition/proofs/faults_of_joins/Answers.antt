use Rattle.composition.proofs.Faults.{left_fault, right_fault, clash_fault, difference_fault, crowd_fault}
use Rattle.composition.proofs.faults_of_joins.Goals as goal

pub returns : goal.returns
returns c =
    record {
      left = left_fault;
      right = right_fault;
      clash = clash_fault;
      difference = difference_fault;
      crowd = crowd_fault;
    }
