use Rattle.gates.proofs.Works.{gates_work, same_meaning, named_from}
use Rattle.gates.proofs.list.GateList.open.Goals as goal

pub invariant_of-result : goal.invariant_of-result
invariant_of-result c = record { named = named_from _ c.args.bytes.now c.read.ensures }

pub returns-clause-means : goal.returns-clause-means
returns-clause-means c = same_meaning _ _ _ _ c.read.ensures

pub returns-clause-works : goal.returns-clause-works
returns-clause-works c = gates_work c.args.bytes.now _ _ c.read.ensures
