use Rattle.std.proofs.Common.{rules}
use Rattle.script.proofs.Assign.{assign_one, assign_first}
use Rattle.script.proofs.states.+assign_all.Goals as goal

pub returns-in_err-assign-in-Some : goal.returns-in_err-assign-in-Some
returns-in_err-assign-in-Some c = search (rules, assign_first)

pub returns-in-None : goal.returns-in-None
returns-in-None c = search (rules, assign_one)

pub returns-in_ok-assign-in-Some : goal.returns-in_ok-assign-in-Some
returns-in_ok-assign-in-Some c = search (rules, assign_first)
