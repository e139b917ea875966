use Rattle.std.proofs.Common.{rules, tests}
use Rattle.model.specs.Sets.{has}
use Rattle.model.proofs.Found.{found}
use Rattle.model.proofs.names.MembersIterator.next.Goals as goal

pub returns-clause-steps : goal.returns-clause-steps
returns-clause-steps c = found (has c.args.self.now.set.now) _ _ (λ x b q k. search (rules, tests)) c.args.self.now.left c.find.new.self c.find.result c.find.ensures.ran

pub returns-clause-goes : goal.returns-clause-goes
returns-clause-goes c = let steps = returns-clause-steps c in search (rules, tests)
