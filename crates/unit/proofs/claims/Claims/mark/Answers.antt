use Rattle.std.proofs.Common.{refl, sym}
use Rattle.unit.proofs.Marking.{marked_beyond, table_marked, written_same}
use Rattle.unit.proofs.claims.Claims.mark.Goals as goal

pub returns-in-Some-clause-marked : goal.returns-in-Some-clause-marked
returns-in-Some-clause-marked c = table_marked c.args.self.now.table.items c.args.number c.in-Some.claim.now _ c.args.mark c.in-Some.ensures.lent refl refl

pub returns-in-Some-clause-written : goal.returns-in-Some-clause-written
returns-in-Some-clause-written c = written_same c.args.self.now.table.items c.args.number c.in-Some.claim.now _ c.in-Some.ensures.lent refl

pub returns-in_default-clause-marked : goal.returns-in_default-clause-marked
returns-in_default-clause-marked c = sym (marked_beyond c.args.self.now.table.items c.args.number c.args.mark c.in_default.ensures.lent)
