use Rattle.std.proofs.Common.{rules}
use Rattle.std.proofs.iter.runs.Sources.{ranges}
use Rattle.reports.proofs.facts.atoms.Goals as goal

pub returns : goal.returns
returns g c = search (rules, ranges)
