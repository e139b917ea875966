use Rattle.std.proofs.Common.{rules}
use Rattle.expression.specs.Checking.{seen_of}
use Rattle.language.specs.Expressions.{expression_fault, whole_number}
use Rattle.table.proofs.Judged.{expression_passes}
use Rattle.table.proofs.reader.Reader.number.Goals as goal

pub returns : goal.returns
returns c = let whole = whole_number 8 (seen_of c.args.seen.now) in expression_passes whole (c.expression.ensures (λ part. expression_fault (whole part)) (search rules))
