use Rattle.std.proofs.Common.{ap}
use Rattle.model.proofs.Meanings.{meanings_equal}
use Rattle.language.specs.Tables.{fault_of, syntax_of, syntax_outline, table_acts}
use Rattle.table.proofs.Held.{contents_opening, contents_answer}
use Rattle.table.proofs.Promised.{opens_as_written}
use Rattle.table.proofs.table.Table.open.Goals as goal

pub invariant_of-result-clause-read : goal.invariant_of-result-clause-read
invariant_of-result-clause-read c = ∣ contents_answer c.args.bytes.now c.copy_of.result c.copy_of.ensures c.read.result c.read.ensures ∣₁

pub returns-clause-means : goal.returns-clause-means
returns-clause-means c =
    let same = contents_opening c.args.bytes.now c.copy_of.result c.copy_of.ensures in
    meanings_equal _ _ (ap (λ o. syntax_outline (fault_of o) (syntax_of o)) same) (ap (λ o. table_acts (syntax_of o)) same)

pub returns-clause-opening : goal.returns-clause-opening
returns-clause-opening c = contents_opening c.args.bytes.now c.copy_of.result c.copy_of.ensures

pub returns-clause-promised : goal.returns-clause-promised
returns-clause-promised c = opens_as_written c.args.bytes.now _ (contents_opening c.args.bytes.now c.copy_of.result c.copy_of.ensures)
