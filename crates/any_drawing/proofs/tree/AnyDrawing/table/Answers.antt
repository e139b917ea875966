use Rattle.std.proofs.Common.{◌≡◌, ℕ, List, sym, refl, ap, subst}
use Rattle.language.specs.Tables.{opening_of, fault_of, syntax_of, syntax_outline, table_acts}
use Rattle.table.specs.Table.{contents}
use Rattle.table.specs.Promises.{OpensAsWritten}
use Rattle.table.specs.declared.table.Table.{Table}
use Rattle.any_drawing.proofs.tree.AnyDrawing.table.Goals as goal

pub returns : goal.returns
returns c =
    let bytes : List ℕ = c.args.bytes.now in
    let same = c.in_ok-table.ensures.ok in
    let table : Table = c.in_ok-table.table.value in
    let opened : opening_of (contents table) ≡ opening_of bytes = subst (λ t. opening_of (contents t) ≡ opening_of bytes) (sym same) c.open.ensures.opening in
    record {
      means = record {
        outline = ap (λ o. syntax_outline (fault_of o) (syntax_of o)) opened;
        acts = ap (λ o. table_acts (syntax_of o)) opened;
        table = table;
        kept = refl;
        promised = subst (OpensAsWritten bytes) (sym same) c.open.ensures.promised;
      };
    }
