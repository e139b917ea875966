-- A pile as stored data, by which a proof tells piles apart.
use base.Stored.{Gv, gnil, gnum, gcons, num, Coded}
use Rattle.std.specs.Prelude.{◌≡◌}
use Rattle.std.proofs.Common.{ap, arith}
use Rattle.any_drawing.specs.Piles.{Pile, OfTable, OfGates, Joined, Renamed, Hidden}
use Rattle.gates.specs.contracts.list.GateList as gates
use Rattle.table.specs.contracts.table.Table as tables

abbrev first : Gv → Gv
first gnil = gnil
first (gnum n) = gnil
first (gcons a b) = a

abbrev rest : Gv → Gv
rest gnil = gnil
rest (gnum n) = gnil
rest (gcons a b) = b

abbrev pub stored : Pile → Gv
stored (OfTable table) = gcons (gnum 0) (tables.the_row.coded.code table)
stored (OfGates list) = gcons (gnum 1) (gates.the_row.coded.code list)
stored (Joined left right) = gcons (gnum 2) (gcons (stored left) (stored right))
stored (Renamed below old new) = gcons (gnum 3) (gcons (stored below) (gcons (gnum old) (gnum new)))
stored (Hidden below name) = gcons (gnum 4) (gcons (stored below) (gnum name))

pub stored_once : (p q : Pile) → stored p ≡ stored q → p ≡ q
stored_once (OfTable t) (OfTable u) e = ap OfTable (tables.the_row.coded.inj t u (ap rest e))
stored_once (OfGates l) (OfGates m) e = ap OfGates (gates.the_row.coded.inj l m (ap rest e))
stored_once (Joined l r) (Joined m s) e =
    λ i. Joined (stored_once l m (ap (λ g. first (rest g)) e) i) (stored_once r s (ap (λ g. rest (rest g)) e) i)
stored_once (Renamed p a b) (Renamed q c d) e =
    λ i. Renamed (stored_once p q (ap (λ g. first (rest g)) e) i) (ap (λ g. num (first (rest (rest g)))) e i) (ap (λ g. num (rest (rest (rest g)))) e i)
stored_once (Hidden p n) (Hidden q m) e =
    λ i. Hidden (stored_once p q (ap (λ g. first (rest g)) e) i) (ap (λ g. num (rest (rest g))) e i)
stored_once p q e = absurd (omega (arith, ap (λ g. num (first g)) e))

abbrev pub pile_code : Coded Pile
pile_code = record { code = stored; inj = stored_once }
