use Rattle.std.proofs.Common.{◌≡◌, ℕ, List, sym, refl, ap, subst}
use Rattle.gates.specs.Behaviour.{GatesWork}
use Rattle.gates.specs.GateLists.{meaning_of as gates_meaning}
use Rattle.gates.specs.Netlists.{netlist_from}
use Rattle.gates.specs.Facts.{list_outline, list_choices}
use Rattle.gates.specs.GateLists.{netlist_of}
use Rattle.gates.specs.declared.list.GateList.{GateList}
use Rattle.any_drawing.proofs.tree.AnyDrawing.gates.Goals as goal

pub returns : goal.returns
returns c =
    let bytes : List ℕ = c.args.bytes.now in
    let same = c.in_ok-list.ensures.ok in
    let list : GateList = c.in_ok-list.list.value in
    let read : netlist_of list ≡ netlist_from bytes = subst (λ l. netlist_of l ≡ netlist_from bytes) (sym same) c.open.ensures.says in
    record {
      means = record {
        outline = ap list_outline read;
        acts = ap list_choices read;
        works = (subst (λ l. GatesWork bytes (gates_meaning l)) (sym same) c.open.ensures.works);
        list = list;
        kept = refl;
        read = read;
      };
    }
