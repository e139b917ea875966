-- An opened gate list as a drawing.
use Rattle.model.specs.Meanings.{OutlineFacts, Meaning}
use Rattle.gates.specs.Facts.{list_outline}
use Rattle.gates.specs.Meanings.{list_meaning}
use Rattle.gates.specs.Netlists.{Netlist}
use Rattle.gates.specs.Rows.{netlist_in}
use Rattle.gates.specs.laws.Kept.{kept}
use Rattle.gates.specs.declared.list.GateList.{GateList}

-- what an opened gate list says
abbrev pub netlist_of : GateList → Netlist
netlist_of g = netlist_in g.contents

abbrev pub outline_of : GateList → OutlineFacts
outline_of g = list_outline (netlist_of g)

abbrev pub meaning_of : GateList → Meaning
meaning_of g = list_meaning (netlist_of g) (kept g.contents g.named)
