-- What a gate list means: what it tells, which keeps the laws of drawings.
use Rattle.std.specs.Prelude.{ℕ, List}
use Rattle.model.specs.Meanings.{Meaning}
use Rattle.gates.specs.Facts.{list_outline, list_choices}
use Rattle.gates.specs.Netlists.{Netlist, netlist_from}
use Rattle.gates.specs.WellFormed.{WellFormed}
use Rattle.gates.specs.laws.Choices.{choice_laws}
use Rattle.gates.specs.laws.Outlines.{outline_laws}
use Rattle.gates.specs.laws.WellFormed.{well_formed}

abbrev pub list_meaning : (l : Netlist) → WellFormed l → Meaning
list_meaning l w = record {
  outline = list_outline l;
  acts = list_choices l;
  outline_laws = outline_laws l w;
  choice_laws = choice_laws l w;
}

-- what the gate list that these bytes hold means
abbrev pub gates_meaning : List ℕ → Meaning
gates_meaning bs = list_meaning (netlist_from bs) (well_formed bs)
