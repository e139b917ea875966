-- What a tree of layers is seen as: its layers without what they keep, and what they mean, each layer as if it were piled by
-- itself.
use Rattle.std.specs.Prelude.{ℕ, ◌+◌, max}
use Rattle.composition.specs.Meanings.{renamed, hidden, joined}
use Rattle.gates.specs.GateLists.{meaning_of as gates_meaning}
use Rattle.gates.specs.declared.list.GateList.{GateList}
use Rattle.model.specs.Meanings.{OutlineFacts, Meaning}
use Rattle.table.specs.Table.{meaning_of as table_meaning}
use Rattle.table.specs.declared.table.Table.{Table}

pub data Pile : Type 0 where
  OfTable : Table → Pile
  OfGates : GateList → Pile
  Joined : Pile → Pile → Pile
  Renamed : Pile → ℕ → ℕ → Pile
  Hidden : Pile → ℕ → Pile

abbrev pub pile_meaning : Pile → Meaning
pile_meaning (OfTable table) = table_meaning table
pile_meaning (OfGates list) = gates_meaning list
pile_meaning (Joined left right) = joined (pile_meaning left) (pile_meaning right)
pile_meaning (Renamed below old new) = renamed (pile_meaning below) old new
pile_meaning (Hidden below name) = hidden (pile_meaning below) name

abbrev pub pile_outline : Pile → OutlineFacts
pile_outline p = (pile_meaning p).outline

-- how many layers lie below the top one, on the longest way down
abbrev pub height : Pile → ℕ
height (OfTable table) = 0
height (OfGates list) = 0
height (Joined left right) = max (height left) (height right) + 1
height (Renamed below old new) = height below + 1
height (Hidden below name) = height below + 1
