-- What bytes describe, as a leaf of a pile.
use Rattle.std.specs.Prelude.{◌≡◌, ℕ, List}
use Rattle.gates.specs.Behaviour.{GatesWork}
use Rattle.gates.specs.Netlists.{netlist_from}
use Rattle.gates.specs.GateLists.{meaning_of as gates_meaning}
use Rattle.gates.specs.Facts.{list_outline, list_choices}
use Rattle.gates.specs.GateLists.{netlist_of}
use Rattle.gates.specs.declared.list.GateList.{GateList}
use Rattle.language.specs.Tables.{table_of, table_outline, table_acts}
use Rattle.model.specs.Meanings.{Meaning}
use Rattle.table.specs.Table.{meaning_of}
use Rattle.table.specs.Promises.{OpensAsWritten}
use Rattle.table.specs.declared.table.Table.{Table}

-- m means the gate list that the bytes describe, kept opened
pub record MeansGates (bytes : List ℕ) (m : Meaning) : Type 0 where
  pub outline : m.outline ≡ list_outline (netlist_from bytes)
  pub acts : m.acts ≡ list_choices (netlist_from bytes)
  pub works : GatesWork bytes m
  pub list : GateList
  pub kept : m ≡ gates_meaning list
  pub read : netlist_of list ≡ netlist_from bytes

-- m means the table that the bytes describe, kept opened
pub record MeansTable (bytes : List ℕ) (m : Meaning) : Type 0 where
  pub outline : m.outline ≡ table_outline bytes
  pub acts : m.acts ≡ table_acts (table_of bytes)
  pub table : Table
  pub kept : m ≡ meaning_of table
  pub promised : OpensAsWritten bytes table
