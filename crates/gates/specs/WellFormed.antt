-- Gate lists with at most 16 atoms, names in these, and no atoms beside a fault.
use Rattle.std.specs.Prelude.{◌≡◌, ◌≤◌, true, length, is_some}
use Rattle.gates.specs.Gates.{all_small}
use Rattle.gates.specs.Netlists.{Netlist}

pub record WellFormed (l : Netlist) : Type 0 where
  pub few : length l.parts ≤ 16
  pub named : all_small l.parts ≡ true
  pub empty_if_faulty : is_some l.fault_place ≡ true → length l.parts ≡ 0
