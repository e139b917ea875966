-- What is read into a row is well formed.
use Rattle.std.specs.Prelude.{◌≡◌, ◌≤◌, ℕ, true, length, Result, Ok, Err, refl}
use Rattle.std.proofs.Common.{arith}
use Rattle.std.proofs.lemmas.Bool.{both_ways}
use Rattle.std.proofs.lemmas.List.{length-take-le}
use Rattle.model.specs.Rows.{row_items}
use Rattle.model.specs.declared.row.Row.{Row}
use Rattle.gates.specs.Gates.{all_small}
use Rattle.gates.specs.Rows.{netlist_in}
use Rattle.gates.specs.WellFormed.{WellFormed}
use Rattle.gates.specs.declared.gate.Part.{Part}

pub listed_few : (row : Row Part 16) → length (row_items row) ≤ 16
listed_few row = omega (arith, length-take-le row.count row.items (omega (arith, row.few, row.full)), row.few, row.full)

pub kept : (r : Result (Row Part 16) ℕ) → all_small (netlist_in r).parts ≡ true → WellFormed (netlist_in r)
kept (Ok row) names = record {
  few = listed_few row;
  named = names;
  empty_if_faulty = λ h. absurd (both_ways _ refl h);
}
kept (Err place) names = record { few = omega arith; named = refl; empty_if_faulty = λ h. refl }
