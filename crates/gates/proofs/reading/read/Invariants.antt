use Rattle.std.proofs.Common.{◌≡◌, ◌*◌, ◌≤◌, length, drop, None}
use Rattle.gates.specs.Netlists.{breaks, parts_upto}
use Rattle.model.specs.Rows.{row_items}
use Rattle.model.specs.Tests.{lowest}
use Rattle.gates.proofs.reading.read.Given as goal

abbrev pub invariant-loop-rest : goal.invariant-loop-rest
invariant-loop-rest l =
    record {
      inside : 5 * l.index ≤ length l.bytes;
      left : l.rest ≡ drop (5 * l.index) l.bytes;
      read : row_items l.parts ≡ parts_upto l.bytes l.index;
      fine : lowest (breaks l.bytes) l.index ≡ None;
      few : l.index ≤ length (row_items l.parts);
    }

abbrev pub decreases-loop-rest : goal.decreases-loop-rest
decreases-loop-rest l = length l.rest
