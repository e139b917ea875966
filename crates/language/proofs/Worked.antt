-- The sample table and its faults.
use Rattle.std.proofs.Common.{refl}
use Rattle.model.specs.Tests.{every, some, count}
use Rattle.language.specs.Expressions.{read_number, read_truth}
use Rattle.language.specs.Statements.{WorkedFaults, WorkedLevels}
use Rattle.language.specs.Tables.{many, read_variable, read_variables, read_choice, read_atom, read_table}

pub worked_faults : WorkedFaults
unfolding every some read_number read_truth count many read_variable read_variables read_choice read_atom read_table
worked_faults = record { whole = refl; lacks_one = refl; has_one_more = refl; sees_nothing_old = refl }

pub worked_levels : WorkedLevels
unfolding read_number read_truth
worked_levels = record { eight = refl; nine = refl }
