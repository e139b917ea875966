-- The worked cases, by computing the definitions.
use Rattle.std.proofs.Common.{refl}
use Rattle.model.specs.Tests.{every, some, lowest, count}
use Rattle.theory.specs.Enumerations.{below, pairs, ranges}
use Rattle.units.specs.Counting.{product}
use Rattle.units.specs.Sealing.{awaits_through}
use Rattle.gates.specs.Netlists.{gates_upto}
use Rattle.language.specs.Expressions.{read_number, read_truth}
use Rattle.language.specs.Tables.{many, read_variable, read_variables, read_choice, read_atom, read_table}
use Rattle.cases.specs.Statements.{WorkedCasesComeOut, BrokenOnAPartHeldOnTheJoin}

pub computed : WorkedCasesComeOut × BrokenOnAPartHeldOnTheJoin
unfolding every some lowest below pairs ranges product count awaits_through gates_upto read_number read_truth many read_variable read_variables read_choice read_atom read_table
computed = (refl, record { broken = refl; held = refl })
