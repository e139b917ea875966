-- What is told of what a name stands for.
use Rattle.std.specs.Prelude.{◌≡◌, ℕ, List, string_bytes, box_value}
use Rattle.model.specs.Meanings.{OutlineFacts, Meaning}
use Rattle.model.specs.declared.Question.{Question}
use Rattle.reports.specs.Told.{TellsOutline, TellsChoice}
use Rattle.script.specs.Bindings.{Binding, meaning_of, unit_of}
use Rattle.script.specs.declared.answer.Answer.{Answer}
use Rattle.script.specs.declared.answer.Answer.TheVariants as answers
use Rattle.script.specs.declared.binding.Bound.TheVariants.{Drawing, SealedUnit}
use Rattle.units.specs.Units.{UnitModel, verdict_of}

-- the name of a drawing that was made, and its fault, with number, layer and place
abbrev pub TellsDrawing : List ℕ → OutlineFacts → Answer → Type 0
TellsDrawing name o (answers.Drawing report) = (string_bytes report.name ≡ name) × (report.fault ≡ o.fault)
TellsDrawing name o other = ⊥

-- the name of a unit, and its verdict
abbrev pub TellsVerdict : List ℕ → UnitModel → Answer → Type 0
TellsVerdict name u (answers.Verdict report) = (string_bytes report.name ≡ name) × (report.verdict ≡ verdict_of u)
TellsVerdict name u other = ⊥

-- of a drawing its fault, of a unit its verdict
abbrev pub TellsBinding : List ℕ → Binding → Answer → Type 0
TellsBinding name (Drawing d) answer = TellsDrawing name (meaning_of d).outline answer
TellsBinding name (SealedUnit u) answer = TellsVerdict name (unit_of (box_value u)) answer

-- the outline of what has this meaning
abbrev pub TellsOutlineOf : Meaning → Answer → Type 0
TellsOutlineOf m (answers.Outline report) = TellsOutline m.outline m.acts report
TellsOutlineOf m other = ⊥

-- what a choice does of what has this meaning
abbrev pub TellsChoiceOf : Meaning → Question (List ℕ) → Answer → Type 0
TellsChoiceOf m q (answers.Choice report) = TellsChoice m.outline m.acts q report
TellsChoiceOf m q other = ⊥
