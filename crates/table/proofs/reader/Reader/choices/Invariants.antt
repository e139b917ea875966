use Rattle.std.proofs.Common.{◌≡◌}
use Rattle.expression.specs.Checking.{seen_of}
use Rattle.language.specs.Tables.{read_choice}
use Rattle.table.specs.Layouts.{AreChoicesAt}
use Rattle.table.specs.Places.{choices_end}
use Rattle.table.proofs.Rows.{SoFar}
use Rattle.table.proofs.reader.Reader.choices.Given as goal

abbrev pub invariant-loop : goal.invariant-loop
invariant-loop l =
    SoFar (read_choice (seen_of l.seen) l.controlled) l.fn.self l.count l.counter l.self
    (λ made. AreChoicesAt l.fn.self.bytes.now l.fn.self.place (seen_of l.seen) l.controlled made l.places × (l.self.place ≡ choices_end l.fn.self.place made))
