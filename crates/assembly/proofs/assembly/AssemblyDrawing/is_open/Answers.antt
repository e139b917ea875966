use Rattle.std.proofs.Common.{false, ap, ◌∙◌}
use Rattle.model.specs.States.{value}
use Rattle.assembly.specs.Facts.{seen_by}
use Rattle.assembly.specs.Meanings.{of_origin}
use Rattle.assembly.proofs.assembly.AssemblyDrawing.is_open.Goals as goal

pub returns-clause-answer : goal.returns-clause-answer
returns-clause-answer g c =
    let asked = rw (c.number.ensures, c.state_in_leaf-old.ensures, c.state_in_leaf-new.ensures) at c.is_open.ensures.answer in
    asked ∙ ap (of_origin (λ o. o.meaning.acts.opens c.args.round o.atom.number c.args.choice (seen_by o.atom (value c.args.old)) (seen_by o.atom (value c.args.new))) false) c.in-Some.ensures
