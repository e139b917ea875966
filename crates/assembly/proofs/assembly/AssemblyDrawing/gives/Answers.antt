use Rattle.std.proofs.Common.{pos, ap, ◌∙◌, rules}
use Rattle.model.specs.States.{value}
use Rattle.assembly.specs.Facts.{seen_by}
use Rattle.assembly.specs.Meanings.{of_origin}
use Rattle.assembly.proofs.assembly.AssemblyDrawing.gives.Goals as goal

pub returns-clause-answer : goal.returns-clause-answer
returns-clause-answer g c =
    let asked = rw (c.number.ensures, c.in_leaf-name.ensures, c.state_in_leaf-old.ensures, c.state_in_leaf-new.ensures) at c.gives.ensures.answer in
    let given = asked ∙ ap (of_origin (λ o. o.meaning.acts.gives c.args.round o.atom.number c.args.choice (o.atom.in_leaf c.args.name) (seen_by o.atom (value c.args.old)) (seen_by o.atom (value c.args.new))) (pos 0)) c.in-Some.ensures in
    search rules
