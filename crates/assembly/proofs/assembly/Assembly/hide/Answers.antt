use Rattle.std.proofs.Common.{length}
use Rattle.model.proofs.Meanings.{meanings_equal}
use Rattle.composition.specs.Meanings.{hidden}
use Rattle.assembly.specs.Meanings.{form_outline, form_choices, form_meaning, leaf_meanings}
use Rattle.assembly.specs.Plain.{form_facts}
use Rattle.assembly.proofs.Composed.{hidden_made, outline_kept, choices_kept}
use Rattle.assembly.proofs.assembly.Assembly.hide.Goals as goal

pub invariant_of-result : goal.invariant_of-result
invariant_of-result g c =
    let f = form_facts c.args.self.form in
    let leaf = leaf_meanings g.L.Drawing.meaning c.args.self.leaves.items in
    let made = hidden_made (form_facts c.hidden-form.result) f leaf (length c.args.self.leaves.items) c.args.self.outline_laws c.args.self.choice_laws c.args.self.rooted c.args.name c.hidden-form.ensures in
    let m = hidden (form_meaning f leaf c.args.self.outline_laws c.args.self.choice_laws) c.args.name in
    record {
      outline_laws = outline_kept m (form_outline (form_facts c.hidden-form.result)) made.outline;
      choice_laws = choices_kept m (form_outline (form_facts c.hidden-form.result)) (form_choices leaf (form_facts c.hidden-form.result)) made.outline made.choices;
      rooted = made.rooted;
    }

pub returns : goal.returns
returns g c =
    let made = hidden_made (form_facts c.hidden-form.result) (form_facts c.args.self.form) (leaf_meanings g.L.Drawing.meaning c.args.self.leaves.items) (length c.args.self.leaves.items) c.args.self.outline_laws c.args.self.choice_laws c.args.self.rooted c.args.name c.hidden-form.ensures in
    meanings_equal _ _ made.outline made.choices
