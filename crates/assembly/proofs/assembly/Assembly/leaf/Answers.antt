use Rattle.std.proofs.Common.{◌≡◌, [], ◌∷◌, rules}
use Rattle.model.proofs.Meanings.{meanings_equal}
use Rattle.assembly.specs.Meanings.{form_outline, form_choices, leaf_meanings}
use Rattle.assembly.specs.Plain.{form_facts}
use Rattle.assembly.proofs.Composed.{leaf_made, outline_kept, choices_kept}
use Rattle.assembly.proofs.assembly.Assembly.leaf.Goals as goal

pub invariant_of-result : goal.invariant_of-result
invariant_of-result g c =
    let f = form_facts c.of_leaf-form.result in
    let leaf = leaf_meanings g.L.Drawing.meaning c.push.new.self.items in
    let one : c.push.new.self.items ≡ c.args.drawing ∷ [] = search rules in
    let made = leaf_made g.L.Drawing.meaning c.args.drawing f c.push.new.self.items one c.of_leaf-form.ensures in
    let m = g.L.Drawing.meaning c.args.drawing in
    record {
      outline_laws = outline_kept m (form_outline f) made.outline;
      choice_laws = choices_kept m (form_outline f) (form_choices leaf f) made.outline made.choices;
      rooted = made.rooted;
    }

pub returns : goal.returns
returns g c =
    let one : c.push.new.self.items ≡ c.args.drawing ∷ [] = search rules in
    let made = leaf_made g.L.Drawing.meaning c.args.drawing (form_facts c.of_leaf-form.result) c.push.new.self.items one c.of_leaf-form.ensures in
    meanings_equal _ _ made.outline made.choices
