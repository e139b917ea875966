use Rattle.std.proofs.Common.{◌≡◌, ◌+◌, ◌≤◌, ◌++◌, length, rules, arith}
use Rattle.model.proofs.Meanings.{meanings_equal}
use Rattle.composition.specs.Meanings.{joined}
use Rattle.assembly.specs.Meanings.{form_outline, form_choices, form_meaning, leaf_meanings}
use Rattle.assembly.specs.Plain.{form_facts}
use Rattle.assembly.proofs.Composed.{joined_made, outline_kept, choices_kept}
use Rattle.assembly.proofs.assembly.Assembly.join.Goals as goal

pub invariant_of-result : goal.invariant_of-result
invariant_of-result g c =
    let l = c.args.left in
    let r = c.args.right in
    let f = form_facts c.joined-form.result in
    let leaf = leaf_meanings g.L.Drawing.meaning c.append.new.self.items in
    let counted : c.len.result ≡ length c.args.left.leaves.items = search (rules, arith) in
    let room : length c.args.left.leaves.items + length c.args.right.leaves.items ≤ 18446744073709551615 = search (rules, arith) in
    let appended : c.append.new.self.items ≡ c.args.left.leaves.items ++ c.args.right.leaves.items = search rules in
    let made = joined_made g.L.Drawing.meaning f (form_facts l.form) (form_facts r.form) l.leaves.items r.leaves.items c.append.new.self.items l.outline_laws l.choice_laws r.outline_laws r.choice_laws l.rooted r.rooted room appended (rw counted at c.joined-form.ensures) in
    let m = joined (form_meaning (form_facts l.form) (leaf_meanings g.L.Drawing.meaning l.leaves.items) l.outline_laws l.choice_laws) (form_meaning (form_facts r.form) (leaf_meanings g.L.Drawing.meaning r.leaves.items) r.outline_laws r.choice_laws) in
    record {
      outline_laws = outline_kept m (form_outline f) made.outline;
      choice_laws = choices_kept m (form_outline f) (form_choices leaf f) made.outline made.choices;
      rooted = made.rooted;
    }

pub returns : goal.returns
returns g c =
    let l = c.args.left in
    let r = c.args.right in
    let counted : c.len.result ≡ length c.args.left.leaves.items = search (rules, arith) in
    let room : length c.args.left.leaves.items + length c.args.right.leaves.items ≤ 18446744073709551615 = search (rules, arith) in
    let appended : c.append.new.self.items ≡ c.args.left.leaves.items ++ c.args.right.leaves.items = search rules in
    let made = joined_made g.L.Drawing.meaning (form_facts c.joined-form.result) (form_facts l.form) (form_facts r.form) l.leaves.items r.leaves.items c.append.new.self.items l.outline_laws l.choice_laws r.outline_laws r.choice_laws l.rooted r.rooted room appended (rw counted at c.joined-form.ensures) in
    meanings_equal _ _ made.outline made.choices
