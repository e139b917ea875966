use Rattle.std.proofs.Common.{◌≡◌, ◌+◌, None, cond, is_some, ltb, get_or, sym, ap, ◌∙◌, rules, arith}
use Rattle.std.specs.Option.{option_map}
use Rattle.composition.specs.Faults.{up_to_255, fault_of_joined}
use Rattle.composition.specs.Outlines.{joined_kind}
use Rattle.composition.specs.laws.Faults.{joins}
use Rattle.assembly.specs.Atoms.{atom_facts}
use Rattle.assembly.specs.Forms.{form_with, paired_form}
use Rattle.assembly.specs.Meanings.{form_outline}
use Rattle.assembly.specs.Plain.{form_facts}
use Rattle.assembly.proofs.Tables.{table_is, atoms_are, form_equal, joined_kind_past, joined_top_past, joined_past}
use Rattle.assembly.proofs.form.Form.joined.Goals as goal

pub returns : goal.returns
returns c =
    let l = c.args.self.now in
    let r = c.args.right.now in
    let none : fault_of_joined (form_outline (form_facts c.args.self.now)) (form_outline (form_facts c.args.right.now)) ≡ None = search rules in
    let room = (joins (form_outline (form_facts l)) (form_outline (form_facts r)) none).room in
    let layers : c.up_to_255-layers.result ≡ up_to_255 (1 + c.args.self.now.layers + c.args.right.now.layers) = search (rules, arith) in
    ap (λ x. record { fault = None; layers = x; kind = λ n. get_or c.gather.result.items n None; top = λ n. get_or c.gather-2.result.items n 0; atoms = l.count + r.count; atom = λ a. cond (ltb a (l.count + r.count)) (option_map atom_facts (get_or c.gather-3.result.items a None)) None }) layers
    ∙ form_equal None (up_to_255 (1 + l.layers + r.layers)) (l.count + r.count)
    (table_is 32 c.gather.result.items (λ n. None) (λ n. joined_kind (get_or l.kinds.items n None) (get_or r.kinds.items n None)) c.gather.result.full (λ n h. let same = c.gather.ensures n None h in search rules) (λ n h. joined_kind_past l.kinds.items r.kinds.items n l.kinds.full r.kinds.full h))
    (table_is 32 c.gather-2.result.items (λ n. 0) (λ n. cond (is_some (get_or l.kinds.items n None)) (get_or l.tops.items n 0) (get_or r.tops.items n 0)) c.gather-2.result.full (λ n h. let same = c.gather-2.ensures n 0 h in search rules) (λ n h. joined_top_past l.kinds.items l.tops.items r.tops.items n l.kinds.full r.tops.full h))
    (atoms_are (l.count + r.count) (λ a. option_map atom_facts (get_or c.gather-3.result.items a None)) (paired_form c.args.leaves (form_facts l) (form_facts r)).atom
    (λ a h. let same = c.gather-3.ensures a None (omega (arith, h, room)) in search rules)
    (λ a h. joined_past l.count r.count c.args.leaves (form_facts l).atom (λ x. option_map atom_facts (get_or r.atoms.items x None)) a h))
    ∙ sym (ap (λ e. form_with e (paired_form c.args.leaves (form_facts l) (form_facts r))) none)
