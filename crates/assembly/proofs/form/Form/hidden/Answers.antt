use Rattle.std.proofs.Common.{◌≡◌, ◌+◌, None, Some, cond, eqb, ltb, get_or, sym, refl, ap, ◌∙◌, rules, arith}
use Rattle.std.specs.Option.{option_map}
use Rattle.model.specs.declared.Kind.TheVariants.{Private}
use Rattle.composition.specs.Faults.{up_to_255, fault_of_hidden}
use Rattle.composition.specs.laws.Faults.{hides}
use Rattle.assembly.specs.Atoms.{atom_facts}
use Rattle.assembly.specs.Forms.{form_with, concealed_form}
use Rattle.assembly.specs.Meanings.{form_outline}
use Rattle.assembly.specs.Plain.{form_facts}
use Rattle.assembly.proofs.Tables.{table_is, form_equal, concealed_past}
use Rattle.assembly.proofs.form.Form.hidden.Goals as goal

pub returns : goal.returns
returns c =
    let f = c.args.self.now in
    let name = c.args.name in
    let none : fault_of_hidden (form_outline (form_facts c.args.self.now)) c.args.name ≡ None = search rules in
    let layers : c.up_to_255-layers.result ≡ up_to_255 (1 + c.args.self.now.layers) = search (rules, arith) in
    ap (λ x. record { fault = None; layers = x; kind = λ n. get_or c.gather.result.items n None; top = λ n. get_or f.tops.items n 0; atoms = f.count; atom = λ a. cond (ltb a f.count) (option_map atom_facts (get_or f.atoms.items a None)) None }) layers
    ∙ form_equal None (up_to_255 (1 + f.layers)) f.count
    (table_is 32 c.gather.result.items (λ n. None) (λ n. cond (eqb n name) (Some Private) (get_or f.kinds.items n None)) c.gather.result.full (λ n l. let same = c.gather.ensures n None l in search rules) (concealed_past f.kinds.items name f.kinds.full (hides (form_outline (form_facts f)) name none).interface))
    refl refl
    ∙ sym (ap (λ e. form_with e (concealed_form name (form_facts f))) none)
