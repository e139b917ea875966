use Rattle.std.proofs.Common.{◌≡◌, ◌+◌, None, cond, ltb, get_or, sym, ap, ◌∙◌, rules, arith}
use Rattle.std.specs.Option.{option_map}
use Rattle.model.specs.Exchange.{exchange}
use Rattle.composition.specs.Faults.{up_to_255}
use Rattle.assembly.specs.Atoms.{atom_facts}
use Rattle.assembly.specs.Forms.{renamed_atom}
use Rattle.assembly.proofs.Tables.{table_is, atoms_are, form_equal, exchanged_past, absent_past}
use Rattle.assembly.proofs.form.Form.exchanged.Goals as goal

pub returns : goal.returns
returns c =
    let f = c.args.self.now in
    let e = c.args.exchange in
    let layers : c.up_to_255.result ≡ up_to_255 (1 + f.layers) = search (rules, arith) in
    ap (λ x. record { fault = None; layers = x; kind = λ n. get_or c.gather.result.items n None; top = λ n. get_or c.gather-2.result.items n 0; atoms = f.count; atom = λ a. cond (ltb a f.count) (option_map atom_facts (get_or c.gather-3.result.items a None)) None }) layers
    ∙ form_equal None (up_to_255 (1 + f.layers)) f.count
    (table_is 32 c.gather.result.items (λ n. None) (λ n. get_or f.kinds.items (exchange e.one e.other n) None) c.gather.result.full (λ n l. let same = c.gather.ensures n None l in search rules) (λ n l. exchanged_past f.kinds.items None e.one e.other n f.kinds.full e.one_name e.other_name l))
    (table_is 32 c.gather-2.result.items (λ n. 0) (λ n. get_or f.tops.items (exchange e.one e.other n) 0) c.gather-2.result.full (λ n l. let same = c.gather-2.ensures n 0 l in search rules) (λ n l. exchanged_past f.tops.items 0 e.one e.other n f.tops.full e.one_name e.other_name l))
    (atoms_are f.count (λ a. option_map atom_facts (get_or c.gather-3.result.items a None)) (λ x. option_map (renamed_atom e.one e.other) (cond (ltb x f.count) (option_map atom_facts (get_or f.atoms.items x None)) None))
    (λ a l. let same = c.gather-3.ensures a None (omega (arith, l, f.few)) in search rules)
    (λ a l. sym (ap (option_map (renamed_atom e.one e.other)) (absent_past f.count (λ x. option_map atom_facts (get_or f.atoms.items x None)) a l))))
