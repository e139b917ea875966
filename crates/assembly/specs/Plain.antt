-- What is kept of a pile, and what it means over its leaves.
use Rattle.std.specs.Prelude.{ℕ, Option, List, cond, None, nat_lt, slice_index, slice_index_or}
use Rattle.std.specs.Option.{option_map}
use Rattle.assembly.specs.Atoms.{atom_facts}
use Rattle.assembly.specs.Facts.{FormFacts}
use Rattle.assembly.specs.Forms.{exchanged_form, paired_form}
use Rattle.assembly.specs.Meanings.{form_outline, form_choices, leaf_meanings, Origin, origin}
use Rattle.assembly.specs.declared.form.Form.{Form}
use Rattle.model.specs.Meanings.{OutlineFacts, ChoiceFacts, Meaning}
use Rattle.piles.specs.declared.exchange.Exchange.{Exchange}

abbrev pub form_facts : Form → FormFacts
form_facts f = record {
  fault = f.fault;
  layers = f.layers;
  kind = λ n. slice_index_or f.kinds.items n None;
  top = λ n. slice_index f.tops.items n;
  atoms = f.count;
  atom = λ a. cond (nat_lt a f.count) (option_map atom_facts (slice_index_or f.atoms.items a None)) None;
}

-- the form where two names change places, and two forms side by side
abbrev pub exchanged_facts : Exchange → Form → FormFacts
exchanged_facts e f = exchanged_form e.one e.other (form_facts f)

abbrev pub paired_facts : ℕ → Form → Form → FormFacts
paired_facts leaves l r = paired_form leaves (form_facts l) (form_facts r)

abbrev pub outline_of : Form → OutlineFacts
outline_of f = form_outline (form_facts f)

abbrev pub choices_over : {L : Type 0} → (L → Meaning) → List L → Form → ChoiceFacts
choices_over meaning leaves f = form_choices (leaf_meanings meaning leaves) (form_facts f)

abbrev pub origin_over : {L : Type 0} → (L → Meaning) → List L → Form → ℕ → Option Origin
origin_over meaning leaves f a = origin (leaf_meanings meaning leaves) ((form_facts f).atom a)
