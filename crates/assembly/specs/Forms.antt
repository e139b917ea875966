-- Forms of leaves, and of renamed, hidden and joined forms.
use Rattle.std.specs.Prelude.{ℕ, ◌+◌, Bool, cond, min, is_some, Some, None, Option, ◌==◌, nat_lt}
use Rattle.std.specs.Option.{option_map}
use Rattle.composition.specs.Faults.{up_to_255, fault_of_renamed, fault_of_hidden, fault_of_joined}
use Rattle.composition.specs.Outlines.{joined_kind, by_atom}
use Rattle.model.specs.Exchange.{exchange}
use Rattle.model.specs.Meanings.{OutlineFacts}
use Rattle.model.specs.declared.Fault.{Fault}
use Rattle.model.specs.declared.Kind.TheVariants.{Private}
use Rattle.assembly.specs.Facts.{AtomFacts, FormFacts}
use Rattle.assembly.specs.Meanings.{form_outline}

-- an atom of the first leaf, under the leaf's names
abbrev pub own_atom : ℕ → (ℕ → Bool) → (ℕ → Bool) → (ℕ → Bool) → AtomFacts
own_atom number controls reads awaits = record {
  controls = controls;
  reads = reads;
  awaits = awaits;
  leaf = 0;
  number = number;
  in_whole = λ n. n;
  in_leaf = λ n. n;
}

-- an atom of a drawing that stands by itself
abbrev pub atom_of_leaf : OutlineFacts → ℕ → AtomFacts
atom_of_leaf o a = own_atom a (o.controls a) (o.reads a) (o.awaits a)

abbrev pub leaf_form : OutlineFacts → FormFacts
leaf_form o = record {
  fault = o.fault;
  layers = o.layers;
  kind = o.kind;
  top = o.top;
  atoms = o.atoms;
  atom = λ a. cond (nat_lt a o.atoms) (Some (atom_of_leaf o a)) None;
}

-- a form with this fault if any: where there is one, it has no variables and no atoms
abbrev pub form_with : Option Fault → FormFacts → FormFacts
form_with None f = record f { fault = None }
form_with (Some e) f = record { fault = Some e; layers = f.layers; kind = λ n. None; top = λ n. 0; atoms = 0; atom = λ a. None }

abbrev pub renamed_atom : ℕ → ℕ → AtomFacts → AtomFacts
renamed_atom a b t = record {
  controls = λ n. t.controls (exchange a b n);
  reads = λ n. t.reads (exchange a b n);
  awaits = λ n. t.awaits (exchange a b n);
  leaf = t.leaf;
  number = t.number;
  in_whole = λ n. exchange a b (t.in_whole n);
  in_leaf = λ n. t.in_leaf (exchange a b n);
}

-- the atom where so many leaves come before its own, as many as can be counted
abbrev pub moved_atom : ℕ → AtomFacts → AtomFacts
moved_atom leaves t = record t { leaf = min (t.leaf + leaves) 18446744073709551615 }

-- every name asked for is exchanged
abbrev pub exchanged_form : ℕ → ℕ → FormFacts → FormFacts
exchanged_form a b f = record {
  fault = None;
  layers = up_to_255 (1 + f.layers);
  kind = λ n. f.kind (exchange a b n);
  top = λ n. f.top (exchange a b n);
  atoms = f.atoms;
  atom = λ x. option_map (renamed_atom a b) (f.atom x);
}

abbrev pub concealed_form : ℕ → FormFacts → FormFacts
concealed_form name f = record {
  fault = None;
  layers = up_to_255 (1 + f.layers);
  kind = λ n. cond (n == name) (Some Private) (f.kind n);
  top = f.top;
  atoms = f.atoms;
  atom = f.atom;
}

-- the left form has so many leaves
abbrev pub paired_form : ℕ → FormFacts → FormFacts → FormFacts
paired_form leaves l r = record {
  fault = None;
  layers = up_to_255 (1 + l.layers + r.layers);
  kind = λ n. joined_kind (l.kind n) (r.kind n);
  top = λ n. cond (is_some (l.kind n)) (l.top n) (r.top n);
  atoms = l.atoms + r.atoms;
  atom = by_atom l.atoms l.atom (λ a. option_map (moved_atom leaves) (r.atom a));
}

abbrev pub renamed_form : ℕ → ℕ → FormFacts → FormFacts
renamed_form a b f = form_with (fault_of_renamed (form_outline f) a b) (exchanged_form a b f)

abbrev pub hidden_form : ℕ → FormFacts → FormFacts
hidden_form name f = form_with (fault_of_hidden (form_outline f) name) (concealed_form name f)

abbrev pub joined_form : ℕ → FormFacts → FormFacts → FormFacts
joined_form leaves l r = form_with (fault_of_joined (form_outline l) (form_outline r)) (paired_form leaves l r)
