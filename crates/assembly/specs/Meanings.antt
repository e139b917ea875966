-- What a form means, given what its leaves mean.
use Rattle.std.specs.Prelude.{◌≡◌, ◌<◌, ℕ, false, List, pos, Some, None, Option}
use Rattle.std.specs.List.{slice_get}
use Rattle.std.specs.Option.{option_map}
use Rattle.model.specs.Meanings.{OutlineFacts, OutlineLaws, ChoiceFacts, ChoiceLaws, Meaning}
use Rattle.assembly.specs.Facts.{AtomFacts, FormFacts, seen_by}

-- what f says of an atom that is there, and otherwise
abbrev pub of_atom : {X : Type 0} → (AtomFacts → X) → X → Option AtomFacts → X
of_atom f absent None = absent
of_atom f absent (Some t) = f t

abbrev pub form_outline : FormFacts → OutlineFacts
form_outline f = record {
  fault = f.fault;
  layers = f.layers;
  kind = f.kind;
  top = f.top;
  atoms = f.atoms;
  controls = λ a n. of_atom (λ t. t.controls n) false (f.atom a);
  reads = λ a n. of_atom (λ t. t.reads n) false (f.atom a);
  awaits = λ a n. of_atom (λ t. t.awaits n) false (f.atom a);
}

-- an atom, and what the leaf means that it comes from
pub record Origin : Type 0 where
  pub atom : AtomFacts
  pub meaning : Meaning

abbrev pub origin_from : AtomFacts → Meaning → Origin
origin_from t m = record { atom = t; meaning = m }

abbrev pub with_leaf : AtomFacts → Option Meaning → Option Origin
with_leaf t o = option_map (origin_from t) o

abbrev pub origin : (ℕ → Option Meaning) → Option AtomFacts → Option Origin
origin leaf None = None
origin leaf (Some t) = with_leaf t (leaf t.leaf)

-- what f says of an origin that is there, and otherwise
abbrev pub of_origin : {X : Type 0} → (Origin → X) → X → Option Origin → X
of_origin f absent None = absent
of_origin f absent (Some o) = f o

-- each question is asked of the leaf, by the atom's number, the names and the values there
abbrev pub form_choices : (ℕ → Option Meaning) → FormFacts → ChoiceFacts
form_choices leaf f = record {
  choices = λ r a. of_origin (λ o. o.meaning.acts.choices r o.atom.number) 0 (origin leaf (f.atom a));
  opens = λ r a k old new. of_origin (λ o. o.meaning.acts.opens r o.atom.number k (seen_by o.atom old) (seen_by o.atom new)) false (origin leaf (f.atom a));
  gives = λ r a k n old new. of_origin (λ o. o.meaning.acts.gives r o.atom.number k (o.atom.in_leaf n) (seen_by o.atom old) (seen_by o.atom new)) (pos 0) (origin leaf (f.atom a));
}

-- what the leaves mean, by number
abbrev pub leaf_meanings : {L : Type 0} → (L → Meaning) → List L → ℕ → Option Meaning
leaf_meanings meaning leaves i = option_map meaning (slice_get leaves i)

-- each atom comes from one of so many leaves
abbrev pub Rooted : FormFacts → ℕ → Type 0
Rooted f leaves = (a : ℕ) (t : AtomFacts) → f.atom a ≡ Some t → t.leaf < leaves

abbrev pub form_meaning : (f : FormFacts) (leaf : ℕ → Option Meaning) → OutlineLaws (form_outline f) → ChoiceLaws (form_outline f) (form_choices leaf f) → Meaning
form_meaning f leaf outline_laws choice_laws = record {
  outline = form_outline f;
  acts = form_choices leaf f;
  outline_laws = outline_laws;
  choice_laws = choice_laws;
}
