-- Where the choices of a table stand among its bytes: each behind all that is written before it.
use Rattle.std.specs.Prelude.{ℕ, ◌+◌, List, length, take, Some, None, Option}
use Rattle.std.specs.List.{flat_map, slice_get}
use Rattle.std.specs.Option.{option_map}
use Rattle.model.specs.declared.Round.{Round}
use Rattle.model.specs.declared.Round.TheVariants.{Initial, Update}
use Rattle.language.specs.Tables.{TableSyntax, TableAtom, TableChoice, variable_bytes, choice_bytes, atom_bytes, choices_in}

-- the place behind choices, and behind atoms, that are written from place k on
abbrev pub choices_end : ℕ → List TableChoice → ℕ
choices_end k choices = k + length (flat_map choice_bytes choices)

abbrev pub atoms_end : ℕ → List TableAtom → ℕ
atoms_end k atoms = k + length (flat_map atom_bytes atoms)

-- where the choices of a round begin, of an atom that begins at place k: behind three sets of four bytes and two counts, and the
-- update choices behind the initial ones
abbrev pub first_choice : Round → ℕ → TableAtom → ℕ
first_choice Initial k a = k + 14
first_choice Update k a = choices_end (k + 14) a.initial

-- where the atoms begin of a table that begins at place k: behind the variables and the counts of both
abbrev pub first_atom : ℕ → TableSyntax → ℕ
first_atom k t = k + length (flat_map variable_bytes t.variables) + 2

-- where atom a of a table begins
abbrev pub atom_start : TableSyntax → ℕ → ℕ
atom_start t a = atoms_end (first_atom 0 t) (take a t.atoms)

-- where choice k of an atom that begins at place `start` begins, if it is there
abbrev pub choice_start : Round → ℕ → Option TableAtom → ℕ → Option ℕ
choice_start r start None k = None
choice_start r start (Some a) k =
    let choices = choices_in r (Some a) in
    option_map (λ _. choices_end (first_choice r start a) (take k choices)) (slice_get choices k)

-- where choice k of atom a of a table begins, if it is there
abbrev pub choice_place : TableSyntax → Round → ℕ → ℕ → Option ℕ
choice_place t r a k = choice_start r (atom_start t a) (slice_get t.atoms a) k
