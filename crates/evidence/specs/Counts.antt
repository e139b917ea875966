-- The count of a round's outcomes, as they are gone through: external values first, then each atom's open choices in an order of the
-- atoms. There is none where an outcome is not listed.
use Rattle.std.specs.Prelude.{ℕ, zero, suc, ◌+◌, Bool, cond, List, Some, None, Option, min, slice_set}
use Rattle.model.specs.Meanings.{OutlineFacts, Meaning}
use Rattle.model.specs.States.{value, nothing}
use Rattle.sealing.specs.Orders.{atom_at}
use Rattle.units.specs.Sealing.{is_external}
use Rattle.units.specs.Units.{kind_of_round, old_state, values_made}

-- two counts together, in 32 bits; there is none where one is missing
abbrev pub added : Option ℕ → Option ℕ → Option ℕ
added None b = None
added (Some x) None = None
added (Some x) (Some y) = Some (min (x + y) 4294967295)

-- the counts at the numbers below n together
unfoldable pub sum_below : (ℕ → Option ℕ) → ℕ → Option ℕ
sum_below f zero = Some 0
sum_below f (suc n) = added (sum_below f n) (f n)

-- the count under a choice, nothing where it is closed
abbrev pub if_open : Bool → Option ℕ → Option ℕ
if_open opened under = cond opened under (Some 0)

-- Under these values, given and made so far, by the choices of the atoms at so many places from this one on. Before is the state from
-- which the round goes, none in an initialization.
unfoldable pub atoms_count : Meaning → Option (List ℕ) → (List ℕ → Bool) → List ℕ → ℕ → ℕ → List ℕ → Option ℕ
atoms_count m before listed order place zero new = cond (listed new) (Some 1) None
atoms_count m before listed order place (suc left) new =
    sum_below (λ k. if_open (m.acts.opens (kind_of_round before) (atom_at order place) k (value (old_state before)) (value new)) (atoms_count m before listed order (place + 1) left (values_made m before new (atom_at order place) k)))
    (m.acts.choices (kind_of_round before) (atom_at order place))

-- the largest value that is given to a name
abbrev pub given_top : OutlineFacts → ℕ → ℕ
given_top o n = cond (is_external (o.kind n)) (o.top n) 0

-- under these values, by those given to so many names from this one on
unfoldable pub values_count : Meaning → Option (List ℕ) → (List ℕ → Bool) → List ℕ → ℕ → ℕ → List ℕ → Option ℕ
values_count m before listed order name zero new = atoms_count m before listed order 0 m.outline.atoms new
values_count m before listed order name (suc left) new =
    sum_below (λ v. values_count m before listed order (name + 1) left (slice_set new name v)) (given_top m.outline name + 1)

-- of a whole round
abbrev pub round_count : Meaning → Option (List ℕ) → (List ℕ → Bool) → List ℕ → Option ℕ
round_count m before listed order = values_count m before listed order 0 32 nothing
