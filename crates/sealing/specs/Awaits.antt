-- Atoms that await each other, one step at a time.
use Rattle.std.specs.Prelude.{ℕ, zero, suc, Bool, false, Some, None, Option, ◌&&◌, ◌||◌, nat_lt, slice_get}
use Rattle.model.specs.Sets.{AtomSet, has}
use Rattle.model.specs.Tests.{some}
use Rattle.sealing.specs.declared.await_table.AwaitTable.{AwaitTable}

-- is the atom in the set, where there is one
abbrev pub has_in : Option AtomSet → ℕ → Bool
has_in None b = false
has_in (Some s) b = has s b

-- is the second atom in the table's set of the first, and are there such atoms
abbrev pub direct : AwaitTable → ℕ → ℕ → Bool
direct t a b = nat_lt a 16 && nat_lt b 16 && has_in (slice_get t.awaited a) b

-- the atom awaits the other one, which is behind
abbrev pub steps_to : (ℕ → ℕ → Bool) → (ℕ → Bool) → ℕ → ℕ → Bool
steps_to awaits behind a b = awaits a b && behind b

-- the atom awaits the goal, directly or through one that is behind
abbrev pub leads_to : (ℕ → ℕ → Bool) → ℕ → (ℕ → Bool) → ℕ → ℕ → Bool
leads_to awaits atoms behind goal a = awaits a goal || some (steps_to awaits behind a) atoms

-- an atom awaits another directly or through at most so many others
unfoldable pub reaches : (ℕ → ℕ → Bool) → ℕ → ℕ → ℕ → ℕ → Bool
reaches awaits atoms zero a b = awaits a b
reaches awaits atoms (suc others) a b = awaits a b || some (λ c. awaits a c && reaches awaits atoms others c b) atoms
