-- Sets of the atoms that an atom awaits.
use Rattle.std.specs.Prelude.{◌≡◌, ℕ, ◌&&◌, nat_lt}
use Rattle.model.specs.Meanings.{OutlineFacts}
use Rattle.model.specs.Sets.{AtomSet, has}
use Rattle.units.specs.Sealing.{awaits_atom}

-- the set of those that an atom awaits is right for each number that can be in it
abbrev pub IsAwaitSet : OutlineFacts → ℕ → AtomSet → Type 0
IsAwaitSet o a awaited = (b : ℕ) → has awaited b ≡ (nat_lt b 16 && awaits_atom o a b)
