-- The factors of the products that sealing judges, by name or atom.
use Rattle.std.specs.Prelude.{◌≡◌, ℕ, ◌*◌, ◌<◌, max}
use Rattle.model.specs.Meanings.{OutlineFacts, Meaning}
use Rattle.model.specs.declared.Round.TheVariants.{Initial, Update}
use Rattle.units.specs.Sealing.{times_if, is_external}

-- how many values the atom sees of a name
abbrev pub seen_values : OutlineFacts → ℕ → ℕ → ℕ
seen_values o a n = times_if (o.reads a n) (o.top n) * times_if (o.awaits a n) (o.top n)

-- how many values an external name has; any other counts once
abbrev pub external_values : OutlineFacts → ℕ → ℕ
external_values o n = times_if (is_external (o.kind n)) (o.top n)

-- the larger of an atom's two choice counts
abbrev pub larger_count : Meaning → ℕ → ℕ
larger_count m a = max (m.acts.choices Initial a) (m.acts.choices Update a)

-- at each number below n, whatever is answered is what f gives
abbrev pub Gives : (ℕ → ℕ → Type 0) → (ℕ → ℕ) → ℕ → Type 0
Gives answered f n = (k y : ℕ) → k < n → answered k y → y ≡ f k
