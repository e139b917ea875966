-- States that are listed as bytes.
use Rattle.std.specs.Prelude.{◌≡◌, ℕ, ◌≤◌, true, false, List, length, Some, None, Option}
use Rattle.std.specs.Borrow.{Bor}
use Rattle.units.specs.Evidence.{states_in, wrong_size}

-- the states that the bytes list, 1 to 2,048 of them; none where the bytes are of a wrong size
abbrev pub StatesListed : List ℕ → Option (Bor (List (List ℕ))) → Type 0
StatesListed bs None = wrong_size bs ≡ true
StatesListed bs (Some states) = (wrong_size bs ≡ false) × (states.now ≡ states_in bs) × (1 ≤ length states.now) × (length states.now ≤ 2048)
