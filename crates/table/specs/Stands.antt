-- Where an item stands.
use Rattle.std.specs.Prelude.{◌≡◌, ℕ, List}
use Rattle.table.specs.declared.items.Item.{Item}

-- the item is the one of these bytes at this place
abbrev pub StandsAt : List ℕ → ℕ → Item → Type 0
StandsAt bs k item = (item.bytes.now ≡ bs) × (item.place ≡ k)
