-- Rows of items.
use Rattle.std.specs.Prelude.{◌≡◌, ℕ, ◌<◌, List, [], ◌∷◌, ◌++◌, length, take, Result, Ok, Err}
use Rattle.model.specs.declared.row.Row.{Row}
use Rattle.model.specs.declared.row.Full.{Full}

-- the items of the row, in their order
abbrev pub row_items : {T : Type 0} {N : ℕ} → Row T N → List T
row_items r = take r.count r.items

-- where there is room below the limit, the item stands at the end; else nothing has changed
abbrev pub Pushed : {T : Type 0} → ℕ → List T → T → List T → Result (Unit {0}) Full → Type 0
Pushed n before item after (Ok _) = after ≡ before ++ item ∷ []
Pushed n before item after (Err _) = (length before ≡ n) × (after ≡ before)

-- the items are those of the row, or there are more than it has room for
abbrev pub Filled : {T : Type 0} {N : ℕ} → List T → Result (Row T N) Full → Type 0
Filled xs (Ok row) = row_items row ≡ xs
Filled {N} xs (Err _) = N < length xs
