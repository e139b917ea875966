-- Items: a byte with a length, and as many bytes after it.
use Rattle.std.specs.Prelude.{ℕ, zero, suc, ◌+◌, List, take, drop, slice_index}

-- the place after the item that stands at place k
abbrev pub after_item : List ℕ → ℕ → ℕ
after_item bs k = k + 1 + slice_index bs k

-- its bytes, without their length
abbrev pub item_bytes : List ℕ → ℕ → List ℕ
item_bytes bs k = take (slice_index bs k) (drop (k + 1) bs)

-- the place of the item that stands n items after the one at place k
unfoldable pub item_place : List ℕ → ℕ → ℕ → ℕ
item_place bs k zero = k
item_place bs k (suc n) = after_item bs (item_place bs k n)
