-- Steps of walking over items.
use Rattle.std.proofs.Common.{◌≡◌, ℕ, zero, suc, ◌+◌, List, sym, refl, ap, ◌∙◌, add-one}
use Rattle.table.specs.Items.{after_item, item_place}

pub place_none : (bs : List ℕ) (k : ℕ) → item_place bs k 0 ≡ k
unfolding item_place
place_none bs k = refl

pub place_more : (bs : List ℕ) (k n : ℕ) → item_place bs k (suc n) ≡ after_item bs (item_place bs k n)
unfolding item_place
place_more bs k n = refl

-- n items after the next one
pub place_next : (bs : List ℕ) (k n : ℕ) → item_place bs (after_item bs k) n ≡ item_place bs k (suc n)
unfolding item_place
place_next bs k zero = refl
place_next bs k (suc n) = ap (after_item bs) (place_next bs k n)

-- an item that ends behind i items is the next one
pub one_later : {bs xs : List ℕ} (k i : ℕ) {place end : ℕ} → xs ≡ bs → place ≡ item_place bs k i → end ≡ after_item xs place → end ≡ item_place bs k (i + 1)
one_later {bs} {xs} k i {place} same at e = e ∙ ap (λ ys. after_item ys place) same ∙ ap (after_item bs) at ∙ sym (place_more bs k i) ∙ ap (item_place bs k) (sym (add-one i))
