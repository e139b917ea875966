-- States made from valuations.
use Rattle.std.proofs.Common.{◌≡◌, ℕ, ◌<◌, true, cond, ◌⊎◌, List, length, get_or, set, is_some, sym, refl, ap, ◌∙◌, inl, inr, arith}
use mathlib.Core.Path.{fun_ext}
use Rattle.std.proofs.lemmas.List.FromFn.{length-map-range_with_len, get_or-map-range_with_len, fill_by_all}
use Rattle.std.proofs.lemmas.List.{length-replicate, get_or-replicate, length-set, get_or-set_same, get_or-set_other}
use Rattle.std.proofs.lemmas.Bool.{cases_eq, cond-true, cond_both}
use Rattle.model.specs.Meanings.{Valuation, OutlineFacts}
use Rattle.model.specs.States.{value, nothing}
use Rattle.composition.specs.Acts.{seen_below}
use Rattle.model.specs.Exchange.{exchange}
use Rattle.composition.specs.laws.Exchange.{exchange_both, exchange_twice, exchange_within}
use Rattle.composition.specs.Views.{as_state, projected, exchanged}

pub length_as_state : (v : Valuation) → length (as_state v) ≡ 32
unfolding as_state
length_as_state v = length-map-range_with_len v 0 32

pub value_as_state : (v : Valuation) (n : ℕ) → n < 32 → value (as_state v) n ≡ v n
unfolding as_state
value_as_state v n h = get_or-map-range_with_len v 0 32 n n 0 h (omega arith)

-- a state with these values is the one made from them
pub state_is : (v : Valuation) (s : List ℕ) → length s ≡ 32 → ((n : ℕ) → n < 32 → value s n ≡ v n) → s ≡ as_state v
unfolding as_state
state_is v s long h = fill_by_all v s 32 0 long h

pub projected_at : (o : OutlineFacts) (s : List ℕ) (n : ℕ) → n < 32 → is_some (o.kind n) ≡ true → value (projected o s) n ≡ value s n
projected_at o s n h e = value_as_state (λ k. cond (is_some (o.kind k)) (value s k) 0) n h ∙ cond-true (is_some (o.kind n)) (value s n) 0 e

nothing_at : (n : ℕ) → n < 32 → value nothing n ≡ 0
nothing_at n h = get_or-replicate 32 n 0 0 h

pub projected_nothing : (o : OutlineFacts) → projected o nothing ≡ nothing
projected_nothing o =
    sym (state_is (λ k. cond (is_some (o.kind k)) (value nothing k) 0) nothing (length-replicate {A = ℕ} 32 0) (λ n h. nothing_at n h ∙ cond_both (is_some (o.kind n)) (value nothing n) 0 (λ x. 0 ≡ x) (λ _. sym (nothing_at n h)) (λ _. refl)))

-- a list in which the elements at two places are each written over the other
pub exchange_getD : {X : Type 0} (xs : List X) (d : X) (a b : ℕ) → a < length xs → b < length xs → (n : ℕ) → get_or (set (set xs a (get_or xs b d)) b (get_or xs a d)) n d ≡ get_or xs (exchange a b n) d
exchange_getD {X} xs d a b low high n = exchange_both a b (λ i j. get_or ys i d ≡ get_or xs j d) old new other n
  where
    zs : List X
    zs = set xs a (get_or xs b d)

    ys : List X
    ys = set zs b (get_or xs a d)

    new : get_or ys b d ≡ get_or xs a d
    new = get_or-set_same zs b (get_or xs a d) d (omega (arith, length-set xs a (get_or xs b d)))

    old : get_or ys a d ≡ get_or xs b d
    old = go (cases_eq a b)
      where
        go : (a ≡ b) ⊎ (a ≡ b → ⊥) → get_or ys a d ≡ get_or xs b d
        go (inl e) = ap (λ i. get_or ys i d) e ∙ new ∙ ap (λ i. get_or xs i d) e
        go (inr f) = get_or-set_other zs b a (get_or xs a d) d f ∙ get_or-set_same xs a (get_or xs b d) d low

    other : (i : ℕ) → (i ≡ a → ⊥) → (i ≡ b → ⊥) → get_or ys i d ≡ get_or xs i d
    other i e f = get_or-set_other zs b i (get_or xs a d) d f ∙ get_or-set_other xs a i (get_or xs b d) d e

module _ (a b : ℕ) where
  pub exchanged_at : (s : List ℕ) (n : ℕ) → n < 32 → value (exchanged a b s) n ≡ value s (exchange a b n)
  exchanged_at s n h = value_as_state (λ k. value s (exchange a b k)) n h

  module _ (old_name : a < 32) (new_name : b < 32) where
    pub exchanged_twice : (s : List ℕ) → length s ≡ 32 → exchanged a b (exchanged a b s) ≡ s
    exchanged_twice s long =
        sym (state_is (λ k. value (exchanged a b s) (exchange a b k)) s long
        (λ n h. sym (exchanged_at s (exchange a b n) (exchange_within 32 a b n old_name new_name h) ∙ ap (value s) (exchange_twice a b n))))

    pub exchanged_nothing : exchanged a b nothing ≡ nothing
    exchanged_nothing =
        sym (state_is (λ k. value nothing (exchange a b k)) nothing (length-replicate {A = ℕ} 32 0)
        (λ n h. nothing_at n h ∙ sym (nothing_at (exchange a b n) (exchange_within 32 a b n old_name new_name h))))

    -- exchanging the two values is writing each over the other
    pub exchanged_is : (s : List ℕ) → length s ≡ 32 → set (set s a (value s b)) b (value s a) ≡ exchanged a b s
    exchanged_is s long =
        state_is (λ k. value s (exchange a b k)) (set (set s a (value s b)) b (value s a)) (length-set (set s a (value s b)) b (value s a) ∙ length-set s a (value s b) ∙ long)
        (λ n h. exchange_getD s 0 a b (omega arith) (omega arith) n)

    pub value_exchanged : (s : List ℕ) → length s ≡ 32 → value (exchanged a b s) ≡ seen_below a b (value s)
    value_exchanged s long = ap value (sym (exchanged_is s long)) ∙ fun_ext (λ n. exchange_getD s 0 a b (omega arith) (omega arith) n)
