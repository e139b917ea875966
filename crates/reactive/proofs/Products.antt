-- How many rows there are under tops that are told by number.
use Rattle.std.proofs.Common.{◌≡◌, ℕ, zero, suc, ◌+◌, ◌*◌, ◌<◌, map, sym, refl, ap, ◌∙◌, ap₂, mul_assoc, mul-one, one-mul, add-zero, arith}
use Rattle.std.proofs.Math.Nat.{mul-mul-mul_comm}
use Rattle.std.specs.List.{range_with_len}
use Rattle.theory.specs.Enumerations.{below, room}
use Rattle.units.specs.Counting.{product}

pub product_same : (f g : ℕ → ℕ) (n : ℕ) → ((k : ℕ) → k < n → f k ≡ g k) → product f n ≡ product g n
unfolding product
product_same f g zero h = refl
product_same f g (suc n) h = ap₂ (λ x y. x * y) (product_same f g n (λ k l. h k (omega (arith, l)))) (h n (omega arith))

pub product_times : (f g : ℕ → ℕ) (n : ℕ) → product (λ k. f k * g k) n ≡ product f n * product g n
unfolding product
product_times f g zero = refl
product_times f g (suc n) = ap (λ x. x * (f n * g n)) (product_times f g n) ∙ mul-mul-mul_comm (product f n) (product g n) (f n) (g n)

-- the first factor apart
product_first : (f : ℕ → ℕ) (n : ℕ) → product f (suc n) ≡ f 0 * product (λ k. f (suc k)) n
unfolding product
product_first f zero = one-mul (f 0) ∙ sym (mul-one (f 0))
product_first f (suc n) = ap (λ x. x * f (suc n)) (product_first f n) ∙ mul_assoc (f 0) (product (λ k. f (suc k)) n) (f (suc n))

room_from : (f : ℕ → ℕ) (a n : ℕ) → room (map f (range_with_len a n)) ≡ product (λ k. f (a + k) + 1) n
unfolding product
room_from f a zero = refl
room_from f a (suc n) =
    ap (λ x. (f a + 1) * x) (room_from f (a + 1) n ∙ product_same (λ k. f (a + 1 + k) + 1) (λ k. f (a + suc k) + 1) n (λ k l. ap (λ j. f j + 1) (omega arith)))
    ∙ ap (λ j. (f j + 1) * product (λ k. f (a + suc k) + 1) n) (sym (add-zero a))
    ∙ sym (product_first (λ k. f (a + k) + 1) n)

pub room_below : (f : ℕ → ℕ) (n : ℕ) → room (map f (below n)) ≡ product (λ k. f k + 1) n
unfolding below
room_below f n = room_from f 0 n ∙ product_same (λ k. f (0 + k) + 1) (λ k. f k + 1) n (λ k l. ap (λ j. f j + 1) (omega arith))
