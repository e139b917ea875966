-- Products by steps, and products that stop growing at a limit.
use Rattle.std.proofs.Common.{◌≡◌, ℕ, zero, suc, ◌+◌, ◌*◌, ◌<◌, ◌≤◌, min, sym, ap, ◌∙◌, ⊎_elim, mul-le-mul_left, mul-zero, mul-one, add-one, arith}
use Rattle.std.proofs.lemmas.Bool.{cases_lt}
use Rattle.units.specs.Counting.{product}

-- a product of what was stopped at the limit stops where the whole product does
pub stopped : (x y most : ℕ) → min (min x most * y) most ≡ min (x * y) most
stopped x zero most = ap (λ z. min z most) (mul-zero (min x most) ∙ sym (mul-zero x))
stopped x (suc y) most = ⊎_elim below above (cases_lt x most)
  where
    below : x < most → min (min x most * suc y) most ≡ min (x * suc y) most
    below h = ap (λ z. min (z * suc y) most) (omega arith)

    above : most ≤ x → min (min x most * suc y) most ≡ min (x * suc y) most
    above h =
        let e : min x most ≡ most = omega arith in
        let grown : most * 1 ≤ most * suc y = mul-le-mul_left most (omega arith) in
        let grown' : x * 1 ≤ x * suc y = mul-le-mul_left x (omega arith) in
        let one : most * 1 ≡ most = mul-one most in
        let one' : x * 1 ≡ x = mul-one x in
        let left : min (most * suc y) most ≡ most = omega arith in
        let right : min (x * suc y) most ≡ most = omega arith in
        ap (λ z. min (z * suc y) most) e ∙ left ∙ sym right

module _ (f : ℕ → ℕ) where
  pub stopped_none : (most : ℕ) → 1 ≤ most → 1 ≡ min (product f 0) most
  unfolding product
  stopped_none most h = omega arith

  -- one factor more
  pub stopped_more : (i most r y s : ℕ) → r ≡ min (product f i) most → y ≡ f i → s ≡ min (r * y) most → s ≡ min (product f (i + 1)) most
  unfolding product
  stopped_more i most r y s h factor e =
      e ∙ ap (λ z. min (r * z) most) factor ∙ ap (λ z. min (z * f i) most) h ∙ stopped (product f i) (f i) most ∙ ap (λ n. min (product f n) most) (sym (add-one i))
