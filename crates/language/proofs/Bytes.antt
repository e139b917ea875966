-- Bytes that stand in a byte string.
use Rattle.std.proofs.Common.{◌≡◌, ℕ, zero, suc, ◌+◌, ◌<◌, ltb, List, [], ◌∷◌, ◌++◌, length, drop, Some, None, Option, ap, ◌∙◌, subst, add-one, arith}
use Rattle.std.proofs.lemmas.Bool.{lt-ltb, cond-true}
use Rattle.std.specs.List.{AllByRecursion as All, slice_get}
use Rattle.language.specs.laws.Expressions.{none_some, byte_is, Stands}
use Rattle.language.specs.Expressions.{as_byte}

pub byte_of : (o : Option ℕ) (b : ℕ) → o ≡ Some b → b < 256 → as_byte o ≡ Some b
byte_of o b e h = ap as_byte e ∙ cond-true (ltb b 256) (Some b) None (lt-ltb b 256 h)

pub drop_nth : (k : ℕ) (bs : List ℕ) (x : ℕ) → slice_get bs k ≡ Some x → drop k bs ≡ x ∷ drop (suc k) bs
drop_nth k [] x e = none_some x e
drop_nth zero (y ∷ bs) x e = let same : y ≡ x = cc in ap (λ z. z ∷ bs) same
drop_nth (suc k) (y ∷ bs) x e = drop_nth k bs x e

pub nth_drop : (k : ℕ) (bs : List ℕ) (x : ℕ) (xs : List ℕ) → drop k bs ≡ x ∷ xs → (slice_get bs k ≡ Some x) × (drop (suc k) bs ≡ xs)
nth_drop zero [] x xs e = let z : ◌≡◌ {A = ℕ} 0 1 = cc in absurd (omega arith)
nth_drop (suc k) [] x xs e = let z : ◌≡◌ {A = ℕ} 0 1 = cc in absurd (omega arith)
nth_drop zero (y ∷ bs) x xs e = let same : y ≡ x = cc in let rest : bs ≡ xs = cc in (ap Some same, rest)
nth_drop (suc k) (y ∷ bs) x xs e = nth_drop k bs x xs e

-- what stands at place k is what is left there begins with
pub stands_from : (bs : List ℕ) (k : ℕ) (xs rest : List ℕ) → drop k bs ≡ xs ++ rest → All (λ b. b < 256) xs → Stands bs k xs
stands_from bs k [] rest e h = tt
stands_from bs k (x ∷ xs) rest e h =
    let here = nth_drop k bs x (xs ++ rest) e in
    (byte_of (slice_get bs k) x here.0 h.0, stands_from bs (k + 1) xs rest (rw add-one here.1) h.1)

pub stands_drop : (bs : List ℕ) (k end : ℕ) (xs : List ℕ) → Stands bs k xs → end ≡ k + length xs → drop k bs ≡ xs ++ drop end bs
stands_drop bs k end [] h e = let same : k ≡ end = omega arith in ap (λ i. drop i bs) same
stands_drop bs k end (x ∷ xs) h e =
    drop_nth k bs x (byte_is (slice_get bs k) x h.0) ∙ ap (λ l. x ∷ l) (subst (λ i. drop i bs ≡ xs ++ drop end bs) (add-one k) (stands_drop bs (k + 1) end xs h.1 (omega arith)))
