-- States written one after the other, 32 bytes each.
use Rattle.std.proofs.Common.{◌≡◌, ℕ, zero, suc, ◌+◌, ◌*◌, ◌/◌, ◌%◌, ◌<◌, ◌≤◌, false, List, [], ◌∷◌, ◌++◌, length, get_or, take, drop, sym, refl, ap, ◌∙◌, subst, not-suc-le-zero, arith}
use Rattle.std.proofs.lemmas.List.{length-append, length-map, get_or-map, take_at, drop_at, drop-drop, same_lists}
use Rattle.std.proofs.lemmas.Bool.{or_from, eq-eqb, ne_eqb, le-ltb, not_from_true}
use Rattle.std.specs.List.{flat_map, AllByRecursion as All}
use Rattle.theory.specs.Enumerations.{below}
use Rattle.theory.proofs.Enumerations.{length_below}
use Rattle.units.specs.Evidence.{states_in, wrong_size}
use Rattle.units.proofs.Listed.{below_at}

abbrev pub bytes_of : List (List ℕ) → List ℕ
bytes_of ss = flat_map (λ s. s) ss

-- each is as long as a state
abbrev pub Long : List (List ℕ) → Type 0
Long ss = All (λ s. length s ≡ 32) ss

pub length_bytes : (ss : List (List ℕ)) → Long ss → length (bytes_of ss) ≡ 32 * length ss
length_bytes [] h = refl
length_bytes (s ∷ ss) h = omega (arith, length-append s (bytes_of ss), h.0, length_bytes ss h.1)

-- the state that stands at its place
piece : (ss : List (List ℕ)) (k : ℕ) (d : List ℕ) → Long ss → k < length ss → take 32 (drop (32 * k) (bytes_of ss)) ≡ get_or ss k d
piece [] k d h l = absurd (not-suc-le-zero l)
piece (s ∷ ss) zero d h l = take_at s (bytes_of ss) 32 h.0
piece (s ∷ ss) (suc k) d h l =
    let more : 32 * suc k ≡ 32 + 32 * k = omega arith in
    ap (λ n. take 32 (drop n (s ++ bytes_of ss))) more ∙
    ap (take 32) (sym (drop-drop (32 * k) 32 (s ++ bytes_of ss)) ∙ ap (drop (32 * k)) (drop_at s (bytes_of ss) 32 h.0)) ∙ piece ss k d h.1 (omega arith)

pub states_back : (ss : List (List ℕ)) → Long ss → states_in (bytes_of ss) ≡ ss
states_back ss h =
    let many : length (bytes_of ss) / 32 ≡ length ss = omega (arith, length_bytes ss h) in
    same_lists (states_in (bytes_of ss)) ss (length-map (below (length (bytes_of ss) / 32)) at ∙ length_below (length (bytes_of ss) / 32) ∙ many)
    (λ k d l.
    let less : k < length (bytes_of ss) / 32 = subst (λ n. k < n) (length-map (below (length (bytes_of ss) / 32)) at ∙ length_below (length (bytes_of ss) / 32)) l in
    get_or-map at (below (length (bytes_of ss) / 32)) k 0 d (subst (λ n. k < n) (sym (length_below (length (bytes_of ss) / 32))) less) ∙ ap at (below_at (length (bytes_of ss) / 32) k less) ∙
    piece ss k d h (subst (λ n. k < n) many less))
  where
    at : ℕ → List ℕ
    at i = take 32 (drop (32 * i) (bytes_of ss))

pub right_size : (ss : List (List ℕ)) → Long ss → 1 ≤ length ss → length ss ≤ 2048 → wrong_size (bytes_of ss) ≡ false
right_size ss h some few =
    let long = length_bytes ss h in
    let n = length (bytes_of ss) in
    let whole : n % 32 ≡ 0 = omega (arith, long) in
    let there : n ≡ 0 → ⊥ = omega (arith, long) in
    let fits : n / 32 ≤ 2048 = omega (arith, long) in
    or_from _ _ (or_from _ _ (not_from_true _ (eq-eqb (n % 32) 0 whole)) (ne_eqb n 0 there)) (le-ltb 2048 (n / 32) fits)
