-- Bytes that write states: they write them in one way, and all that have a right size do.
use Rattle.std.proofs.Common.{◌≡◌, ℕ, zero, suc, ◌*◌, ◌/◌, ◌%◌, ◌≤◌, false, not, ◌||◌, eqb, ltb, List, [], ◌∷◌, ◌++◌, length, take, drop, sym, refl, ap, ◌∙◌, subst, inl, inr, arith}
use Rattle.std.proofs.lemmas.List.{length-take-le, length-drop, take-append-drop}
use Rattle.std.proofs.lemmas.Bool.{or_parts, eqb-true, eqb-false, ltb-false, not-false}
use Rattle.std.specs.List.{AllByRecursion as All}
use Rattle.theory.specs.Members.{Member}
use Rattle.units.specs.Evidence.{states_in, wrong_size}
use Rattle.units.proofs.Written.{bytes_of, Long, states_back, right_size}
use Rattle.life.specs.Subject.{WritesStates}

pub all_members : {X : Type 0} (P : X → Type 0) (xs : List X) → ((x : X) → Member x xs → P x) → All P xs
all_members P [] f = tt
all_members P (x ∷ xs) f = (f x (inl refl), all_members P xs (λ y h. f y (inr h)))

each_long : (ss : List (List ℕ)) → Long ss → (s : List ℕ) → Member s ss → length s ≡ 32
each_long [] h s k = absurd k
each_long (t ∷ ss) h s (inl e) = subst (λ x. length x ≡ 32) e h.0
each_long (t ∷ ss) h s (inr k) = each_long ss h.1 s k

module _ (bytes : List ℕ) (ss : List (List ℕ)) (w : WritesStates bytes ss) where
  long : Long ss
  long = all_members (λ s. length s ≡ 32) ss w.whole

  pub writes_back : states_in bytes ≡ ss
  writes_back = ap states_in w.written ∙ states_back ss long

  pub writes_right : wrong_size bytes ≡ false
  writes_right = ap wrong_size w.written ∙ right_size ss long w.some w.few

-- pieces of 32 bytes each
pieces : ℕ → List ℕ → List (List ℕ)
pieces zero bs = []
pieces (suc n) bs = take 32 bs ∷ pieces n (drop 32 bs)

pieces_many : (n : ℕ) (bs : List ℕ) → length (pieces n bs) ≡ n
unfolding pieces
pieces_many zero bs = refl
pieces_many (suc n) bs = ap suc (pieces_many n (drop 32 bs))

pieces_long : (n : ℕ) (bs : List ℕ) → length bs ≡ 32 * n → Long (pieces n bs)
unfolding pieces
pieces_long zero bs e = tt
pieces_long (suc n) bs e = (length-take-le 32 bs (omega (arith, e)), pieces_long n (drop 32 bs) (omega (arith, e, length-drop 32 bs)))

nothing_left : (bs : List ℕ) → length bs ≡ 0 → bs ≡ []
nothing_left [] e = refl
nothing_left (b ∷ bs) e = absurd (omega (arith, e))

pieces_written : (n : ℕ) (bs : List ℕ) → length bs ≡ 32 * n → bs ≡ bytes_of (pieces n bs)
unfolding pieces
pieces_written zero bs e = nothing_left bs e
pieces_written (suc n) bs e = sym (take-append-drop 32 bs) ∙ ap (λ r. take 32 bs ++ r) (pieces_written n (drop 32 bs) (omega (arith, e, length-drop 32 bs)))

pub right_writes : (bytes : List ℕ) → wrong_size bytes ≡ false → WritesStates bytes (states_in bytes)
right_writes bytes h =
    let n = length bytes / 32 in
    let one = or_parts (not (eqb (length bytes % 32) 0) || eqb (length bytes) 0) (ltb 2048 n) h in
    let two = or_parts (not (eqb (length bytes % 32) 0)) (eqb (length bytes) 0) one.0 in
    let whole : length bytes % 32 ≡ 0 = eqb-true (length bytes % 32) 0 (not-false _ two.0) in
    let some : length bytes ≡ 0 → ⊥ = eqb-false (length bytes) 0 two.1 in
    let few : n ≤ 2048 = ltb-false 2048 n one.1 in
    let size : length bytes ≡ 32 * n = omega arith in
    let ss = pieces n bytes in
    let written : WritesStates bytes ss = record {
      written = pieces_written n bytes size;
      whole = each_long ss (pieces_long n bytes size);
      some = omega (arith, pieces_many n bytes);
      few = omega (arith, pieces_many n bytes);
    } in
    subst (WritesStates bytes) (sym (writes_back bytes ss written)) written
