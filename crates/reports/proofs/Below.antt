-- What is picked of the numbers below n, against `below` and `mask_below`.
use Rattle.std.proofs.Common.{◌≡◌, ℕ, ℤ, zero, suc, ◌+◌, ◌*◌, ◌%◌, ◌^◌, ◌<◌, ◌≤◌, Bool, true, false, cond, List, [], ◌∷◌, ◌++◌, Option, Some, None, option_map, filter, filter_map, map, sum_by, map-id, sym, refl, ap, ◌∙◌, mod-eq_of_lt, one-mul, pow-suc, arith}
use Rattle.std.proofs.lemmas.List.{map-append}
use Rattle.std.proofs.lemmas.List.Elements.{filter-append, filter_map-append}
use Rattle.std.proofs.lemmas.List.FromFn.{map-range_with_len_more}
use Rattle.std.proofs.lemmas.List.Sums.{sum_by-append}
use Rattle.std.specs.List.{range_with_len, cons_option}
use lib.Pow.{pow-lt}
use Rattle.model.specs.Meanings.{OutlineFacts, ChoiceFacts}
use Rattle.model.specs.States.{value}
use Rattle.model.specs.declared.Kind.{Kind}
use Rattle.model.specs.declared.Question.{Question}
use Rattle.reports.specs.Told.{below, mask_below, variable_of, variable_at, assignment_at}
use Rattle.reports.specs.declared.assignment.Assignment.{Assignment}
use Rattle.reports.specs.declared.facts.Variable.{Variable}

-- one number more
up : (n : ℕ) → range_with_len 0 (suc n) ≡ range_with_len 0 n ++ (n ∷ [])
up n =
    let on : suc n ≡ n + 1 = omega arith in
    ap (range_with_len 0) on ∙ sym (map-id (range_with_len 0 (n + 1))) ∙ map-range_with_len_more (λ k. k) 0 n n (omega arith) ∙ ap (λ l. l ++ (n ∷ [])) (map-id (range_with_len 0 n))

-- where at each number h picks what f lists, `below` lists all that is picked
picked : {X : Type 0} (h : ℕ → Option X) (f : ℕ → List X) → ((k : ℕ) → cons_option (h k) [] ≡ f k) → (n : ℕ) → filter_map h (range_with_len 0 n) ≡ below f n
unfolding below
picked h f is zero = refl
picked h f is (suc n) =
    ap (filter_map h) (up n) ∙ filter_map-append h (range_with_len 0 n) (n ∷ []) ∙ ap (λ l. l ++ cons_option (h n) []) (picked h f is n) ∙ ap (λ l. below f n ++ l) (is n)

module _ (o : OutlineFacts) where
  abbrev pub variable_found : ℕ → Option Variable
  variable_found n = option_map (λ k. record { name = n; kind = k; top = o.top n }) (o.kind n)

  one : (n t : ℕ) (k : Option Kind) → cons_option (option_map (λ k. record { name = n; kind = k; top = t }) k) [] ≡ variable_of n t k
  one n t None = refl
  one n t (Some k) = refl

  pub variables_below : (n : ℕ) → filter_map variable_found (range_with_len 0 n) ≡ below (variable_at o) n
  variables_below = picked variable_found (variable_at o) (λ n. one n (o.top n) (o.kind n))

module _ (o : OutlineFacts) (acts : ChoiceFacts) (q : Question (List ℕ)) where
  abbrev pub assigned : ℕ → Assignment ℤ
  assigned n = record { name = n; value = acts.gives q.round q.atom q.choice n (value q.old) (value q.new) }

  one_if : (b : Bool) (n : ℕ) → map assigned (cond b (n ∷ []) []) ≡ cond b (assigned n ∷ []) []
  one_if true n = refl
  one_if false n = refl

  -- what is assigned to the numbers below n that pass, where those pass that the atom controls
  pub assignments_below : (p : ℕ → Bool) → ((n : ℕ) → p n ≡ o.controls q.atom n) → (n : ℕ) → map assigned (filter p (range_with_len 0 n)) ≡ below (assignment_at o acts q) n
  unfolding below
  assignments_below p is zero = refl
  assignments_below p is (suc n) =
      ap (λ l. map assigned (filter p l)) (up n)
      ∙ ap (map assigned) (filter-append p (range_with_len 0 n) (n ∷ []))
      ∙ map-append assigned (filter p (range_with_len 0 n)) _
      ∙ ap (λ l. l ++ map assigned (cond (p n) (n ∷ []) [])) (assignments_below p is n)
      ∙ ap (λ l. below (assignment_at o acts q) n ++ l) (one_if (p n) n ∙ ap (λ b. cond b (assigned n ∷ []) []) (is n))

twice : (n : ℕ) → 2 ^ suc n ≡ 2 ^ n + 2 ^ n
twice n = rw pow-suc (omega arith)

-- a shifted one, as a number of 32 bits
abbrev pub bit : ℕ → ℕ
bit n = (1 * 2 ^ n) % 4294967296

bit_if : (b : Bool) (n : ℕ) → n < 32 → (sum_by bit (cond b (n ∷ []) []) ≡ cond b (2 ^ n) 0) × (cond b (2 ^ n) 0 ≤ 2 ^ n)
bit_if true n few =
    let is : bit n ≡ 2 ^ n = rw one-mul (mod-eq_of_lt (pow-lt few)) in
    (omega (arith, is), omega arith)
bit_if false n few = (refl, omega arith)

-- the bits of the numbers below n that pass are those of the mask, which has n bits
pub bits_below : (p : ℕ → Bool) (n : ℕ) → n ≤ 32 → (sum_by bit (filter p (range_with_len 0 n)) ≡ mask_below p n) × (mask_below p n < 2 ^ n)
unfolding mask_below
bits_below p zero few = (refl, omega arith)
bits_below p (suc n) few =
    let before = bits_below p n (omega arith) in
    let here = bit_if (p n) n (omega arith) in (
      ap (λ l. sum_by bit (filter p l)) (up n) ∙ ap (sum_by bit) (filter-append p (range_with_len 0 n) (n ∷ [])) ∙ sum_by-append bit (filter p (range_with_len 0 n)) _ ∙ ap (λ k. k + sum_by bit (cond (p n) (n ∷ []) [])) before.0 ∙ ap (λ k. mask_below p n + k) here.0,
      omega (arith, before.1, here.1, twice n),
    )
