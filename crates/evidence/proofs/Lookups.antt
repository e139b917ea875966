-- Looking for a state in the sorted indices of a list.
use Rattle.std.proofs.Common.{◌≡◌, ℕ, ◌<◌, ◌≤◌, true, false, List, ◌++◌, length, get_or, take, drop, take_all, is_ok, Ok, Err, Result, refl, sym, ap, ◌∙◌, subst, ⊎_elim, zero-add, arith}
use Rattle.std.proofs.lemmas.Bool.{cases_Bool, cases_lt}
use Rattle.std.proofs.lemmas.Cmp.{nat_list_cmp_total}
use Rattle.std.proofs.lemmas.List.{take-append-le, length-take-le, get_or-take, ext_get_or}
use Rattle.std.proofs.lemmas.List.FromFn.{length-range_with_len, get_or-range_with_len}
use Rattle.std.proofs.lemmas.List.Sorted.{All-permutation, Contains-permutation, searchable_from_sorted}
use Rattle.std.proofs.lemmas.Map.Lookups.{exact_bytes}
use Rattle.std.specs.Cmp.Lexicographic.{slice_cmp}
use Rattle.std.specs.List.{All, range_with_len}
use Rattle.std.specs.List.Sorted.{IsPermutation, IsSortedBy, IsBinarySearchResult, IsNonDecreasingBy, IsPartitionPoint, IsSearchInRange}
use Rattle.std.specs.Ordering.{nat_cmp, ordering_index, ordering_reverse}
use Rattle.std.specs.declared.cmp.Ordering.{Ordering}
use Rattle.std.specs.declared.cmp.Ordering.TheVariants.{Less, Equal, Greater}
use Rattle.model.specs.States.{nothing}
use Rattle.theory.specs.Members.{Member}
use Rattle.units.specs.Evidence.{is_listed}
use Rattle.units.proofs.Listed.{member_at, index_of, lists_parts, lists_from}
use Rattle.evidence.specs.Indices.{state_or_nothing, is_lower, IndexesStates}

-- a list compares equal with itself
itself : (t : List ℕ) → slice_cmp nat_cmp t t ≡ Equal
itself t = go (slice_cmp nat_cmp t t) (nat_list_cmp_total.antisymm t t)
  where
    go : (o : Ordering) → o ≡ ordering_reverse o → o ≡ Equal
    go Equal e = refl
    go Less e = let z : Less ≡ Greater = e in cc
    go Greater e = let z : Greater ≡ Less = e in cc

module _ (ss : List (List ℕ)) (indices : List ℕ) (t : List ℕ) (h : IndexesStates ss indices) where
  -- how the state at an index compares with the one that is looked for
  abbrev pub against : ℕ → Ordering
  against i = slice_cmp nat_cmp (state_or_nothing ss i) t

  inside : All (λ i. i < length ss) indices
  inside = All-permutation (λ i. i < length ss) (range_with_len 0 (length ss)) indices h.permutation (λ k d l.
      let low : k < length ss = subst (λ n. k < n) (length-range_with_len 0 (length ss)) l in
      subst (λ x. x < length ss) (sym (get_or-range_with_len 0 (length ss) k d low ∙ zero-add k)) low)

  found : (i : ℕ) → i < length indices → ((d : ℕ) → against (get_or indices i d) ≡ Equal) → is_listed ss t ≡ true
  found i l e =
      let same : state_or_nothing ss (get_or indices i 0) ≡ t = exact_bytes (state_or_nothing ss (get_or indices i 0)) t (e 0) in
      lists_from ss t (subst (λ x. Member x ss) same (member_at ss (get_or indices i 0) nothing (inside i 0 l)))

  rising : IsNonDecreasingBy (λ y. ordering_index (against y)) indices
  rising = searchable_from_sorted nat_list_cmp_total (state_or_nothing ss) indices t h.sorted

  absent : (i : ℕ) → IsPartitionPoint (λ y. against y ≡ Less) (λ y. against y ≡ Greater) indices i → is_listed ss t ≡ false
  absent i parts = ⊎_elim (λ there. absurd (none there)) (λ f. f) (cases_Bool (is_listed ss t))
    where
      none : is_listed ss t ≡ true → ⊥
      none there =
          let (j, low, e) = index_of ss t nothing (lists_parts ss t there) in
          let (k, l, at) = Contains-permutation (range_with_len 0 (length ss)) indices j h.permutation (j, subst (λ n. j < n) (sym (length-range_with_len 0 (length ss))) low, get_or-range_with_len 0 (length ss) j j low ∙ zero-add j) in
          let equal : against (get_or indices k j) ≡ Equal = ap (λ x. slice_cmp nat_cmp (state_or_nothing ss x) t) at ∙ ap (λ s. slice_cmp nat_cmp s t) e ∙ itself t in
          ⊎_elim (λ (b : k < i). let z : Equal ≡ Less = sym equal ∙ parts.0 k j (omega arith) b in cc) (λ (b : i ≤ k). let z : Equal ≡ Greater = sym equal ∙ parts.1 k j b l in cc) (cases_lt k i)

  pub looked_up : (r : Result ℕ ℕ) → IsSearchInRange r (length indices) → IsBinarySearchResult against indices r → is_ok r ≡ is_listed ss t
  looked_up (Ok i) l e = sym (found i l e)
  looked_up (Err i) l e = sym (absent i (e rising))

-- numbers from 0 on, the first ones sorted
pub indexed : (ss : List (List ℕ)) (all new : List ℕ) → length all ≡ 2048 → length ss ≤ 2048 → ((k : ℕ) → k < 2048 → get_or all k 0 ≡ k) →
    IsPermutation (take (length ss) all) new → length new ≡ length (take (length ss) all) → IsSortedBy (is_lower ss) new → IndexesStates ss (take (length ss) (new ++ drop (length ss) all))
indexed ss all new whole few each moved long sorted = subst (IndexesStates ss) (sym front) (record { permutation = subst (λ r. IsPermutation r new) same moved; sorted = sorted })
  where
    many : length (take (length ss) all) ≡ length ss
    many = length-take-le (length ss) all (omega arith)

    same : take (length ss) all ≡ range_with_len 0 (length ss)
    same = ext_get_or 0 (take (length ss) all) (range_with_len 0 (length ss)) (many ∙ sym (length-range_with_len 0 (length ss))) (λ k l.
        let low : k < length ss = subst (λ n. k < n) many l in
        get_or-take (length ss) all k 0 low ∙ each k (omega arith) ∙ sym (get_or-range_with_len 0 (length ss) k 0 low ∙ zero-add k))

    front : take (length ss) (new ++ drop (length ss) all) ≡ new
    front =
        let exact : length new ≡ length ss = long ∙ many in
        take-append-le (length ss) new (drop (length ss) all) (omega arith) ∙ take_all (length ss) new (omega arith)
