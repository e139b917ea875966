-- Tests over lists, and the list of all states.
use Rattle.std.proofs.Common.{◌≡◌, ℕ, zero, suc, ◌<◌, ◌≤◌, Bool, true, false, eqb, ◌⊎◌, List, [], ◌∷◌, map, length, get_or, sym, refl, ap, ◌∙◌, subst, ap₂, inl, inr, ⊎_elim, le_of_suc-le-suc, not-suc-le-zero, zero-add, arith}
use Rattle.std.proofs.lemmas.List.FromFn.{get_or-range_with_len}
use Rattle.std.proofs.lemmas.List.{length-map, get_or-map}
use Rattle.std.proofs.lemmas.Bool.{and_from, and_parts, or_left, or_right, or_cases, eq-eqb, eqb-true, both_ways, cases_Bool}
use Rattle.model.specs.Meanings.{OutlineFacts}
use Rattle.model.specs.States.{value, is_state}
use Rattle.model.proofs.States.{state_parts, state_from}
use Rattle.theory.specs.Enumerations.{below}
use Rattle.theory.specs.Members.{Member, Exactly}
use Rattle.theory.proofs.Enumerations.{ranges_exact, length_below}
use Rattle.units.specs.Counting.{any, equal_lists}
use Rattle.units.specs.Evidence.{all_states, is_listed}

pub any_from : {X : Type 0} (p : X → Bool) (xs : List X) (x : X) → Member x xs → p x ≡ true → any p xs ≡ true
any_from p [] x h k = absurd h
any_from p (y ∷ ys) x (inl e) k = or_left (p y) (any p ys) (ap p e ∙ k)
any_from p (y ∷ ys) x (inr h) k = or_right (p y) (any p ys) (any_from p ys x h k)

pub any_parts : {X : Type 0} (p : X → Bool) (xs : List X) → any p xs ≡ true → (x : X) × Member x xs × (p x ≡ true)
any_parts p [] h = absurd (both_ways false refl h)
any_parts {X} p (y ∷ ys) h = go (any_parts p ys) (or_cases (p y) (any p ys) h)
  where
    go : (any p ys ≡ true → (x : X) × Member x ys × (p x ≡ true)) → (p y ≡ true) ⊎ (any p ys ≡ true) → (x : X) × Member x (y ∷ ys) × (p x ≡ true)
    go rest (inl e) = (y, inl refl, e)
    go rest (inr e) = let k = rest e in (k.0, inr k.1, k.2)

-- where none passes, each fails
pub none_passes : {X : Type 0} (p : X → Bool) (xs : List X) (x : X) → any p xs ≡ false → Member x xs → p x ≡ false
none_passes p xs x h k = ⊎_elim (λ e. absurd (both_ways (any p xs) h (any_from p xs x k e))) (λ e. e) (cases_Bool (p x))

-- where each fails, none passes
pub all_fail : {X : Type 0} (p : X → Bool) (xs : List X) → ((x : X) → Member x xs → p x ≡ false) → any p xs ≡ false
all_fail p xs f = ⊎_elim (λ e. let k = any_parts p xs e in absurd (both_ways (p k.0) (f k.0 k.1) k.2)) (λ e. e) (cases_Bool (any p xs))

pub equal_lists_parts : (s t : List ℕ) → equal_lists s t ≡ true → s ≡ t
equal_lists_parts [] [] h = refl
equal_lists_parts [] (y ∷ ys) h = absurd (both_ways false refl h)
equal_lists_parts (x ∷ xs) [] h = absurd (both_ways false refl h)
equal_lists_parts (x ∷ xs) (y ∷ ys) h =
    let both = and_parts (eqb x y) (equal_lists xs ys) h in
    ap₂ (λ z zs. z ∷ zs) (eqb-true x y both.0) (equal_lists_parts xs ys both.1)

pub equal_lists_refl : (s : List ℕ) → equal_lists s s ≡ true
equal_lists_refl [] = refl
equal_lists_refl (x ∷ xs) = and_from (eqb x x) (equal_lists xs xs) (eq-eqb x x refl) (equal_lists_refl xs)

pub lists_parts : (ss : List (List ℕ)) (t : List ℕ) → is_listed ss t ≡ true → Member t ss
lists_parts [] t h = absurd (both_ways false refl h)
lists_parts (s ∷ ss) t h = go (lists_parts ss t) (or_cases (equal_lists t s) (is_listed ss t) h)
  where
    go : (is_listed ss t ≡ true → Member t ss) → (equal_lists t s ≡ true) ⊎ (is_listed ss t ≡ true) → Member t (s ∷ ss)
    go rest (inl e) = inl (sym (equal_lists_parts t s e))
    go rest (inr e) = inr (rest e)

pub lists_from : (ss : List (List ℕ)) (t : List ℕ) → Member t ss → is_listed ss t ≡ true
lists_from ss t h = any_from (equal_lists t) ss t h (equal_lists_refl t)

-- members by index

pub member_at : {X : Type 0} (xs : List X) (i : ℕ) (d : X) → i < length xs → Member (get_or xs i d) xs
member_at [] i d h = absurd (not-suc-le-zero h)
member_at (x ∷ xs) zero d h = inl refl
member_at (x ∷ xs) (suc i) d h = inr (member_at xs i d (le_of_suc-le-suc h))

pub index_of : {X : Type 0} (xs : List X) (x d : X) → Member x xs → (i : ℕ) × (i < length xs) × (get_or xs i d ≡ x)
index_of [] x d h = absurd h
index_of (y ∷ ys) x d (inl e) = (0, omega arith, e)
index_of (y ∷ ys) x d (inr h) = let k = index_of ys x d h in (suc k.0, omega (arith, k.1), k.2)

-- the list of all states

all_tops : (o : OutlineFacts) → length (map o.top (below 32)) ≡ 32
all_tops o = length-map (below 32) o.top ∙ length_below 32

pub below_at : (n i : ℕ) → i < n → get_or (below n) i 0 ≡ i
unfolding below
below_at n i h = get_or-range_with_len 0 n i 0 h ∙ zero-add i

top_at : (o : OutlineFacts) (i : ℕ) → i < 32 → get_or (map o.top (below 32)) i 0 ≡ o.top i
top_at o i h = get_or-map o.top (below 32) i 0 0 (subst (λ n. i < n) (sym (length_below 32)) h) ∙ ap o.top (below_at 32 i h)

pub all_states_exact : (o : OutlineFacts) → Exactly (λ s. is_state o s ≡ true) (all_states o)
all_states_exact o = record {
  complete = λ s h.
      let parts = state_parts o s h in
      (ranges_exact (map o.top (below 32))).complete s (record { long = parts.long ∙ sym (all_tops o); under = λ i l. subst (λ t. value s i ≤ t) (sym (top_at o i (subst (λ n. i < n) (all_tops o) l))) (parts.within i) });
  sound = λ s h.
      let w = (ranges_exact (map o.top (below 32))).sound s h in
      state_from o s (w.long ∙ all_tops o) (λ n l. subst (λ t. value s n ≤ t) (top_at o n l) (w.under n (subst (λ k. n < k) (sym (all_tops o)) l)));
}
