-- Members of lists that are made of others, and how many members a list without repetition has.
use Rattle.std.proofs.Common.{◌≡◌, ℕ, suc, ◌*◌, ◌≤◌, Bool, true, ◌⊎◌, List, [], ◌∷◌, ◌++◌, map, length, filter, sym, refl, ap, ◌∙◌, subst, inl, inr, ⊎_elim, zero-le, suc-mul, zero-mul, arith, length-append}
use Rattle.std.specs.List.{flat_map}
use Rattle.std.proofs.lemmas.Bool.{both_ways, cond_both}
use Rattle.theory.specs.Members.{Member, Distinct, Included, Exactly}

module _ {A : Type 0} where
  pub member_same : (xs : List A) {x y : A} → x ≡ y → Member x xs → Member y xs
  member_same xs e m = subst (λ u. Member u xs) e m

  pub member_decided : Discrete A → (x : A) (xs : List A) → Dec (Member x xs)
  member_decided same x [] = no (λ m. m)
  member_decided same x (y ∷ ys) = either (same y x) (member_decided same x ys)
    where
      either : Dec (y ≡ x) → Dec (Member x ys) → Dec ((y ≡ x) ⊎ Member x ys)
      either (yes e) d = yes (inl e)
      either (no n) (yes m) = yes (inr m)
      either (no n) (no k) = no (⊎_elim n k)

  -- a list with a member is one longer than some list of the others
  removed : (x : A) (ys : List A) → Member x ys →
      (zs : List A) × (length ys ≡ suc (length zs)) × ((z : A) → Member z ys → (x ≡ z) ⊎ Member z zs)
  removed x [] m = absurd m
  removed x (y ∷ ys) (inl e) = (ys, refl, λ z. ⊎_elim (λ f. inl (sym e ∙ f)) inr)
  removed x (y ∷ ys) (inr m) =
      let r = removed x ys m in
      (y ∷ r.0, ap suc r.1, λ z. ⊎_elim (λ f. inr (inl f)) (λ k. ⊎_elim inl (λ j. inr (inr j)) (r.2 z k)))

  -- the pigeonhole principle
  pub pigeonhole : (xs ys : List A) → Distinct xs → Included xs ys → length xs ≤ length ys
  pigeonhole [] ys d into = zero-le
  pigeonhole (x ∷ xs) ys d into =
      let r = removed x ys (into x (inl refl)) in
      let others : Included xs r.0 =
      λ z m. ⊎_elim (λ e. absurd (d.0 (member_same xs (sym e) m))) (λ k. k) (r.2 z (into z (inr m))) in
      let shorter = pigeonhole xs r.0 d.1 others in
      omega (arith, r.1)

  -- how many elements there are is well defined: lists of the same elements without repetition are as long
  pub same_count : (xs ys : List A) → Distinct xs → Distinct ys → Included xs ys → Included ys xs → length xs ≡ length ys
  same_count xs ys d e into back = omega (arith, pigeonhole xs ys d into, pigeonhole ys xs e back)

  pub count_unique : {P : A → Type 0} {xs ys : List A} → Distinct xs → Distinct ys → Exactly P xs → Exactly P ys → length xs ≡ length ys
  count_unique {xs = xs} {ys = ys} d e this that =
      same_count xs ys d e (λ x m. that.complete x (this.sound x m)) (λ x m. this.complete x (that.sound x m))

  pub member_left : (xs ys : List A) (z : A) → Member z xs → Member z (xs ++ ys)
  member_left [] ys z m = absurd m
  member_left (x ∷ xs) ys z (inl e) = inl e
  member_left (x ∷ xs) ys z (inr m) = inr (member_left xs ys z m)

  pub member_right : (xs ys : List A) (z : A) → Member z ys → Member z (xs ++ ys)
  member_right [] ys z m = m
  member_right (x ∷ xs) ys z m = inr (member_right xs ys z m)

  pub member_either : (xs ys : List A) (z : A) → Member z (xs ++ ys) → Member z xs ⊎ Member z ys
  member_either [] ys z m = inr m
  member_either (x ∷ xs) ys z (inl e) = inl (inl e)
  member_either (x ∷ xs) ys z (inr m) = ⊎_elim (λ k. inl (inr k)) inr (member_either xs ys z m)

  pub distinct_append : (xs ys : List A) → Distinct xs → Distinct ys → ((z : A) → Member z xs → Member z ys → ⊥) → Distinct (xs ++ ys)
  distinct_append [] ys d e apart = e
  distinct_append (x ∷ xs) ys d e apart =
      (λ m. ⊎_elim d.0 (apart x (inl refl)) (member_either xs ys x m), distinct_append xs ys d.1 e (λ z m. apart z (inr m)))

-- what a test keeps of a list
module _ {A : Type 0} (p : A → Bool) where
  kept_member : (xs : List A) (z : A) → Member z xs → p z ≡ true → Member z (filter p xs)
  kept_member [] z m t = absurd m
  kept_member (x ∷ xs) z (inl e) t =
      let k = filter p xs in
      cond_both (p x) (x ∷ k) k (Member z) (λ _. inl e) (λ n. absurd (both_ways (p x) n (ap p e ∙ t)))
  kept_member (x ∷ xs) z (inr m) t =
      let k = filter p xs in
      let later = kept_member xs z m t in
      cond_both (p x) (x ∷ k) k (Member z) (λ _. inr later) (λ _. later)

  kept_from : (xs : List A) (z : A) → Member z (filter p xs) → Member z xs × (p z ≡ true)
  kept_from [] z m = absurd m
  kept_from (x ∷ xs) z m =
      let k = filter p xs in
      let later : Member z k → Member z (x ∷ xs) × (p z ≡ true) = λ j. let r = kept_from xs z j in (inr r.0, r.1) in
      cond_both (p x) (x ∷ k) k (λ l. Member z l → Member z (x ∷ xs) × (p z ≡ true))
      (λ t. ⊎_elim (λ e. (inl e, ap p (sym e) ∙ t)) later) (λ _. later) m

  -- exactly the members that pass
  pub kept_exact : (xs : List A) → Exactly (λ z. Member z xs × (p z ≡ true)) (filter p xs)
  kept_exact xs = record { complete = λ z h. kept_member xs z h.0 h.1; sound = kept_from xs }

  pub distinct_kept : (xs : List A) → Distinct xs → Distinct (filter p xs)
  distinct_kept [] d = tt
  distinct_kept (x ∷ xs) d =
      let k = filter p xs in
      let later = distinct_kept xs d.1 in
      cond_both (p x) (x ∷ k) k Distinct (λ _. (λ m. d.0 (kept_from xs x m).0, later)) (λ _. later)

-- the members of a list's image
module _ {A B : Type 0} (f : A → B) where
  pub member_map : (xs : List A) (x : A) → Member x xs → Member (f x) (map f xs)
  member_map [] x m = absurd m
  member_map (y ∷ ys) x (inl e) = inl (ap f e)
  member_map (y ∷ ys) x (inr m) = inr (member_map ys x m)

  pub map_from : (xs : List A) (z : B) → Member z (map f xs) → (x : A) × Member x xs × (f x ≡ z)
  map_from [] z m = absurd m
  map_from (x ∷ xs) z (inl e) = (x, inl refl, e)
  map_from (x ∷ xs) z (inr m) = let r = map_from xs z m in (r.0, inr r.1, r.2)

  -- f takes no two members to one
  pub distinct_map : (xs : List A) → ((x y : A) → Member x xs → Member y xs → f x ≡ f y → x ≡ y) → Distinct xs → Distinct (map f xs)
  distinct_map [] one d = tt
  distinct_map (x ∷ xs) one d = (away, distinct_map xs (λ u v m k. one u v (inr m) (inr k)) d.1)
    where
      away : Member (f x) (map f xs) → ⊥
      away m = let (u, k, e) = map_from xs (f x) m in d.0 (member_same xs (one u x (inr k) (inl refl) e) k)

-- the members of lists in a row
module _ {A B : Type 0} (f : A → List B) where
  pub member_joined : (xs : List A) (x : A) (z : B) → Member x xs → Member z (f x) → Member z (flat_map f xs)
  member_joined [] x z m k = absurd m
  member_joined (y ∷ ys) x z (inl e) k = member_left (f y) (flat_map f ys) z (subst (λ u. Member z (f u)) (sym e) k)
  member_joined (y ∷ ys) x z (inr m) k = member_right (f y) (flat_map f ys) z (member_joined ys x z m k)

  pub joined_from : (xs : List A) (z : B) → Member z (flat_map f xs) → (x : A) × Member x xs × Member z (f x)
  joined_from [] z m = absurd m
  joined_from (x ∷ xs) z m =
      ⊎_elim (λ k. (x, inl refl, k)) (λ k. let r = joined_from xs z k in (r.0, inr r.1, r.2)) (member_either (f x) (flat_map f xs) z m)

  -- no element stands in two of the lists
  pub distinct_joined : (xs : List A) → Distinct xs → ((x : A) → Distinct (f x)) →
      ((x y : A) (z : B) → Member z (f x) → Member z (f y) → x ≡ y) → Distinct (flat_map f xs)
  distinct_joined [] d each one = tt
  distinct_joined (x ∷ xs) d each one = distinct_append (f x) (flat_map f xs) (each x) (distinct_joined xs d.1 each one) apart
    where
      apart : (z : B) → Member z (f x) → Member z (flat_map f xs) → ⊥
      apart z m k = let (u, i, j) = joined_from xs z k in d.0 (member_same xs (one u x z j m) i)

  pub length_joined : (xs : List A) (n : ℕ) → ((x : A) → length (f x) ≡ n) → length (flat_map f xs) ≡ length xs * n
  length_joined [] n each = sym (zero-mul n)
  length_joined (x ∷ xs) n each =
      omega (arith, length-append (f x) (flat_map f xs), each x, length_joined xs n each, suc-mul (length xs) n)
