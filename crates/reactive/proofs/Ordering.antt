-- Finitely many things on which an acyclic relation can be decided can be put into an order in which none stands in the
-- relation to a later one.
use Rattle.std.proofs.Common.{◌≡◌, ℕ, zero, suc, ◌+◌, ◌≤◌, ◌⊎◌, List, [], ◌∷◌, length, sym, refl, ap, ◌∙◌, subst, inl, inr, ⊎_elim, not-suc-le-zero, arith}
use Rattle.theory.specs.Members.{Member, Distinct, Included}
use Rattle.theory.proofs.Members.{pigeonhole}
use Rattle.reactive.specs.Reactive.{Plus, Plus.one, Plus.more, Acyclic}

module _ {A : Type 0} (R : A → A → Type 0) where
  pub plus_on : (x y z : A) → Plus R x y → Plus R y z → Plus R x z
  plus_on x y z (one r) q = more r q
  plus_on x z u (more {y = y} r p) q = more r (plus_on y z u p q)

  pub plus_end : (x y z : A) → Plus R x y → R y z → Plus R x z
  plus_end x y z p r = plus_on x y z p (one r)

  -- none stands in the relation to a later one
  abbrev pub Rising : List A → Type 0
  Rising [] = Unit {0}
  Rising (x ∷ later) = ((y : A) → Member y later → R x y → ⊥) × Rising later

  -- a list without x, the rest of ys
  record Without (x : A) (ys : List A) : Type 0 where
    rest : List A
    shorter : length ys ≡ suc (length rest)
    others : (z : A) → Member z ys → (x ≡ z) ⊎ Member z rest
    within : (z : A) → Member z rest → Member z ys
    distinct : Distinct rest
    gone : Member x rest → ⊥

  without : (x : A) (ys : List A) → Member x ys → Distinct ys → Without x ys
  without x [] m d = absurd m
  without x (y ∷ ys) (inl e) d =
      record {
        rest = ys;
        shorter = refl;
        others = λ z. ⊎_elim (λ f. inl (sym e ∙ f)) inr;
        within = λ z k. inr k;
        distinct = d.1;
        gone = λ k. d.0 (subst (λ w. Member w ys) (sym e) k);
      }
  without x (y ∷ ys) (inr m) d =
      let r = without x ys m d.1 in
      record {
        rest = y ∷ r.rest;
        shorter = ap suc r.shorter;
        others = λ z. ⊎_elim (λ f. inr (inl f)) (λ k. ⊎_elim inl (λ j. inr (inr j)) (r.others z k));
        within = λ z. ⊎_elim inl (λ k. inr (r.within z k));
        distinct = (λ k. d.0 (r.within y k), r.distinct);
        gone = ⊎_elim (λ e. d.0 (subst (λ w. Member w ys) (sym e) m)) r.gone;
      }

  module _ (decided : (x y : A) → Dec (R x y)) (acyclic : Acyclic R) where
    some_of : (x : A) (xs : List A) → ((y : A) × Member y xs × R x y) ⊎ ((y : A) → Member y xs → R x y → ⊥)
    some_of x [] = inr (λ y k. absurd k)
    some_of x (z ∷ zs) = go (decided x z) (some_of x zs)
      where
        go : Dec (R x z) → ((y : A) × Member y zs × R x y) ⊎ ((y : A) → Member y zs → R x y → ⊥) →
            ((y : A) × Member y (z ∷ zs) × R x y) ⊎ ((y : A) → Member y (z ∷ zs) → R x y → ⊥)
        go (yes h) rest = inl (z, inl refl, h)
        go (no n) (inl (y, k, h)) = inl (y, inr k, h)
        go (no n) (inr none) = inr (λ y. ⊎_elim (λ e h. n (subst (R x) (sym e) h)) (none y))

    -- one that stands in the relation to none of the list
    abbrev Last : List A → Type 0
    Last xs = (x : A) × Member x xs × ((y : A) → Member y xs → R x y → ⊥)

    -- from x, to which all of a path lead, one goes on for so long
    abbrev Search : ℕ → List A → Type 0
    Search fuel xs = (x : A) (path : List A) → Member x xs → Included path xs → Distinct path → ((y : A) → Member y path → Plus R y x) → length xs ≤ length path + fuel → Last xs

    module _ (xs : List A) (x : A) (path : List A) (k : Member x xs) (within : Included path xs) (leads : (y : A) → Member y path → Plus R y x) where
      fresh : Member x path → ⊥
      fresh m = let p = leads x m in acyclic x x p p

      longer : Included (x ∷ path) xs
      longer y = ⊎_elim (λ e. subst (λ w. Member w xs) e k) (within y)

      further : (y : A) → R x y → (z : A) → Member z (x ∷ path) → Plus R z y
      further y h z = ⊎_elim (λ e. one (subst (λ w. R w y) e h)) (λ j. plus_end z x y (leads z j) h)

    last_from : (fuel : ℕ) (xs : List A) → Search fuel xs
    last_from zero xs x path k within once leads far = stop (some_of x xs)
      where
        stop : ((y : A) × Member y xs × R x y) ⊎ ((y : A) → Member y xs → R x y → ⊥) → Last xs
        stop (inr none) = (x, k, none)
        stop (inl found) = absurd (omega (arith, pigeonhole (x ∷ path) xs (fresh xs x path k within leads, once) (longer xs x path k within leads)))
    last_from (suc fuel) xs x path k within once leads far = go (last_from fuel xs) (some_of x xs)
      where
        go : Search fuel xs → ((y : A) × Member y xs × R x y) ⊎ ((y : A) → Member y xs → R x y → ⊥) → Last xs
        go on (inr none) = (x, k, none)
        go on (inl (y, m, h)) =
            on y (x ∷ path) m (longer xs x path k within leads) (fresh xs x path k within leads, once) (further xs x path k within leads y h) (omega arith)

    last : (x : A) (xs : List A) → Last (x ∷ xs)
    last x xs = last_from (length (x ∷ xs)) (x ∷ xs) x [] (inl refl) (λ y k. absurd k) tt (λ y k. absurd k) (omega arith)

    -- the list in such an order
    pub record Ordered (xs : List A) : Type 0 where
      pub order : List A
      pub there : (x : A) → Member x xs → Member x order
      pub back : (x : A) → Member x order → Member x xs
      pub distinct : Distinct order
      pub rising : Rising order

    ordered_by : (n : ℕ) (xs : List A) → length xs ≤ n → Distinct xs → Ordered xs
    ordered_by n [] h d = record { order = []; there = λ x k. k; back = λ x k. k; distinct = tt; rising = tt }
    ordered_by zero (x ∷ xs) h d = absurd (not-suc-le-zero h)
    ordered_by (suc n) (x ∷ xs) h d = from (ordered_by n) (last x xs)
      where
        from : ((ys : List A) → length ys ≤ n → Distinct ys → Ordered ys) → Last (x ∷ xs) → Ordered (x ∷ xs)
        from shorter (y, k, none) =
            let r = without y (x ∷ xs) k d in
            let o = shorter r.rest (omega (arith, r.shorter)) r.distinct in
            record {
              order = y ∷ o.order;
              there = λ z m. ⊎_elim inl (λ j. inr (o.there z j)) (r.others z m);
              back = λ z. ⊎_elim (λ e. subst (λ w. Member w (x ∷ xs)) e k) (λ j. r.within z (o.back z j));
              distinct = (λ j. r.gone (o.back y j), o.distinct);
              rising = (λ z j. none z (r.within z (o.back z j)), o.rising);
            }

    pub ordered : (xs : List A) → Distinct xs → Ordered xs
    ordered xs = ordered_by (length xs) xs (omega arith)
