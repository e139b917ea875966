-- Renaming a module's variable to a name that is none gives a module.
use Rattle.std.proofs.Common.{◌≡◌, ℕ, cond, eqb, ◌⊎◌, ◌↔◌, ◌≢◌, ◌∷◌, map, sym, refl, ap, ◌∙◌, subst, inl, inr, ⊎_elim}
use Rattle.std.proofs.lemmas.Bool.{cases_eq, cond-true, cond-false, eq-eqb, ne_eqb}
use Rattle.theory.proofs.Members.{member_map}
use Rattle.reactive.specs.Operations.{renamed_set, renamed_types, values_before, renamed_atom, renamed_module}
use Rattle.reactive.specs.Reactive.{Variables, Valuation, Typed, Agree, Empty, Module, Controlled, Variable, Executable, IsDeclaration, IsAtom, Awaits, Plus, Plus.one, Plus.more, IsModule}
use Rattle.reactive.proofs.Same.{executable_same}

alike : {A : Type 0} → A ↔ A
alike = (λ h. h, λ h. h)

plus_map : {A B : Type 0} (R : A → A → Type 0) (S : B → B → Type 0) (f : A → B) → ((a b : A) → R a b → S (f a) (f b)) → (a b : A) → Plus R a b → Plus S (f a) (f b)
plus_map R S f h a b (one r) = one (h a b r)
plus_map R S f h a c (more {y = b} r p) = more (h a b r) (plus_map R S f h b c p)

module _ (x y : ℕ) where
  -- renamed sets

  set_map : (X Y : Variables) → ((n : ℕ) → X n → Y n) → (n : ℕ) → renamed_set x y X n → renamed_set x y Y n
  set_map X Y f n = ⊎_elim (λ h. inl (h.0, f x h.1)) (λ h. inr (h.0, h.1, f n h.2))

  set_or : (X Y : Variables) (n : ℕ) → (renamed_set x y X n ⊎ renamed_set x y Y n) ↔ renamed_set x y (λ k. X k ⊎ Y k) n
  set_or X Y n = (⊎_elim (set_map X (λ k. X k ⊎ Y k) (λ k. inl) n) (set_map Y (λ k. X k ⊎ Y k) (λ k. inr) n), back)
    where
      back : renamed_set x y (λ k. X k ⊎ Y k) n → renamed_set x y X n ⊎ renamed_set x y Y n
      back (inl h) = ⊎_elim (λ a. inl (inl (h.0, a))) (λ b. inr (inl (h.0, b))) h.1
      back (inr h) = ⊎_elim (λ a. inl (inr (h.0, h.1, a))) (λ b. inr (inr (h.0, h.1, b))) h.2

  -- a name in both was in both
  set_both : (X Y : Variables) (n : ℕ) → renamed_set x y X n → renamed_set x y Y n → (k : ℕ) × X k × Y k
  set_both X Y n (inl h) (inl k) = (x, h.1, k.1)
  set_both X Y n (inl h) (inr k) = absurd (k.1 h.0)
  set_both X Y n (inr h) (inl k) = absurd (h.1 k.0)
  set_both X Y n (inr h) (inr k) = (n, h.2, k.2)

  -- the name under which the module knew n
  known_as : ℕ → ℕ
  known_as n = cond (eqb n y) x n

  set_known : (X : Variables) (n : ℕ) → renamed_set x y X n → X (known_as n)
  unfolding known_as
  set_known X n (inl h) = subst X (sym (cond-true (eqb n y) x n (eq-eqb n y h.0))) h.1
  set_known X n (inr h) = subst X (sym (cond-false (eqb n y) x n (ne_eqb n y h.1))) h.2

  -- values

  abbrev before : Valuation → Valuation
  before = values_before x y

  before_old : (s : Valuation) (n : ℕ) → n ≡ x → before s n ≡ s y
  before_old s n e = cond-true (eqb n x) (s y) (s n) (eq-eqb n x e)

  before_other : (s : Valuation) (n : ℕ) → n ≢ x → before s n ≡ s n
  before_other s n d = cond-false (eqb n x) (s y) (s n) (ne_eqb n x d)

  -- what the module leads to, told of the new name
  after : Valuation → Valuation
  after s n = cond (eqb n y) (s x) (s n)

  after_new : (s : Valuation) (n : ℕ) → n ≡ y → after s n ≡ s x
  unfolding after
  after_new s n e = cond-true (eqb n y) (s x) (s n) (eq-eqb n y e)

  after_other : (s : Valuation) (n : ℕ) → n ≢ y → after s n ≡ s n
  unfolding after
  after_other s n d = cond-false (eqb n y) (s x) (s n) (ne_eqb n y d)

  module _ (X : Variables) (old : (n : ℕ) → X n → n ≢ y) where
    agree_before : (s t : Valuation) → Agree (renamed_set x y X) s t → Agree X (before s) (before t)
    agree_before s t same n h = ⊎_elim
        (λ e. before_old s n e ∙ same y (inl (refl, subst X e h)) ∙ sym (before_old t n e))
        (λ d. before_other s n d ∙ same n (inr (d, old n h, h)) ∙ sym (before_other t n d)) (cases_eq n x)

    undone : (t : Valuation) → Agree X t (before (after t))
    undone t n h = ⊎_elim
        (λ e. ap t e ∙ sym (after_new t y refl) ∙ sym (before_old (after t) n e))
        (λ d. sym (after_other t n (old n h)) ∙ sym (before_other (after t) n d)) (cases_eq n x)

    agree_after : (t u : Valuation) → Agree X (before t) u → Agree (renamed_set x y X) t (after u)
    agree_after t u same n (inl h) = ap t h.0 ∙ sym (before_old t x refl) ∙ same x h.1 ∙ sym (after_new u n h.0)
    agree_after t u same n (inr h) = sym (before_other t n h.0) ∙ same n h.2 ∙ sym (after_other u n h.1)

    module _ (types : ℕ → ℕ → Type 0) where
      typed_before : (s : Valuation) → Typed (renamed_types x y types) (renamed_set x y X) s → Typed types X (before s)
      typed_before s typed n h = ⊎_elim
          (λ e. subst (λ k. types k (before s n)) (sym e) (subst (types x) (sym (before_old s n e)) (new (typed y (inl (refl, subst X e h))))))
          (λ d. subst (types n) (sym (before_other s n d)) (same d (typed n (inr (d, old n h, h))))) (cases_eq n x)
        where
          new : renamed_types x y types y (s y) → types x (s y)
          new = ⊎_elim (λ k. k.1) (λ k. absurd (k.1 refl))

          same : n ≢ x → renamed_types x y types n (s n) → types n (s n)
          same d = ⊎_elim (λ k. absurd (old n h k.0)) (λ k. k.2)

      typed_after : (s : Valuation) → Typed types X (before s) → Typed (renamed_types x y types) (renamed_set x y X) s
      typed_after s typed n (inl h) = inl (h.0, subst (types x) (before_old s x refl ∙ ap s (sym h.0)) (typed x h.1))
      typed_after s typed n (inr h) = inr (h.0, h.1, subst (types n) (before_other s n h.0) (typed n h.2))

module _ (P : Module) (p : IsModule P) (x y : ℕ) (free : Variable P y → ⊥) where
  abbrev Q : Module
  Q = renamed_module P x y

  old_name : (n : ℕ) → Variable P n → n ≢ y
  old_name n v e = free (subst (Variable P) e v)

  executable_renamed : (X Y Z : Variables) (act : Valuation → Valuation → Valuation → Type 0) → ((n : ℕ) → X n → Variable P n) → ((n : ℕ) → Y n → Variable P n) → ((n : ℕ) → Z n → Variable P n) →
      Executable P.typed X Y Z act → Executable Q.typed (renamed_set x y X) (renamed_set x y Y) (renamed_set x y Z) (λ old new t. act (before x y old) (before x y new) (before x y t))
  executable_renamed X Y Z act xs ys zs runs =
      let xo : (n : ℕ) → X n → n ≢ y = λ n h. old_name n (xs n h) in
      let yo : (n : ℕ) → Y n → n ≢ y = λ n h. old_name n (ys n h) in
      let zo : (n : ℕ) → Z n → n ≢ y = λ n h. old_name n (zs n h) in
      record {
        concerned = λ old new t old' new' t' h k l a. runs.concerned _ _ _ _ _ _ (agree_before x y X xo old old' h) (agree_before x y Y yo new new' k) (agree_before x y Z zo t t' l) a;
        result = λ old new h k.
            let found = runs.result (before x y old) (before x y new) (typed_before x y X xo P.typed old h) (typed_before x y Y yo P.typed new k) in
            (after x y found.0, runs.concerned _ _ found.0 _ _ (before x y (after x y found.0)) (λ n _. refl) (λ n _. refl) (undone x y Z zo found.0) found.1);
        typed = λ old new t h k a.
            typed_after x y Z zo P.typed t (runs.typed (before x y old) (before x y new) (before x y t) (typed_before x y X xo P.typed old h) (typed_before x y Y yo P.typed new k) a);
        finite = λ old new h k.
            let few = runs.finite (before x y old) (before x y new) (typed_before x y X xo P.typed old h) (typed_before x y Y yo P.typed new k) in
            (map (after x y) few.0, λ t a. let found = few.1 (before x y t) a in (after x y found.0, member_map (after x y) few.0 found.0 found.1, agree_after x y Z zo t found.0 found.2));
      }

  -- the variables of the renamed module

  controlled_set : (n : ℕ) → Controlled Q n ↔ renamed_set x y (Controlled P) n
  controlled_set = set_or x y P.private P.interface

  variable_set : (n : ℕ) → Variable Q n ↔ renamed_set x y (Variable P) n
  variable_set n =
      let two = set_or x y (Controlled P) P.external n in (
        λ v. two.0 (⊎_elim (λ c. inl ((controlled_set n).0 c)) (λ e. inr e) v),
        λ h. ⊎_elim (λ c. inl ((controlled_set n).1 c)) (λ e. inr e) (two.1 h),
      )

  known : (X : Variables) → ((n : ℕ) → X n → Variable P n) → (n : ℕ) → renamed_set x y X n → Variable Q n
  known X xs n h = (variable_set n).1 (set_map x y X (Variable P) xs n h)

  declared : IsDeclaration Q
  declared =
      let it = p.declaration in
      record {
        finite = (y ∷ it.finite.0, λ n v. ⊎_elim (λ h. inl (sym h.0)) (λ h. inr (it.finite.1 n h.2)) ((variable_set n).0 v));
        private_or_interface = λ n h k. let (i, a, b) = set_both x y P.private P.interface n h k in it.private_or_interface i a b;
        controlled_or_external = λ n h k. let (i, a, b) = set_both x y (Controlled P) P.external n ((controlled_set n).0 h) k in it.controlled_or_external i a b;
      }

  atom_in : (i : P.Index) → IsAtom Q (renamed_atom (P.atom i) x y)
  atom_in i =
      let A = P.atom i in
      let it = p.atoms i in
      record {
        controls = known A.controls it.controls;
        reads = known A.reads it.reads;
        awaits = known A.awaits it.awaits;
        apart = λ n w c. let (k, a, b) = set_both x y A.awaits A.controls n w c in it.apart k a b;
        init =
            executable_same Q.typed Q.typed (renamed_set x y Empty) (renamed_set x y A.awaits) (renamed_set x y A.controls) Empty (renamed_set x y A.awaits) (renamed_set x y A.controls)
            (λ old new t. A.init (before x y new) (before x y t)) (λ old new t. A.init (before x y new) (before x y t))
            (λ n. (⊎_elim (λ h. h.1) (λ h. h.2), λ h. absurd h)) (λ n. alike) (λ n. alike) (λ n v h. alike) (λ n v h. alike) (λ n v h. alike) (λ old new t. alike)
            (executable_renamed Empty A.awaits A.controls (λ old. A.init) (λ n h. absurd h) it.awaits it.controls it.init);
        update = executable_renamed A.reads A.awaits A.controls A.update it.reads it.awaits it.controls it.update;
      }

  pub renamed_is_module : IsModule Q
  renamed_is_module =
      record {
        declaration = declared;
        finite = p.finite;
        atoms = atom_in;
        controls = λ n. (λ c. there n ((controlled_set n).0 c), λ h. back n h.0 h.1);
        one_controller = λ i j n h k. let (a, b, c) = set_both x y (P.atom i).controls (P.atom j).controls n h k in p.one_controller i j a b c;
        acyclic = λ a b h k.
            p.acyclic (known_as x y a) (known_as x y b) (plus_map (Awaits Q) (Awaits P) (known_as x y) awaits_known a b h) (plus_map (Awaits Q) (Awaits P) (known_as x y) awaits_known b a k);
      }
    where
      there : (n : ℕ) → renamed_set x y (Controlled P) n → (i : P.Index) × renamed_set x y (P.atom i).controls n
      there n (inl h) = let found = (p.controls x).0 h.1 in (found.0, inl (h.0, found.1))
      there n (inr h) = let found = (p.controls n).0 h.2 in (found.0, inr (h.0, h.1, found.1))

      back : (n : ℕ) (i : P.Index) → renamed_set x y (P.atom i).controls n → Controlled Q n
      back n i h = (controlled_set n).1 (set_map x y (P.atom i).controls (Controlled P) (λ k c. (p.controls k).1 (i, c)) n h)

      awaits_known : (a b : ℕ) → Awaits Q a b → Awaits P (known_as x y a) (known_as x y b)
      awaits_known a b w =
          record { atom = w.atom; controls = set_known x y (P.atom w.atom).controls a w.controls; awaits = set_known x y (P.atom w.atom).awaits b w.awaits }
