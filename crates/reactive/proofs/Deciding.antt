-- Of every described module it can be decided what is in its sets, and its atoms can be listed.
use native.Mathlib.Decide.{ℕ_discrete}
use Rattle.std.proofs.Common.{◌≡◌, ℕ, Bool, true, false, ◌⊎◌, List, ◌++◌, map, sym, refl, ap, ◌∙◌, inl, inr, ⊎_elim, arith}
use Rattle.std.proofs.lemmas.Bool.{both_ways, cases_Bool}
use Rattle.model.specs.Meanings.{Meaning}
use Rattle.theory.specs.Members.{Member, Distinct}
use Rattle.theory.proofs.Members.{member_left, member_right, member_map, map_from, distinct_map, distinct_append}
use Rattle.reactive.specs.Descriptions.{Tests, tested, Description, by_tests, by_drawing, composition, renaming, hiding, described}
use Rattle.reactive.specs.Modules.{Below, module_of}
use Rattle.reactive.specs.Operations.{renamed_set, renamed_module, composed, hidden_module}
use Rattle.reactive.specs.Reactive.{Variables, Module}
use Rattle.reactive.proofs.Numbers.{numbers, numbers_all, numbers_distinct}
use Rattle.reactive.proofs.Operations.{private_iff, interface_iff, external_iff}

pub dec_true : (b : Bool) → Dec (b ≡ true)
dec_true b = go (cases_Bool b)
  where
    go : (b ≡ true) ⊎ (b ≡ false) → Dec (b ≡ true)
    go (inl t) = yes t
    go (inr f) = no (both_ways b f)

dec_iff : {A B : Type 0} → (A → B) → (B → A) → Dec A → Dec B
dec_iff f g (yes a) = yes (f a)
dec_iff f g (no n) = no (λ b. n (g b))

pub dec_or : {A B : Type 0} → Dec A → Dec B → Dec (A ⊎ B)
dec_or (yes a) d = yes (inl a)
dec_or (no n) (yes b) = yes (inr b)
dec_or (no n) (no k) = no (⊎_elim n k)

pub dec_and : {A B : Type 0} → Dec A → Dec B → Dec (A × B)
dec_and (yes a) (yes b) = yes (a, b)
dec_and (no n) d = no (λ p. n p.0)
dec_and (yes a) (no n) = no (λ p. n p.1)

dec_and3 : {A B C : Type 0} → Dec A → Dec B → Dec C → Dec (A × B × C)
dec_and3 (yes a) (yes b) (yes c) = yes (a, b, c)
dec_and3 (no n) d e = no (λ p. n p.0)
dec_and3 (yes a) (no n) e = no (λ p. n p.1)
dec_and3 (yes a) (yes b) (no n) = no (λ p. n p.2)

dec_not : {A : Type 0} → Dec A → Dec (A → ⊥)
dec_not (yes a) = no (λ n. n a)
dec_not (no n) = yes n

-- what of a module can be decided, and its atoms, listed once each
pub record Decided (P : Module) : Type 0 where
  pub private : (x : ℕ) → Dec (P.private x)
  pub interface : (x : ℕ) → Dec (P.interface x)
  pub external : (x : ℕ) → Dec (P.external x)
  pub controls : (i : P.Index) (x : ℕ) → Dec ((P.atom i).controls x)
  pub awaits : (i : P.Index) (x : ℕ) → Dec ((P.atom i).awaits x)
  pub atoms : List P.Index
  pub each : (i : P.Index) → Member i atoms
  pub once : Distinct atoms

by_numbers : (n : ℕ) → (all : List (Below n)) × ((i : Below n) → Member i all) × Distinct all
by_numbers n = (numbers n n (omega arith), λ i. numbers_all n n (omega arith) i i.low, numbers_distinct n n (omega arith))

tests_decided : (t : Tests) → Decided (tested t)
tests_decided t =
    let all = by_numbers t.atoms in
    record {
      private = λ x. dec_true (t.private x);
      interface = λ x. dec_true (t.interface x);
      external = λ x. dec_true (t.external x);
      controls = λ i x. dec_true (t.controls i.number x);
      awaits = λ i x. dec_true (t.awaits i.number x);
      atoms = all.0;
      each = all.1;
      once = all.2;
    }

pub drawing_decided : (m : Meaning) → Decided (module_of m)
drawing_decided m =
    let all = by_numbers m.outline.atoms in
    record {
      private = λ x. let e = private_iff (m.outline.kind x) in dec_iff e.1 e.0 (dec_true _);
      interface = λ x. let e = interface_iff (m.outline.kind x) in dec_iff e.1 e.0 (dec_true _);
      external = λ x. let e = external_iff (m.outline.kind x) in dec_iff e.1 e.0 (dec_true _);
      controls = λ i x. dec_true (m.outline.controls i.number x);
      awaits = λ i x. dec_true (m.outline.awaits i.number x);
      atoms = all.0;
      each = all.1;
      once = all.2;
    }

module _ (x y : ℕ) (X : Variables) (d : (n : ℕ) → Dec (X n)) where
  renamed_decided : (n : ℕ) → Dec (renamed_set x y X n)
  renamed_decided n = dec_or (dec_and (ℕ_discrete n y) (d x)) (dec_and3 (dec_not (ℕ_discrete n x)) (dec_not (ℕ_discrete n y)) (d n))

module _ {A B : Type 0} (xs : List A) (ys : List B) (d : Distinct xs) (e : Distinct ys) where
  from_left : A → A ⊎ B → A
  from_left a = ⊎_elim (λ x. x) (λ y. a)

  from_right : B → A ⊎ B → B
  from_right b = ⊎_elim (λ x. b) (λ y. y)

  is_left : A ⊎ B → Bool
  is_left = ⊎_elim (λ x. true) (λ y. false)

  both_kinds : List (A ⊎ B)
  both_kinds = map inl xs ++ map inr ys

  both_distinct : Distinct both_kinds
  unfolding both_kinds from_left from_right is_left
  both_distinct = distinct_append (map inl xs) (map inr ys)
      (distinct_map inl xs (λ x y _ _ e. ap (from_left x) e) d)
      (distinct_map inr ys (λ x y _ _ e. ap (from_right x) e) e)
      (λ z k l.
      let p = map_from inl xs z k in
      let q = map_from inr ys z l in
      both_ways true (ap is_left (p.2 ∙ sym q.2)) refl)

  both_there : ((x : A) → Member x xs) → ((y : B) → Member y ys) → (z : A ⊎ B) → Member z both_kinds
  unfolding both_kinds
  both_there f g (inl x) = member_left (map inl xs) (map inr ys) (inl x) (member_map inl xs x (f x))
  both_there f g (inr y) = member_right (map inl xs) (map inr ys) (inr y) (member_map inr ys y (g y))

composed_decided : (P Q : Module) → Decided P → Decided Q → Decided (composed P Q)
composed_decided P Q p q =
    record {
      private = λ x. dec_or (p.private x) (q.private x);
      interface = λ x. dec_or (p.interface x) (q.interface x);
      external = λ x. dec_and (dec_or (p.external x) (q.external x)) (dec_not (dec_or (p.interface x) (q.interface x)));
      controls = controls;
      awaits = awaits;
      atoms = both_kinds p.atoms q.atoms p.once q.once;
      each = both_there p.atoms q.atoms p.once q.once p.each q.each;
      once = both_distinct p.atoms q.atoms p.once q.once;
    }
  where
    controls : (i : P.Index ⊎ Q.Index) (x : ℕ) → Dec (((composed P Q).atom i).controls x)
    controls (inl i) = p.controls i
    controls (inr j) = q.controls j

    awaits : (i : P.Index ⊎ Q.Index) (x : ℕ) → Dec (((composed P Q).atom i).awaits x)
    awaits (inl i) = p.awaits i
    awaits (inr j) = q.awaits j

renaming_decided : (P : Module) (x y : ℕ) → Decided P → Decided (renamed_module P x y)
renaming_decided P x y p =
    record {
      private = renamed_decided x y P.private p.private;
      interface = renamed_decided x y P.interface p.interface;
      external = renamed_decided x y P.external p.external;
      controls = λ i. renamed_decided x y (P.atom i).controls (p.controls i);
      awaits = λ i. renamed_decided x y (P.atom i).awaits (p.awaits i);
      atoms = p.atoms;
      each = p.each;
      once = p.once;
    }

hiding_decided : (P : Module) (x : ℕ) → Decided P → Decided (hidden_module P x)
hiding_decided P x p =
    record {
      private = λ n. dec_or (p.private n) (dec_and (ℕ_discrete n x) (p.interface n));
      interface = λ n. dec_and (p.interface n) (dec_not (ℕ_discrete n x));
      external = p.external;
      controls = p.controls;
      awaits = p.awaits;
      atoms = p.atoms;
      each = p.each;
      once = p.once;
    }

pub decided : (d : Description) → Decided (described d)
decided (by_tests t) = tests_decided t
decided (by_drawing m) = drawing_decided m
decided (composition d e) = composed_decided (described d) (described e) (decided d) (decided e)
decided (renaming d x y) = renaming_decided (described d) x y (decided d)
decided (hiding d x) = hiding_decided (described d) x (decided d)
