-- The composition of compatible modules is a module.
use Rattle.std.proofs.Common.{◌≡◌, ℕ, ◌⊎◌, ◌↔◌, List, ◌++◌, map, ap, inl, inr, ⊎_elim}
use Rattle.theory.proofs.Members.{member_left, member_right, member_map}
use Rattle.reactive.specs.Operations.{composed, NamesApart, SameValues, AwaitsInEither}
use Rattle.reactive.specs.Reactive.{Variables, Valuation, Empty, Among, Module, Controlled, Variable, Executable, IsDeclaration, IsAtom, Awaits, Acyclic, IsModule, IsState, IsInitial, Follows}
use Rattle.reactive.specs.Theorems.{MovesAsBoth}
use Rattle.reactive.proofs.Same.{executable_same, plus_same}

alike : {A : Type 0} → A ↔ A
alike = (λ h. h, λ h. h)

-- no variable is controlled by both
pub controlled_by_one : (P Q : Module) → NamesApart P Q → (x : ℕ) → Controlled P x → Controlled Q x → ⊥
controlled_by_one P Q apart x (inl p) q = apart.left_private x p (inl q)
controlled_by_one P Q apart x (inr p) (inl q) = apart.right_private x q (inl (inr p))
controlled_by_one P Q apart x (inr p) (inr q) = apart.interfaces x p q

-- what awaits in a composition awaits in a part
pub awaits_split : (P Q : Module) (x y : ℕ) → Awaits (composed P Q) x y → AwaitsInEither P Q x y
awaits_split P Q x y w = go w.atom w.controls w.awaits
  where
    go : (i : P.Index ⊎ Q.Index) → ((composed P Q).atom i).controls x → ((composed P Q).atom i).awaits y → AwaitsInEither P Q x y
    go (inl i) h k = inl (record { atom = i; controls = h; awaits = k })
    go (inr j) h k = inr (record { atom = j; controls = h; awaits = k })

pub awaits_joined : (P Q : Module) (x y : ℕ) → AwaitsInEither P Q x y → Awaits (composed P Q) x y
awaits_joined P Q x y (inl w) = record { atom = inl w.atom; controls = w.controls; awaits = w.awaits }
awaits_joined P Q x y (inr w) = record { atom = inr w.atom; controls = w.controls; awaits = w.awaits }

module _ (P Q : Module) (p : IsModule P) (q : IsModule Q) (apart : NamesApart P Q) (same_values : SameValues P Q)
    (left_decided : (x : ℕ) → Dec (P.interface x)) (right_decided : (x : ℕ) → Dec (Q.interface x)) where
  abbrev whole : Module
  whole = composed P Q

  left_controlled : (x : ℕ) → Controlled P x → Controlled whole x
  left_controlled x = ⊎_elim (λ h. inl (inl h)) (λ h. inr (inl h))

  right_controlled : (x : ℕ) → Controlled Q x → Controlled whole x
  right_controlled x = ⊎_elim (λ h. inl (inr h)) (λ h. inr (inr h))

  controlled_split : (x : ℕ) → Controlled whole x → Controlled P x ⊎ Controlled Q x
  controlled_split x (inl (inl h)) = inl (inl h)
  controlled_split x (inl (inr h)) = inr (inl h)
  controlled_split x (inr (inl h)) = inl (inr h)
  controlled_split x (inr (inr h)) = inr (inr h)

  -- an external variable of one is external or an interface variable of the whole
  from_external : (x : ℕ) → P.external x ⊎ Q.external x → Variable whole x
  from_external x e = go (left_decided x) (right_decided x)
    where
      go : Dec (P.interface x) → Dec (Q.interface x) → Variable whole x
      go (yes h) d = inl (inr (inl h))
      go (no n) (yes h) = inl (inr (inr h))
      go (no n) (no k) = inr (e, ⊎_elim n k)

  pub left_variable : (x : ℕ) → Variable P x → Variable whole x
  left_variable x = ⊎_elim (λ c. inl (left_controlled x c)) (λ e. from_external x (inl e))

  pub right_variable : (x : ℕ) → Variable Q x → Variable whole x
  right_variable x = ⊎_elim (λ c. inl (right_controlled x c)) (λ e. from_external x (inr e))

  pub variable_split : (x : ℕ) → Variable whole x → Variable P x ⊎ Variable Q x
  variable_split x (inl c) = ⊎_elim (λ h. inl (inl h)) (λ h. inr (inl h)) (controlled_split x c)
  variable_split x (inr e) = ⊎_elim (λ h. inl (inr h)) (λ h. inr (inr h)) e.0

  left_typed : (x v : ℕ) → Variable P x → P.typed x v ↔ whole.typed x v
  left_typed x v here = (λ h. (λ _. h, λ there. (same_values x v here there).0 h), λ h. h.0 here)

  right_typed : (x v : ℕ) → Variable Q x → Q.typed x v ↔ whole.typed x v
  right_typed x v here = (λ h. (λ there. (same_values x v there here).1 h, λ _. h), λ h. h.1 here)

  state_both : (s : Valuation) → IsState whole s ↔ (IsState P s × IsState Q s)
  state_both s = (
    λ h. (λ x v. (h x (left_variable x v)).0 v, λ x v. (h x (right_variable x v)).1 v),
    λ h x v. (h.0 x, h.1 x),
  )

  initial_both : (s : Valuation) → IsInitial whole s ↔ (IsInitial P s × IsInitial Q s)
  initial_both s = (
    λ h. let both = (state_both s).0 h.state in (record { state = both.0; led = λ i. h.led (inl i) }, record { state = both.1; led = λ j. h.led (inr j) }),
    λ h. record { state = (state_both s).1 (h.0.state, h.1.state); led = led h.0 h.1 },
  )
    where
      led : IsInitial P s → IsInitial Q s → (i : P.Index ⊎ Q.Index) → (whole.atom i).init s s
      led h k (inl i) = h.led i
      led h k (inr j) = k.led j

  follows_both : (s t : Valuation) → Follows whole s t ↔ (Follows P s t × Follows Q s t)
  follows_both s t = (
    λ h.
        let old = (state_both s).0 h.before in
        let new = (state_both t).0 h.state in
        (record { before = old.0; state = new.0; led = λ i. h.led (inl i) }, record { before = old.1; state = new.1; led = λ j. h.led (inr j) }),
    λ h. record { before = (state_both s).1 (h.0.before, h.1.before); state = (state_both t).1 (h.0.state, h.1.state); led = led h.0 h.1 },
  )
    where
      led : Follows P s t → Follows Q s t → (i : P.Index ⊎ Q.Index) → (whole.atom i).update s t t
      led h k (inl i) = h.led i
      led h k (inr j) = k.led j

  pub moves_as_both : MovesAsBoth P Q
  moves_as_both = record { states = state_both; initial = initial_both; successors = follows_both }

  moved : (R : Module) → ((x v : ℕ) → Variable R x → R.typed x v ↔ whole.typed x v) → (X Y Z : Variables) (act : Valuation → Valuation → Valuation → Type 0) →
      ((x : ℕ) → X x → Variable R x) → ((x : ℕ) → Y x → Variable R x) → ((x : ℕ) → Z x → Variable R x) →
      Executable R.typed X Y Z act → Executable whole.typed X Y Z act
  moved R types X Y Z act xs ys zs =
      executable_same R.typed whole.typed X Y Z X Y Z act act (λ x. alike) (λ x. alike) (λ x. alike)
      (λ x v h. types x v (xs x h)) (λ x v h. types x v (ys x h)) (λ x v h. types x v (zs x h)) (λ old new t. alike)

  atom_in : (i : P.Index ⊎ Q.Index) → IsAtom whole (whole.atom i)
  atom_in (inl i) =
      let A = P.atom i in
      let it = p.atoms i in
      record {
        controls = λ x h. left_variable x (it.controls x h);
        reads = λ x h. left_variable x (it.reads x h);
        awaits = λ x h. left_variable x (it.awaits x h);
        apart = it.apart;
        init = moved P left_typed Empty A.awaits A.controls (λ old. A.init) (λ x h. absurd h) it.awaits it.controls it.init;
        update = moved P left_typed A.reads A.awaits A.controls A.update it.reads it.awaits it.controls it.update;
      }
  atom_in (inr j) =
      let A = Q.atom j in
      let it = q.atoms j in
      record {
        controls = λ x h. right_variable x (it.controls x h);
        reads = λ x h. right_variable x (it.reads x h);
        awaits = λ x h. right_variable x (it.awaits x h);
        apart = it.apart;
        init = moved Q right_typed Empty A.awaits A.controls (λ old. A.init) (λ x h. absurd h) it.awaits it.controls it.init;
        update = moved Q right_typed A.reads A.awaits A.controls A.update it.reads it.awaits it.controls it.update;
      }

  one_kind : (x : ℕ) → whole.private x → whole.interface x → ⊥
  one_kind x (inl h) (inl k) = p.declaration.private_or_interface x h k
  one_kind x (inl h) (inr k) = apart.left_private x h (inl (inr k))
  one_kind x (inr h) (inl k) = apart.right_private x h (inl (inr k))
  one_kind x (inr h) (inr k) = q.declaration.private_or_interface x h k

  one_side : (x : ℕ) → Controlled whole x → whole.external x → ⊥
  one_side x (inr i) e = e.1 i
  one_side x (inl (inl h)) e = ⊎_elim (λ k. p.declaration.controlled_or_external x (inl h) k) (λ k. apart.left_private x h (inr k)) e.0
  one_side x (inl (inr h)) e = ⊎_elim (λ k. apart.right_private x h (inr k)) (λ k. q.declaration.controlled_or_external x (inl h) k) e.0

  declared : IsDeclaration whole
  declared =
      let xs = p.declaration.finite in
      let ys = q.declaration.finite in
      record {
        finite = (xs.0 ++ ys.0, λ x h. ⊎_elim (λ k. member_left xs.0 ys.0 x (xs.1 x k)) (λ k. member_right xs.0 ys.0 x (ys.1 x k)) (variable_split x h));
        private_or_interface = one_kind;
        controlled_or_external = one_side;
      }

  all_atoms : List (P.Index ⊎ Q.Index)
  all_atoms = map inl p.finite.0 ++ map inr q.finite.0

  each_atom : (i : P.Index ⊎ Q.Index) → Among i all_atoms
  unfolding all_atoms
  each_atom (inl i) = member_left (map inl p.finite.0) (map inr q.finite.0) (inl i) (member_map inl p.finite.0 i (p.finite.1 i))
  each_atom (inr j) = member_right (map inl p.finite.0) (map inr q.finite.0) (inr j) (member_map inr q.finite.0 j (q.finite.1 j))

  pub controls_exactly : (x : ℕ) → Controlled whole x ↔ ((i : P.Index ⊎ Q.Index) × (whole.atom i).controls x)
  controls_exactly x = (λ c. there (controlled_split x c), λ h. back h.0 h.1)
    where
      there : Controlled P x ⊎ Controlled Q x → (i : P.Index ⊎ Q.Index) × (whole.atom i).controls x
      there (inl c) = let found = (p.controls x).0 c in (inl found.0, found.1)
      there (inr c) = let found = (q.controls x).0 c in (inr found.0, found.1)

      back : (i : P.Index ⊎ Q.Index) → (whole.atom i).controls x → Controlled whole x
      back (inl i) h = left_controlled x ((p.controls x).1 (i, h))
      back (inr j) h = right_controlled x ((q.controls x).1 (j, h))

  pub one_controller : (i j : P.Index ⊎ Q.Index) (x : ℕ) → (whole.atom i).controls x → (whole.atom j).controls x → i ≡ j
  one_controller (inl i) (inl j) x h k = ap inl (p.one_controller i j x h k)
  one_controller (inl i) (inr j) x h k = absurd (controlled_by_one P Q apart x ((p.controls x).1 (i, h)) ((q.controls x).1 (j, k)))
  one_controller (inr i) (inl j) x h k = absurd (controlled_by_one P Q apart x ((p.controls x).1 (j, k)) ((q.controls x).1 (i, h)))
  one_controller (inr i) (inr j) x h k = ap inr (q.one_controller i j x h k)

  pub composed_is_module : Acyclic (AwaitsInEither P Q) → IsModule whole
  composed_is_module acyclic =
      record {
        declaration = declared;
        finite = (all_atoms, each_atom);
        atoms = atom_in;
        controls = controls_exactly;
        one_controller = one_controller;
        acyclic = λ x y h k.
            acyclic x y (plus_same (Awaits whole) (AwaitsInEither P Q) (awaits_split P Q) x y h) (plus_same (Awaits whole) (AwaitsInEither P Q) (awaits_split P Q) y x k);
      }
