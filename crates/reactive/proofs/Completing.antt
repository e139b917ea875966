-- In a reactive module each round can be completed, atom after atom in a consistent order, whatever the external
-- variables are given; and along every such order it leads where the actions together lead.
use Rattle.std.proofs.Common.{◌≡◌, ℕ, List, [], ◌∷◌, sym, refl, ◌∙◌, subst, inl, inr, ⊎_elim}
use Rattle.reactive.specs.Execution.{Once, Consistent, IsOrder, ActInTurn, LeadsTheSame, CanBeCompleted}
use Rattle.reactive.specs.Reactive.{Variables, Valuation, Typed, Agree, Empty, Among, Module, Variable, Executable, IsModule, IsState}

pick : {A : Type 0} → Dec A → ℕ → ℕ → ℕ
pick (yes h) x y = x
pick (no h) x y = y

pick_yes : {A : Type 0} (d : Dec A) (x y : ℕ) → A → pick d x y ≡ x
unfolding pick
pick_yes (yes h) x y a = refl
pick_yes (no h) x y a = absurd (h a)

pick_no : {A : Type 0} (d : Dec A) (x y : ℕ) → (A → ⊥) → pick d x y ≡ y
unfolding pick
pick_no (yes h) x y a = absurd (a h)
pick_no (no h) x y a = refl

module _ (P : Module) where
  -- no atom of the list controls x
  abbrev pub Left : List P.Index → Variables
  Left order x = (i : P.Index) → Among i order → (P.atom i).controls x → ⊥

  -- the variables that the atoms of the list do not control
  abbrev pub Given : List P.Index → Variables
  Given order x = Variable P x × Left order x

  -- a state that the atoms of the list lead to, the same as v where they control nothing
  pub record Completed (act : P.Index → Valuation → Valuation → Type 0) (order : List P.Index) (v : Valuation) : Type 0 where
    pub end : Valuation
    pub state : IsState P end
    pub kept : (x : ℕ) → Left order x → v x ≡ end x
    pub led : (i : P.Index) → Among i order → act i end end

module _ (P : Module) (fine : IsModule P) (decided : (i : P.Index) (x : ℕ) → Dec ((P.atom i).controls x)) where
  -- what an atom does not await of itself and later ones is given before
  given_before : (i : P.Index) (later : List P.Index) → Consistent P (i ∷ later) → (x : ℕ) → (P.atom i).awaits x → Given P (i ∷ later) x
  given_before i later c x w = (
    (fine.atoms i).awaits x w,
    λ j k h. ⊎_elim (λ e. (fine.atoms i).apart x w (subst (λ n. (P.atom n).controls x) (sym e) h)) (λ l. c.0 j x l w h) k,
  )

  -- no later atom controls what this one does
  own_alone : (i : P.Index) (later : List P.Index) → Once (i ∷ later) → (x : ℕ) → (P.atom i).controls x → Left P later x
  own_alone i later d x h j k g = d.0 (subst (λ n. Among n later) (sym (fine.one_controller i j x h g)) k)

  -- external variables are controlled by no atom
  outside : (x : ℕ) → P.external x → (i : P.Index) → (P.atom i).controls x → ⊥
  outside x e i c = fine.declaration.controlled_or_external x ((fine.controls x).1 (i, c)) e

  -- what no atom of an order controls is external
  left_external : (order : List P.Index) → IsOrder P order → (x : ℕ) → Given P order x → P.external x
  left_external order ordered x g = ⊎_elim (λ c. let found = (fine.controls x).0 c in absurd (g.1 found.0 (ordered.complete found.0) found.1)) (λ e. e) g.0

  module _ (X : P.Index → Variables) (act : P.Index → Valuation → Valuation → Valuation → Type 0)
      (runs : (i : P.Index) → Executable P.typed (X i) (P.atom i).awaits (P.atom i).controls (act i))
      (old : Valuation) where
    -- from where the atoms together lead, to where they lead in turn
    in_turn : (order : List P.Index) (v t : Valuation) → Consistent P order → Once order → Agree (Given P order) v t →
        ((i : P.Index) → act i old t t) → ActInTurn P (λ i. act i old) order v t
    in_turn [] v t c d same all = λ x h. same x (h, λ i k. absurd k)
    in_turn (i ∷ later) v t c d same all =
        let next : Valuation = λ x. pick (decided i x) (t x) (v x) in
        let own : (x : ℕ) → (P.atom i).controls x → next x ≡ t x = λ x h. pick_yes (decided i x) (t x) (v x) h in
        let other : (x : ℕ) → ((P.atom i).controls x → ⊥) → next x ≡ v x = λ x h. pick_no (decided i x) (t x) (v x) h in
        let onward : Agree (Given P later) next t =
        λ x g. elim (decided i x) [ yes k ↦ own x k | no k ↦ other x k ∙ same x (g.0, λ j. ⊎_elim {C = (P.atom j).controls x → ⊥} (λ e h. k (subst (λ n. (P.atom n).controls x) (sym e) h)) (g.1 j)) ] in (
          next,
          record {
            led = (runs i).concerned old t t old v next (λ x _. refl) (λ x w. sym (same x (given_before i later c x w))) (λ x h. sym (own x h)) (all i);
            kept = λ x h. sym (other x h);
          },
          in_turn later next t c.1 d.1 onward all,
        )

    -- and back
    together : (order : List P.Index) (v t : Valuation) → Consistent P order → Once order → ActInTurn P (λ i. act i old) order v t →
        Agree (Given P order) v t × ((i : P.Index) → Among i order → act i old t t)
    together [] v t c d run = (λ x g. run x g.0, λ i k. absurd k)
    together (i ∷ later) v t c d (u, here, rest) =
        let (same, led) = together later u t c.1 d.1 rest in
        let before : Agree (Given P (i ∷ later)) v t = λ x g. here.kept x (g.1 i (inl refl)) ∙ same x (g.0, λ j k. g.1 j (inr k)) in
        let acted : act i old t t =
        (runs i).concerned old v u old t t (λ x _. refl) (λ x w. before x (given_before i later c x w)) (λ x h. same x ((fine.atoms i).controls x h, own_alone i later d x h)) here.led in
        (before, λ j. ⊎_elim {C = act j old t t} (λ e. subst (λ z. act z old t t) e acted) (led j))

    module _ (seen : (i : P.Index) → Typed P.typed (X i) old) where
      completed : (order : List P.Index) (v : Valuation) → Consistent P order → Once order → Typed P.typed (Given P order) v → Completed P (λ i. act i old) order v
      completed [] v c d s = record { end = v; state = λ x h. s x (h, λ i k. absurd k); kept = λ x _. refl; led = λ i k. absurd k }
      completed (i ∷ later) v c d s =
          let awaited : Typed P.typed (P.atom i).awaits v = λ x w. s x (given_before i later c x w) in
          let (u, a) = (runs i).result old v (seen i) awaited in
          let next : Valuation = λ x. pick (decided i x) (u x) (v x) in
          let own : (x : ℕ) → (P.atom i).controls x → next x ≡ u x = λ x h. pick_yes (decided i x) (u x) (v x) h in
          let other : (x : ℕ) → ((P.atom i).controls x → ⊥) → next x ≡ v x = λ x h. pick_no (decided i x) (u x) (v x) h in
          let typed = (runs i).typed old v u (seen i) awaited a in
          let onward : Typed P.typed (Given P later) next =
          λ x g. elim (decided i x) [
            | yes k ↦ subst (P.typed x) (sym (own x k)) (typed x k)
            | no k ↦ subst (P.typed x) (sym (other x k)) (s x (g.0, λ j. ⊎_elim {C = (P.atom j).controls x → ⊥} (λ e h. k (subst (λ n. (P.atom n).controls x) (sym e) h)) (g.1 j)))
          ] in
          let rest = completed later next c.1 d.1 onward in
          let before : Agree (P.atom i).awaits v rest.end =
          λ x w. let g = given_before i later c x w in sym (other x (g.1 i (inl refl))) ∙ rest.kept x (λ j k. g.1 j (inr k)) in
          let given : Agree (P.atom i).controls u rest.end = λ x h. sym (own x h) ∙ rest.kept x (own_alone i later d x h) in
          let here : act i old rest.end rest.end = (runs i).concerned old v u old rest.end rest.end (λ x _. refl) before given a in
          record {
            end = rest.end;
            state = rest.state;
            kept = λ x h. sym (other x (h i (inl refl))) ∙ rest.kept x (λ j k. h j (inr k));
            led = λ j. ⊎_elim {C = act j old rest.end rest.end} (λ e. subst (λ z. act z old rest.end rest.end) e here) (rest.led j);
          }

  module _ (order : List P.Index) (ordered : IsOrder P order) where
    pub leads_the_same : LeadsTheSame P order
    leads_the_same =
        record {
          first = λ v t same. (
            λ run i. (together (λ j. Empty) (λ j old. (P.atom j).init) (λ j. (fine.atoms j).init) v order v t ordered.consistent ordered.distinct run).1 i (ordered.complete i),
            in_turn (λ j. Empty) (λ j old. (P.atom j).init) (λ j. (fine.atoms j).init) v order v t ordered.consistent ordered.distinct (λ x g. same x (left_external order ordered x g)),
          );
          later = λ s v t same. (
            λ run i. (together (λ j. (P.atom j).reads) (λ j. (P.atom j).update) (λ j. (fine.atoms j).update) s order v t ordered.consistent ordered.distinct run).1 i (ordered.complete i),
            in_turn (λ j. (P.atom j).reads) (λ j. (P.atom j).update) (λ j. (fine.atoms j).update) s order v t ordered.consistent ordered.distinct (λ x g. same x (left_external order ordered x g)),
          );
        }

    pub can_be_completed : CanBeCompleted P
    can_be_completed =
        record {
          first = λ v given.
              let c = completed (λ i. Empty) (λ i old. (P.atom i).init) (λ i. (fine.atoms i).init) v (λ i x h. absurd h) order v ordered.consistent ordered.distinct (λ x g. given x (left_external order ordered x g)) in
              (c.end, record { state = c.state; led = λ i. c.led i (ordered.complete i) }, λ x e. c.kept x (λ i _. outside x e i));
          later = λ s v before given.
              let c = completed (λ i. (P.atom i).reads) (λ i. (P.atom i).update) (λ i. (fine.atoms i).update) s (λ i x h. before x ((fine.atoms i).reads x h)) order v ordered.consistent ordered.distinct (λ x g. given x (left_external order ordered x g)) in
              (c.end, record { before = before; state = c.state; led = λ i. c.led i (ordered.complete i) }, λ x e. c.kept x (λ i _. outside x e i));
        }
