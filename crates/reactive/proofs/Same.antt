-- What is the same as a reactive module is one.
use Rattle.std.proofs.Common.{ℕ, ◌↔◌, map, sym, ap, ◌∙◌, subst, inl, inr}
use mathlib.Core.Logic.Iff
use Rattle.theory.proofs.Members.{member_same, member_map}
use Rattle.reactive.specs.Operations.{SameAtom, SameModule}
use Rattle.reactive.specs.Reactive.{Variables, Types, Valuation, Typed, Module, Variable, Controlled, Executable, IsDeclaration, IsAtom, Awaits, Plus, Plus.one, Plus.more, IsModule, Empty}

-- an action between the same variables, with the same types there
pub executable_same : (types types' : Types) (X Y Z X' Y' Z' : Variables) (act act' : Valuation → Valuation → Valuation → Type 0) →
    ((x : ℕ) → X x ↔ X' x) → ((x : ℕ) → Y x ↔ Y' x) → ((x : ℕ) → Z x ↔ Z' x) →
    ((x v : ℕ) → X x → types x v ↔ types' x v) → ((x v : ℕ) → Y x → types x v ↔ types' x v) → ((x v : ℕ) → Z x → types x v ↔ types' x v) →
    ((old new t : Valuation) → act old new t ↔ act' old new t) → Executable types X Y Z act → Executable types' X' Y' Z' act'
executable_same types types' X Y Z X' Y' Z' act act' xs ys zs tx ty tz acts runs =
    record {
      concerned = λ old new t old' new' t' h k l a. (acts old' new' t').0 (runs.concerned old new t old' new' t' (λ x i. h x ((xs x).0 i)) (λ x i. k x ((ys x).0 i)) (λ x i. l x ((zs x).0 i)) ((acts old new t).1 a));
      result = λ old new h k. let found = runs.result old new (olds old h) (news new k) in (found.0, (acts old new found.0).0 found.1);
      typed = λ old new t h k a x i. (tz x (t x) ((zs x).1 i)).0 (runs.typed old new t (olds old h) (news new k) ((acts old new t).1 a) x ((zs x).1 i));
      finite = λ old new h k.
          let few = runs.finite old new (olds old h) (news new k) in
          (few.0, λ t a. let found = few.1 t ((acts old new t).1 a) in (found.0, found.1, λ x i. found.2 x ((zs x).1 i)));
    }
  where
    olds : (old : Valuation) → Typed types' X' old → Typed types X old
    olds old h x i = (tx x (old x) i).1 (h x ((xs x).0 i))

    news : (new : Valuation) → Typed types' Y' new → Typed types Y new
    news new h y i = (ty y (new y) i).1 (h y ((ys y).0 i))

pub plus_same : {A : Type 0} (R S : A → A → Type 0) → ((x y : A) → R x y → S x y) → (x y : A) → Plus R x y → Plus S x y
plus_same R S h x y (one w) = one (h x y w)
plus_same R S h x z (more {y = y} w p) = more (h x y w) (plus_same R S h y z p)

module _ (P Q : Module) (s : SameModule P Q) where
  pub controlled_there : (x : ℕ) → Controlled P x → Controlled Q x
  controlled_there x (inl h) = inl ((s.private x).0 h)
  controlled_there x (inr h) = inr ((s.interface x).0 h)

  controlled_back : (x : ℕ) → Controlled Q x → Controlled P x
  controlled_back x (inl h) = inl ((s.private x).1 h)
  controlled_back x (inr h) = inr ((s.interface x).1 h)

  variable_there : (x : ℕ) → Variable P x → Variable Q x
  variable_there x (inl h) = inl (controlled_there x h)
  variable_there x (inr h) = inr ((s.external x).0 h)

  variable_back : (x : ℕ) → Variable Q x → Variable P x
  variable_back x (inl h) = inl (controlled_back x h)
  variable_back x (inr h) = inr ((s.external x).1 h)

  pub atom_back : (j : Q.Index) → SameAtom (P.atom (s.back j)) (Q.atom j)
  atom_back j = subst (λ k. SameAtom (P.atom (s.back j)) (Q.atom k)) (s.back_and_there j) (s.atoms (s.back j))

  pub awaits_back : (x y : ℕ) → Awaits Q x y → Awaits P x y
  awaits_back x y w = record { atom = s.back w.atom; controls = ((atom_back w.atom).controls x).1 w.controls; awaits = ((atom_back w.atom).awaits y).1 w.awaits }

  pub same_flipped : SameModule Q P
  same_flipped =
      record {
        private = λ x. Iff.symm (s.private x);
        interface = λ x. Iff.symm (s.interface x);
        external = λ x. Iff.symm (s.external x);
        typed = λ x v h. Iff.symm (s.typed x v (variable_back x h));
        there = s.back;
        back = s.there;
        there_and_back = s.back_and_there;
        back_and_there = s.there_and_back;
        atoms = λ j. record {
          controls = λ x. Iff.symm ((atom_back j).controls x);
          reads = λ x. Iff.symm ((atom_back j).reads x);
          awaits = λ x. Iff.symm ((atom_back j).awaits x);
          init = λ new t. Iff.symm ((atom_back j).init new t);
          update = λ old new t. Iff.symm ((atom_back j).update old new t);
        };
      }

  module _ (fine : IsModule P) where
    atom_there : (j : Q.Index) → IsAtom Q (Q.atom j)
    atom_there j =
        let A = P.atom (s.back j) in
        let B = Q.atom j in
        let same = atom_back j in
        let it = fine.atoms (s.back j) in
        let awaited : (x v : ℕ) → A.awaits x → P.typed x v ↔ Q.typed x v = λ x v h. s.typed x v (it.awaits x h) in
        let own : (x v : ℕ) → A.controls x → P.typed x v ↔ Q.typed x v = λ x v h. s.typed x v (it.controls x h) in
        record {
          controls = λ x h. variable_there x (it.controls x ((same.controls x).1 h));
          reads = λ x h. variable_there x (it.reads x ((same.reads x).1 h));
          awaits = λ x h. variable_there x (it.awaits x ((same.awaits x).1 h));
          apart = λ x h k. it.apart x ((same.awaits x).1 h) ((same.controls x).1 k);
          init =
              executable_same P.typed Q.typed Empty A.awaits A.controls Empty B.awaits B.controls (λ old. A.init) (λ old. B.init)
              (λ x. (λ h. h, λ h. h)) same.awaits same.controls (λ x v h. absurd h) awaited own (λ old. same.init) it.init;
          update =
              executable_same P.typed Q.typed A.reads A.awaits A.controls B.reads B.awaits B.controls A.update B.update
              same.reads same.awaits same.controls (λ x v h. s.typed x v (it.reads x h)) awaited own same.update it.update;
        }

    declared_there : IsDeclaration Q
    declared_there =
        let it = fine.declaration in
        record {
          finite = (it.finite.0, λ x h. it.finite.1 x (variable_back x h));
          private_or_interface = λ x h k. it.private_or_interface x ((s.private x).1 h) ((s.interface x).1 k);
          controlled_or_external = λ x h k. it.controlled_or_external x (controlled_back x h) ((s.external x).1 k);
        }

    same_is_module : IsModule Q
    same_is_module =
        record {
          declaration = declared_there;
          finite = (map s.there fine.finite.0, λ j. member_same (map s.there fine.finite.0) (s.back_and_there j) (member_map s.there fine.finite.0 (s.back j) (fine.finite.1 (s.back j))));
          atoms = atom_there;
          controls = λ x. (
            λ h. let found = (fine.controls x).0 (controlled_back x h) in (s.there found.0, ((s.atoms found.0).controls x).0 found.1),
            λ h. controlled_there x ((fine.controls x).1 (s.back h.0, ((atom_back h.0).controls x).1 h.1)),
          );
          one_controller = λ i j x h k. sym (s.back_and_there i) ∙ ap s.there (fine.one_controller (s.back i) (s.back j) x (((atom_back i).controls x).1 h) (((atom_back j).controls x).1 k)) ∙ s.back_and_there j;
          acyclic = λ x y p q. fine.acyclic x y (plus_same (Awaits Q) (Awaits P) awaits_back x y p) (plus_same (Awaits Q) (Awaits P) awaits_back y x q);
        }

pub same_modules : (P Q : Module) → SameModule P Q → IsModule P ↔ IsModule Q
same_modules P Q s = (same_is_module P Q s, same_is_module Q P (same_flipped P Q s))
