-- The operations on reactive modules, renaming, composition and hiding, and when two modules are the same. Like the
-- definition of modules, this file knows nothing of drawings.
use Rattle.std.specs.Prelude.{◌≡◌, ℕ, cond, ◌⊎◌, ◌↔◌, ◌≢◌, ◌==◌}
use Rattle.std.proofs.Common.{inl, inr}
use Rattle.reactive.specs.Reactive.{Variables, Types, Valuation, Atom, Module, Variable, Awaits, Acyclic}

-- Renaming: y takes the place of x, where y is no variable. In the renamed module y is what x was, x is nothing, and any
-- other variable is what it was.

abbrev pub renamed_set : ℕ → ℕ → Variables → Variables
renamed_set x y X n = ((n ≡ y) × X x) ⊎ ((n ≢ x) × (n ≢ y) × X n)

abbrev pub renamed_types : ℕ → ℕ → Types → Types
renamed_types x y types n v = ((n ≡ y) × types x v) ⊎ ((n ≢ x) × (n ≢ y) × types n v)

-- the values as the module knew them: x has what y has now
abbrev pub values_before : ℕ → ℕ → Valuation → Valuation
values_before x y s n = cond (n == x) (s y) (s n)

abbrev pub renamed_atom : Atom → ℕ → ℕ → Atom
renamed_atom A x y =
    record {
      controls = renamed_set x y A.controls;
      reads = renamed_set x y A.reads;
      awaits = renamed_set x y A.awaits;
      init = λ new t. A.init (values_before x y new) (values_before x y t);
      update = λ old new t. A.update (values_before x y old) (values_before x y new) (values_before x y t);
    }

abbrev pub renamed_module : Module → ℕ → ℕ → Module
renamed_module P x y =
    record {
      private = renamed_set x y P.private;
      interface = renamed_set x y P.interface;
      external = renamed_set x y P.external;
      typed = renamed_types x y P.typed;
      Index = P.Index;
      atom = λ i. renamed_atom (P.atom i) x y;
    }

-- Composition: the atoms and the variables of both. An external variable of one that is an interface variable of the
-- other is no longer external, and a variable of both has the values that both allow.

abbrev pub either : {I J : Type 0} → (I → Atom) → (J → Atom) → I ⊎ J → Atom
either f g (inl i) = f i
either f g (inr j) = g j

abbrev pub composed : Module → Module → Module
composed P Q =
    record {
      private = λ x. P.private x ⊎ Q.private x;
      interface = λ x. P.interface x ⊎ Q.interface x;
      external = λ x. (P.external x ⊎ Q.external x) × (P.interface x ⊎ Q.interface x → ⊥);
      typed = λ x v. (Variable P x → P.typed x v) × (Variable Q x → Q.typed x v);
      Index = P.Index ⊎ Q.Index;
      atom = either P.atom Q.atom;
    }

-- no private variable of one is a variable of the other, and none is an interface variable of both
pub record NamesApart (P Q : Module) : Type 0 where
  pub left_private : (x : ℕ) → P.private x → Variable Q x → ⊥
  pub right_private : (x : ℕ) → Q.private x → Variable P x → ⊥
  pub interfaces : (x : ℕ) → P.interface x → Q.interface x → ⊥

-- a variable of both has the same values in both
abbrev pub SameValues : Module → Module → Type 0
SameValues P Q = (x v : ℕ) → Variable P x → Variable Q x → P.typed x v ↔ Q.typed x v

-- x awaits y in one of the two
abbrev pub AwaitsInEither : Module → Module → ℕ → ℕ → Type 0
AwaitsInEither P Q x y = Awaits P x y ⊎ Awaits Q x y

-- Two modules may be composed.
pub record Compatible (P Q : Module) : Type 0 where
  pub apart : NamesApart P Q
  pub same_values : SameValues P Q
  pub acyclic : Acyclic (AwaitsInEither P Q)

-- Hiding: x moves from the interface variables to the private ones.

abbrev pub hidden_module : Module → ℕ → Module
hidden_module P x =
    record {
      private = λ n. P.private n ⊎ ((n ≡ x) × P.interface n);
      interface = λ n. P.interface n × (n ≢ x);
      external = P.external;
      typed = P.typed;
      Index = P.Index;
      atom = P.atom;
    }

-- Two modules are the same: the same variables with the same types, and atoms that correspond one to one, with the same
-- sets and the same actions.

pub record SameAtom (A B : Atom) : Type 0 where
  pub controls : (x : ℕ) → A.controls x ↔ B.controls x
  pub reads : (x : ℕ) → A.reads x ↔ B.reads x
  pub awaits : (x : ℕ) → A.awaits x ↔ B.awaits x
  pub init : (new t : Valuation) → A.init new t ↔ B.init new t
  pub update : (old new t : Valuation) → A.update old new t ↔ B.update old new t

pub record SameModule (P Q : Module) : Type 0 where
  pub private : (x : ℕ) → P.private x ↔ Q.private x
  pub interface : (x : ℕ) → P.interface x ↔ Q.interface x
  pub external : (x : ℕ) → P.external x ↔ Q.external x
  pub typed : (x v : ℕ) → Variable P x → P.typed x v ↔ Q.typed x v
  pub there : P.Index → Q.Index
  pub back : Q.Index → P.Index
  pub there_and_back : (i : P.Index) → back (there i) ≡ i
  pub back_and_there : (j : Q.Index) → there (back j) ≡ j
  pub atoms : (i : P.Index) → SameAtom (P.atom i) (Q.atom (there i))
