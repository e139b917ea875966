-- How a round is executed: first the external variables are given values, then the atoms act one after the other, each
-- after those that control what it awaits.
use Rattle.std.specs.Prelude.{◌≡◌, ℕ, ◌↔◌, List, [], ◌∷◌}
use Rattle.reactive.specs.Reactive.{Valuation, Typed, Agree, Among, Atom, Module, Variable, IsState, IsInitial, Follows}

-- A consistent order of the atoms: each stands there once, and none awaits a variable that a later one controls.

abbrev pub Once : {A : Type 0} → List A → Type 0
Once [] = Unit {0}
Once (x ∷ later) = (Among x later → ⊥) × Once later

abbrev pub Consistent : (P : Module) → List P.Index → Type 0
Consistent P [] = Unit {0}
Consistent P (i ∷ later) =
    ((j : P.Index) (x : ℕ) → Among j later → (P.atom i).awaits x → (P.atom j).controls x → ⊥) × Consistent P later

pub record IsOrder (P : Module) (order : List P.Index) : Type 0 where
  pub complete : (i : P.Index) → Among i order
  pub distinct : Once order
  pub consistent : Consistent P order

-- An atom acts at v: what it controls gets the values that its action leads to, and all else stays.
pub record Acts (A : Atom) (act : Valuation → Valuation → Type 0) (v u : Valuation) : Type 0 where
  pub led : act v u
  pub kept : (x : ℕ) → (A.controls x → ⊥) → v x ≡ u x

-- The atoms of the list act one after the other, from v to values that are those of t.
abbrev pub ActInTurn : (P : Module) → (P.Index → Valuation → Valuation → Type 0) →
    List P.Index → Valuation → Valuation → Type 0
ActInTurn P act [] v t = Agree (Variable P) v t
ActInTurn P act (i ∷ later) v t = (u : Valuation) × Acts (P.atom i) (act i) v u × ActInTurn P act later u t

-- Along the order a round leads, from any values that give the external variables those of t, to t exactly where the
-- actions of all atoms together lead there.
pub record LeadsTheSame (P : Module) (order : List P.Index) : Type 0 where
  pub first : (v t : Valuation) → Agree P.external v t →
      ActInTurn P (λ i. (P.atom i).init) order v t ↔ ((i : P.Index) → (P.atom i).init t t)
  pub later : (s v t : Valuation) → Agree P.external v t →
      ActInTurn P (λ i. (P.atom i).update s) order v t ↔ ((i : P.Index) → (P.atom i).update s t t)

-- Whatever values the external variables are given, a first round leads somewhere, and so does a later one from any state.
pub record CanBeCompleted (P : Module) : Type 0 where
  pub first : (given : Valuation) → Typed P.typed P.external given →
      (t : Valuation) × IsInitial P t × Agree P.external given t
  pub later : (s given : Valuation) → IsState P s → Typed P.typed P.external given →
      (t : Valuation) × Follows P s t × Agree P.external given t
