-- Which joins of modules are refused, and with what: the conditions under which modules may be composed.
use Rattle.std.specs.Prelude.{◌≡◌, ℕ, ◌+◌, ◌<◌, ◌≤◌, ◌⊎◌, ◌↔◌, Some, None, Option}
use Rattle.composition.specs.Meanings.{joined}
use Rattle.model.specs.Faults.{own}
use Rattle.model.specs.Meanings.{Meaning}
use Rattle.units.specs.Sealing.{verdict}
use Rattle.units.specs.declared.refusal.Refusal.{Refusal}
use Rattle.units.specs.declared.refusal.Refusal.TheVariants.{FaultyDrawing, AwaitsItself, SeesTooMuch, TooWide}
use Rattle.reactive.specs.Limits.{Limits}
use Rattle.reactive.specs.Modules.{module_of}
use Rattle.reactive.specs.Operations.{NamesApart, SameValues, AwaitsInEither, Compatible}
use Rattle.reactive.specs.Reactive.{Module, Variable, Acyclic, IsModule}

-- x keeps the names of the two from being apart: it is private in one and there in the other, or interface in both
abbrev pub Clashes : Module → Module → ℕ → Type 0
Clashes P Q x = (P.private x × Variable Q x) ⊎ ((Q.private x × Variable P x) ⊎ (P.interface x × Q.interface x))

-- x is there in both, and has not the same values
abbrev pub Differs : Module → Module → ℕ → Type 0
Differs P Q x = Variable P x × Variable Q x × (((v : ℕ) → P.typed x v ↔ Q.typed x v) → ⊥)

-- n is the lowest number with X
pub record Least (X : ℕ → Type 0) (n : ℕ) : Type 0 where
  pub there : X n
  pub none_lower : (k : ℕ) → k < n → X k → ⊥

-- What sealing answers of a join of P and Q, with so many atoms together.
pub record JudgedJoin (P Q : Module) (together : ℕ) (limits : Type 0) (answer : Option Refusal) : Type 0 where
  -- it is fit exactly when the two are compatible, have at most 16 atoms, and the join keeps the limits
  pub fit : (answer ≡ None) ↔ (Compatible P Q × (together ≤ 16) × limits)
  -- 9: names are not apart; the place is the lowest that clashes
  pub clash : (n : ℕ) → (answer ≡ Some (FaultyDrawing (own 9 n))) ↔ Least (Clashes P Q) n
  -- 10: they are, and a variable of both has not the same values; the place is the lowest of these
  pub values : (n : ℕ) → (answer ≡ Some (FaultyDrawing (own 10 n))) ↔ (NamesApart P Q × Least (Differs P Q) n)
  -- 11: none of this, but more than 16 atoms
  pub atoms : (answer ≡ Some (FaultyDrawing (own 11 0))) ↔ (NamesApart P Q × SameValues P Q × (16 < together))
  -- 13: none of this, but awaiting in both together is not acyclic
  pub circle : ((a : ℕ) × (answer ≡ Some (AwaitsItself a))) ↔
      (NamesApart P Q × SameValues P Q × (together ≤ 16) × (Acyclic (AwaitsInEither P Q) → ⊥))
  -- where they are compatible and have at most 16 atoms, only a limit is left to refuse them: 14 or 17
  pub limited : Compatible P Q → together ≤ 16 → (refusal : Refusal) → answer ≡ Some refusal →
      ((a : ℕ) × (refusal ≡ SeesTooMuch a)) ⊎ (refusal ≡ TooWide)

-- So it is of any two drawings without fault whose modules are reactive modules.
abbrev pub JoinsAreRefusedAsPublished : Type 0
JoinsAreRefusedAsPublished =
    (l r : Meaning) → l.outline.fault ≡ None → r.outline.fault ≡ None → IsModule (module_of l) → IsModule (module_of r) →
    JudgedJoin (module_of l) (module_of r) (l.outline.atoms + r.outline.atoms) (Limits (joined l r)) (verdict (joined l r))
