-- Why a call is refused. A reason says of a refusal that it is the one that is told; where several apply, the first is.
use Rattle.std.specs.Prelude.{◌≡◌, ℕ, ◌<◌, ◌⊎◌}
use Rattle.units.specs.declared.refusal.Refusal.{Refusal}

abbrev pub Reason : Type 1
Reason = Refusal → Type 0

-- it is so, and this is told
pub record Because (so : Type 0) (told r : Refusal) : Type 0 where
  pub is_so : so
  pub is : r ≡ told

-- it is so of some number below the bound, and the lowest of these is told
pub record AtLowest (so : ℕ → Type 0) (bound : ℕ) (told : ℕ → Refusal) (r : Refusal) : Type 0 where
  pub place : ℕ
  pub below : place < bound
  pub is_so : so place
  pub none_lower : (k : ℕ) → k < place → so k → ⊥
  pub is : r ≡ told place

-- the first reason applies, or it applies at no refusal and the second does
infixr 30 ◌or-else◌
abbrev pub ◌or-else◌ : (Refusal → Type 0) → (Refusal → Type 0) → Refusal → Type 0
(first or-else second) r = first r ⊎ (((q : Refusal) → first q → ⊥) × second r)
