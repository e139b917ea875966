-- A unit whose life is lawful: it has come through some history, and the law holds of it after that.
use Rattle.units.specs.Models.{UnitModel}
use Rattle.life.specs.Histories.{History, stood}
use Rattle.life.specs.Law.{Lawful}

-- Which history it was is not told, so that a fact that a type keeps can give this.
abbrev pub HasLawfulLife : UnitModel → Type 0
HasLawfulLife u = ∥ ((h : History u) × Lawful u (stood h)) ∥₁
