-- Meanings that answer alike.
use Rattle.std.specs.Prelude.{◌≡◌, ℕ}
use Rattle.model.specs.Meanings.{Valuation, Meaning}
use Rattle.model.specs.declared.Round.{Round}

-- each question about the one atom is answered as that about the other
pub record SameAtom (m : Meaning) (a : ℕ) (m' : Meaning) (a' : ℕ) : Type 0 where
  pub controls : (n : ℕ) → m.outline.controls a n ≡ m'.outline.controls a' n
  pub reads : (n : ℕ) → m.outline.reads a n ≡ m'.outline.reads a' n
  pub awaits : (n : ℕ) → m.outline.awaits a n ≡ m'.outline.awaits a' n
  pub choices : (r : Round) → m.acts.choices r a ≡ m'.acts.choices r a'
  pub opens : (r : Round) (k : ℕ) (old new : Valuation) → m.acts.opens r a k old new ≡ m'.acts.opens r a' k old new
  pub gives : (r : Round) (k n : ℕ) (old new : Valuation) → m.acts.gives r a k n old new ≡ m'.acts.gives r a' k n old new

-- the two answer each question alike, but for how many layers they are piled of
pub record SameAnswers (m m' : Meaning) : Type 0 where
  pub fault : m.outline.fault ≡ m'.outline.fault
  pub kind : (n : ℕ) → m.outline.kind n ≡ m'.outline.kind n
  pub top : (n : ℕ) → m.outline.top n ≡ m'.outline.top n
  pub atoms : m.outline.atoms ≡ m'.outline.atoms
  pub atom : (a : ℕ) → SameAtom m a m' a
