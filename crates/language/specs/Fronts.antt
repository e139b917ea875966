-- Reading from the front: a reader looks at the bytes in their order and at none twice, and tells the first fault.
use Rattle.std.specs.Prelude.{◌≡◌, ℕ, ◌+◌, ◌<◌, ◌≤◌, List, length, None}
use Rattle.std.specs.List.{slice_get}
use Rattle.language.specs.Expressions.{Reading, good, bad}

-- the two byte strings agree below n
abbrev pub Same : List ℕ → List ℕ → ℕ → Type 0
Same bs cs n = (i : ℕ) → i < n → slice_get cs i ≡ slice_get bs i

-- the byte string ends before place n
abbrev pub EndsBefore : List ℕ → ℕ → Type 0
EndsBefore bs n = slice_get bs n ≡ None

-- the place after the last byte that a reading looked at
abbrev pub looked : {X : Type 0} → Reading X → ℕ
looked (good x end) = end
looked (bad place) = place + 1

-- a fault lies at a byte, or just past the last one
abbrev pub Inside : {X : Type 0} → ℕ → Reading X → Type 0
Inside n (good x end) = end ≤ n
Inside n (bad place) = place ≤ n

pub record FromFront {X : Type 0} (read : List ℕ → ℕ → Reading X) : Type 0 where
  pub onward : (bs : List ℕ) (k : ℕ) → k ≤ looked (read bs k)
  pub inside : (bs : List ℕ) (k : ℕ) → k ≤ length bs → Inside (length bs) (read bs k)
  -- what comes after the bytes looked at makes no difference
  pub settled : (bs cs : List ℕ) (k : ℕ) → Same bs cs (looked (read bs k)) → read cs k ≡ read bs k
  -- cut short before one of them, the fault is where the bytes end
  pub cut : (bs cs : List ℕ) (k n : ℕ) → k ≤ n → n < looked (read bs k) → Same bs cs n → EndsBefore cs n → read cs k ≡ bad n
