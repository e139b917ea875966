-- Bytes that are one right truth.
use Rattle.std.specs.Prelude.{◌≡◌, ℕ, Bool, true, false, List}
use Rattle.std.proofs.lemmas.Bool.{false≢true}
use Rattle.expression.specs.Evaluation.{everything}
use Rattle.language.specs.Expressions.{Truth, Reading, good, bad, whole_truth}

-- the bytes were read without a fault
abbrev pub is_good : {X : Type 0} → Reading X → Bool
is_good (good x end) = true
is_good (bad place) = false

-- what was read without a fault
abbrev pub read : {X : Type 0} (r : Reading X) → is_good r ≡ true → X
read (good x end) h = x
read (bad place) h = absurd (false≢true h)

-- the bytes are one right truth, whatever names it sees
abbrev pub is_truth : List ℕ → Bool
is_truth bs = is_good (whole_truth 8 everything bs)

-- that truth
abbrev pub truth_of : (bs : List ℕ) → is_truth bs ≡ true → Truth
truth_of bs h = read (whole_truth 8 everything bs) h
