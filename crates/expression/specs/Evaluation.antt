-- What the evaluator answers.
use Rattle.std.specs.Prelude.{◌≡◌, ℕ, ◌+◌, ◌≤◌, Bool, true, false, cond, List, length, ℤ, pos, negsuc, ◌≤ℤ◌, Some, None, Option, ◌==◌}
use Rattle.language.specs.Expressions.{Number, Truth, Seen, number_bytes, truth_bytes, number_value, truth_value, number_right, truth_right, byte_at, Reading, good, bad, two, read_number, read_truth, whole_number, whole_truth}
use Rattle.expression.specs.declared.evaluator.Evaluator.{Evaluator}
use Rattle.model.specs.States.{value}

-- every name is seen
abbrev pub everything : Seen
everything = record { old = λ n. true; new = λ n. true }

-- what was read is worth, and the place after it
abbrev pub valued : {X V : Type 0} → (X → V) → Reading X → Option (V × ℕ)
valued worth (good x end) = Some (worth x, end)
valued worth (bad place) = None

-- old and new values are 32 numbers each
abbrev pub number_worth : List ℕ → List ℕ → Number → ℤ
number_worth old new e = number_value e (value old) (value new)

abbrev pub truth_worth : List ℕ → List ℕ → Truth → Bool
truth_worth old new p = truth_value p (value old) (value new)

abbrev pub pair : {X : Type 0} → X → X → X × X
pair a b = (a, b)

-- what each of two is worth
abbrev pub pair_worth : {X V : Type 0} → (X → V) → X × X → V × V
pair_worth worth p = (worth p.0, worth p.1)

-- one level further in: the same bytes and values, and a level less
pub record Inner (e inner : Evaluator) : Type 0 where
  pub one_less : inner.levels + 1 ≡ e.levels
  pub same_bytes : inner.bytes.now ≡ e.bytes.now
  pub same_old : inner.old.now ≡ e.old.now
  pub same_new : inner.new.now ≡ e.new.now

-- what stands at place k and nests no deeper than the evaluator has levels left is worth, and the place after it:
-- a number or a truth, and two of them, one after the other
abbrev pub number_here : Evaluator → ℕ → Option (ℤ × ℕ)
number_here e k = valued (number_worth e.old.now e.new.now) (read_number e.levels everything e.bytes.now k)

abbrev pub numbers_here : Evaluator → ℕ → Option ((ℤ × ℤ) × ℕ)
numbers_here e k = valued (pair_worth (number_worth e.old.now e.new.now)) (two pair (read_number e.levels everything e.bytes.now) k)

abbrev pub truth_here : Evaluator → ℕ → Option (Bool × ℕ)
truth_here e k = valued (truth_worth e.old.now e.new.now) (read_truth e.levels everything e.bytes.now k)

abbrev pub truths_here : Evaluator → ℕ → Option ((Bool × Bool) × ℕ)
truths_here e k = valued (pair_worth (truth_worth e.old.now e.new.now)) (two pair (read_truth e.levels everything e.bytes.now) k)

-- a byte's worth, and the place after it
abbrev pub one_byte : (ℕ → ℕ) → ℕ → Option ℕ → Option (ℤ × ℕ)
one_byte worth k None = None
one_byte worth k (Some b) = Some (pos (worth b), k + 1)

abbrev pub itself : ℕ → ℕ
itself b = b

abbrev pub byte_worth : List ℕ → ℕ → Option (ℤ × ℕ)
byte_worth bs k = one_byte itself k (byte_at bs k)

abbrev pub name_worth : List ℕ → List ℕ → ℕ → Option (ℤ × ℕ)
name_worth state bs k = one_byte (value state) k (byte_at bs k)

-- what was read, if it ends where all the bytes do
abbrev pub ended : {V : Type 0} → ℕ → Option (V × ℕ) → Option V
ended all None = None
ended all (Some read) = cond (read.1 == all) (Some read.0) None

-- the value of what was read, or else another
abbrev pub or_else : {X V : Type 0} → (X → V) → V → Reading X → V
or_else worth other (good x end) = worth x
or_else worth other (bad place) = other

-- what the bytes are worth that nest so, as a number or 0, and as a truth or false
abbrev pub all_number : Evaluator → ℤ
all_number e = or_else (number_worth e.old.now e.new.now) (pos 0) (whole_number e.levels everything e.bytes.now)

abbrev pub all_truth : Evaluator → Bool
all_truth e = or_else (truth_worth e.old.now e.new.now) false (whole_truth e.levels everything e.bytes.now)

-- the value of the number that the bytes are where every name is seen, or 0
abbrev pub evaluated_number : List ℕ → List ℕ → List ℕ → ℤ
evaluated_number bs old new = or_else (number_worth old new) (pos 0) (whole_number 8 everything bs)

-- the value of the truth that the bytes are where every name is seen, or false
abbrev pub evaluated_truth : List ℕ → List ℕ → List ℕ → Bool
evaluated_truth bs old new = or_else (truth_worth old new) false (whole_truth 8 everything bs)

-- a right number has its value, whatever names it sees, and at most 64 bytes stay in a small range
pub record NumberEvaluated (bs old new : List ℕ) (r : ℤ) : Type 0 where
  pub written : (s : Seen) (e : Number) → number_right 8 s e ≡ true → bs ≡ number_bytes e → r ≡ number_value e (value old) (value new)
  pub read : (s : Seen) (e : Number) (end : ℕ) → whole_number 8 s bs ≡ good e end → r ≡ number_value e (value old) (value new)
  pub low : length bs ≤ 64 → negsuc 5099 ≤ℤ r
  pub high : length bs ≤ 64 → r ≤ℤ pos 5355

-- a right truth has its value, whatever names it sees
pub record TruthEvaluated (bs old new : List ℕ) (r : Bool) : Type 0 where
  pub written : (s : Seen) (p : Truth) → truth_right 8 s p ≡ true → bs ≡ truth_bytes p → r ≡ truth_value p (value old) (value new)
  pub read : (s : Seen) (p : Truth) (end : ℕ) → whole_truth 8 s bs ≡ good p end → r ≡ truth_value p (value old) (value new)
