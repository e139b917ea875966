-- Expressions: what they say, how they are written as bytes, and how bytes are read. Operators stand first.
-- Numbers: `0 v` is v; `1 n` is the old and `2 n` the new value of n; `3 a b` is a + b; `4 a b` is a − b.
-- Truths: `16 a b` equal; `17 a b` a less than b; `18 p` not; `19 p q` and; `20 p q` or; `21` true.
use Rattle.std.specs.Prelude.{◌≡◌, ℕ, zero, suc, ◌+◌, max, Bool, true, false, cond, not, ◌&&◌, ◌||◌, List, [], ◌∷◌, ◌++◌, length, ℤ, pos, negsuc, ◌+ℤ◌, ◌-ℤ◌, Some, None, Option, ◌==◌, int_lt, nat_le, nat_lt}
use Rattle.std.specs.List.{slice_get}
use Rattle.model.specs.Exchange.{exchange}
use Rattle.model.specs.Meanings.{Valuation}

pub data Number : Type 0 where
  constant : ℕ → Number
  old_value : ℕ → Number
  new_value : ℕ → Number
  sum : Number → Number → Number
  difference : Number → Number → Number

pub data Truth : Type 0 where
  equal : Number → Number → Truth
  less : Number → Number → Truth
  negation : Truth → Truth
  conjunction : Truth → Truth → Truth
  disjunction : Truth → Truth → Truth
  always : Truth

-- the written form
abbrev pub number_bytes : Number → List ℕ
number_bytes (constant v) = 0 ∷ v ∷ []
number_bytes (old_value n) = 1 ∷ n ∷ []
number_bytes (new_value n) = 2 ∷ n ∷ []
number_bytes (sum a b) = 3 ∷ (number_bytes a ++ number_bytes b)
number_bytes (difference a b) = 4 ∷ (number_bytes a ++ number_bytes b)

abbrev pub truth_bytes : Truth → List ℕ
truth_bytes (equal a b) = 16 ∷ (number_bytes a ++ number_bytes b)
truth_bytes (less a b) = 17 ∷ (number_bytes a ++ number_bytes b)
truth_bytes (negation p) = 18 ∷ truth_bytes p
truth_bytes (conjunction p q) = 19 ∷ (truth_bytes p ++ truth_bytes q)
truth_bytes (disjunction p q) = 20 ∷ (truth_bytes p ++ truth_bytes q)
truth_bytes always = 21 ∷ []

-- how many levels deep an expression nests; a constant, a name and true are levels too
abbrev pub number_levels : Number → ℕ
number_levels (constant v) = 1
number_levels (old_value n) = 1
number_levels (new_value n) = 1
number_levels (sum a b) = suc (max (number_levels a) (number_levels b))
number_levels (difference a b) = suc (max (number_levels a) (number_levels b))

abbrev pub truth_levels : Truth → ℕ
truth_levels (equal a b) = suc (max (number_levels a) (number_levels b))
truth_levels (less a b) = suc (max (number_levels a) (number_levels b))
truth_levels (negation p) = suc (truth_levels p)
truth_levels (conjunction p q) = suc (max (truth_levels p) (truth_levels q))
truth_levels (disjunction p q) = suc (max (truth_levels p) (truth_levels q))
truth_levels always = 1

-- the value at these old and new values
abbrev pub number_value : Number → Valuation → Valuation → ℤ
number_value (constant v) old new = pos v
number_value (old_value n) old new = pos (old n)
number_value (new_value n) old new = pos (new n)
number_value (sum a b) old new = number_value a old new +ℤ number_value b old new
number_value (difference a b) old new = number_value a old new -ℤ number_value b old new

abbrev pub eqZ : ℤ → ℤ → Bool
eqZ (pos a) (pos b) = a == b
eqZ (pos a) (negsuc b) = false
eqZ (negsuc a) (pos b) = false
eqZ (negsuc a) (negsuc b) = a == b

abbrev pub truth_value : Truth → Valuation → Valuation → Bool
truth_value (equal a b) old new = eqZ (number_value a old new) (number_value b old new)
truth_value (less a b) old new = int_lt (number_value a old new) (number_value b old new)
truth_value (negation p) old new = not (truth_value p old new)
truth_value (conjunction p q) old new = truth_value p old new && truth_value q old new
truth_value (disjunction p q) old new = truth_value p old new || truth_value q old new
truth_value always old new = true

-- the names whose old values, and those whose new values, an expression may use
pub record Seen : Type 0 where
  pub old : ℕ → Bool
  pub new : ℕ → Bool

-- two pairs of old and new values agree on the names seen
pub record Agree (s : Seen) (old new old' new' : Valuation) : Type 0 where
  pub old_same : (n : ℕ) → s.old n ≡ true → old n ≡ old' n
  pub new_same : (n : ℕ) → s.new n ≡ true → new n ≡ new' n

-- constants are bytes, and names are seen bytes
abbrev pub number_sees : Seen → Number → Bool
number_sees s (constant v) = nat_lt v 256
number_sees s (old_value n) = nat_lt n 256 && s.old n
number_sees s (new_value n) = nat_lt n 256 && s.new n
number_sees s (sum a b) = number_sees s a && number_sees s b
number_sees s (difference a b) = number_sees s a && number_sees s b

abbrev pub truth_sees : Seen → Truth → Bool
truth_sees s (equal a b) = number_sees s a && number_sees s b
truth_sees s (less a b) = number_sees s a && number_sees s b
truth_sees s (negation p) = truth_sees s p
truth_sees s (conjunction p q) = truth_sees s p && truth_sees s q
truth_sees s (disjunction p q) = truth_sees s p && truth_sees s q
truth_sees s always = true

-- ... and it nests no deeper than these levels
abbrev pub number_right : ℕ → Seen → Number → Bool
number_right levels s e = nat_le (number_levels e) levels && number_sees s e

abbrev pub truth_right : ℕ → Seen → Truth → Bool
truth_right levels s p = nat_le (truth_levels p) levels && truth_sees s p

-- The byte at a place, if there is one. A number above 255 is no byte.
abbrev pub as_byte : Option ℕ → Option ℕ
as_byte None = None
as_byte (Some b) = cond (nat_lt b 256) (Some b) None

abbrev pub byte_at : List ℕ → ℕ → Option ℕ
byte_at bs k = as_byte (slice_get bs k)

-- What reading gives: what was read and the place after it, or the place of the first fault.
pub data Reading (X : Type 0) : Type 0 where
  good : X → ℕ → Reading X
  bad : ℕ → Reading X

abbrev pub after : {X Y : Type 0} → Reading X → (X → ℕ → Reading Y) → Reading Y
after (good x end) next = next x end
after (bad place) next = bad place

-- what the byte at place k stands for; it is a fault if it is missing, or stands for nothing here
abbrev pub judged : {X : Type 0} → (ℕ → Option X) → Option ℕ → Option X
judged judge None = None
judged judge (Some b) = judge b

abbrev pub good_byte : {X : Type 0} → Option X → ℕ → Reading X
good_byte None k = bad k
good_byte (Some x) k = good x (k + 1)

abbrev pub read_byte : {X : Type 0} → (ℕ → Option X) → List ℕ → ℕ → Reading X
read_byte judge bs k = good_byte (judged judge (byte_at bs k)) k

-- one operand, or two, read one after the other
abbrev pub one : {X Y : Type 0} → (X → Y) → (ℕ → Reading X) → ℕ → Reading Y
one make operand k = after (operand k) (λ a end. good (make a) end)

abbrev pub two : {X Y : Type 0} → (X → X → Y) → (ℕ → Reading X) → ℕ → Reading Y
two make operand k = after (operand k) (λ a. one (make a) operand)

pub data NumberOperation : Type 0 where
  constant_follows : NumberOperation
  old_name_follows : NumberOperation
  new_name_follows : NumberOperation
  plus : NumberOperation
  minus : NumberOperation

abbrev pub number_operator : ℕ → Option NumberOperation
number_operator b =
    cond (b == 0) (Some constant_follows)
    (cond (b == 1) (Some old_name_follows)
    (cond (b == 2) (Some new_name_follows)
    (cond (b == 3) (Some plus)
    (cond (b == 4) (Some minus) None))))

pub data TruthOperation : Type 0 where
  equals : TruthOperation
  less_than : TruthOperation
  not_follows : TruthOperation
  and_follows : TruthOperation
  or_follows : TruthOperation
  is_true : TruthOperation

abbrev pub truth_operator : ℕ → Option TruthOperation
truth_operator b =
    cond (b == 16) (Some equals)
    (cond (b == 17) (Some less_than)
    (cond (b == 18) (Some not_follows)
    (cond (b == 19) (Some and_follows)
    (cond (b == 20) (Some or_follows)
    (cond (b == 21) (Some is_true) None)))))

-- a constant, or a name that is seen
abbrev pub as_constant : ℕ → Option Number
as_constant v = Some (constant v)

abbrev pub as_name : (ℕ → Number) → (ℕ → Bool) → ℕ → Option Number
as_name make seen n = cond (seen n) (Some (make n)) None

-- what follows the operator of a number, from place k on, where `operand` reads a level deeper
abbrev pub number_operands : Seen → List ℕ → (ℕ → Reading Number) → NumberOperation → ℕ → Reading Number
number_operands s bs operand constant_follows k = read_byte as_constant bs k
number_operands s bs operand old_name_follows k = read_byte (as_name old_value s.old) bs k
number_operands s bs operand new_name_follows k = read_byte (as_name new_value s.new) bs k
number_operands s bs operand plus k = two sum operand k
number_operands s bs operand minus k = two difference operand k

-- the number that stands at place k, nesting at most so many levels deep
unfoldable pub read_number : ℕ → Seen → List ℕ → ℕ → Reading Number
read_number zero s bs k = bad k
read_number (suc levels) s bs k = after (read_byte number_operator bs k) (number_operands s bs (read_number levels s bs))

abbrev pub truth_operands : (ℕ → Reading Number) → (ℕ → Reading Truth) → TruthOperation → ℕ → Reading Truth
truth_operands number operand equals k = two equal number k
truth_operands number operand less_than k = two less number k
truth_operands number operand not_follows k = one negation operand k
truth_operands number operand and_follows k = two conjunction operand k
truth_operands number operand or_follows k = two disjunction operand k
truth_operands number operand is_true k = good always k

-- the truth that stands at place k, nesting at most so many levels deep
unfoldable pub read_truth : ℕ → Seen → List ℕ → ℕ → Reading Truth
read_truth zero s bs k = bad k
read_truth (suc levels) s bs k = after (read_byte truth_operator bs k) (truth_operands (read_number levels s bs) (read_truth levels s bs))

-- What is read of a byte string that should hold one expression and nothing else: bytes that the expression does not
-- use are a fault, at the first of them.
abbrev pub to_the_end : {X : Type 0} → ℕ → Reading X → Reading X
to_the_end all (good x end) = cond (end == all) (good x end) (bad end)
to_the_end all (bad place) = bad place

abbrev pub whole_number : ℕ → Seen → List ℕ → Reading Number
whole_number levels s bs = to_the_end (length bs) (read_number levels s bs 0)

abbrev pub whole_truth : ℕ → Seen → List ℕ → Reading Truth
whole_truth levels s bs = to_the_end (length bs) (read_truth levels s bs 0)

-- the place of the fault, if any
abbrev pub expression_fault : {X : Type 0} → Reading X → Option ℕ
expression_fault (good x end) = None
expression_fault (bad place) = Some place

abbrev pub swapped : {X : Type 0} → ℕ → ℕ → (ℕ → X) → ℕ → X
swapped a b f n = f (exchange a b n)

abbrev pub seen_swapped : ℕ → ℕ → Seen → Seen
seen_swapped a b s = record { old = swapped a b s.old; new = swapped a b s.new }

abbrev pub number_renamed : ℕ → ℕ → Number → Number
number_renamed a b (constant v) = constant v
number_renamed a b (old_value n) = old_value (exchange a b n)
number_renamed a b (new_value n) = new_value (exchange a b n)
number_renamed a b (sum x y) = sum (number_renamed a b x) (number_renamed a b y)
number_renamed a b (difference x y) = difference (number_renamed a b x) (number_renamed a b y)

abbrev pub truth_renamed : ℕ → ℕ → Truth → Truth
truth_renamed a b (equal x y) = equal (number_renamed a b x) (number_renamed a b y)
truth_renamed a b (less x y) = less (number_renamed a b x) (number_renamed a b y)
truth_renamed a b (negation p) = negation (truth_renamed a b p)
truth_renamed a b (conjunction p q) = conjunction (truth_renamed a b p) (truth_renamed a b q)
truth_renamed a b (disjunction p q) = disjunction (truth_renamed a b p) (truth_renamed a b q)
truth_renamed a b always = always

-- what the next byte of a written expression is
pub data Next : Type 0 where
  operator : Next
  value : Next
  name : Next

abbrev pub following : ℕ → Next
following b = cond (b == 0) value (cond (b == 1 || b == 2) name operator)

-- bytes in which each name byte is exchanged, and no other
abbrev pub bytes_renamed : ℕ → ℕ → Next → List ℕ → List ℕ
bytes_renamed a b at [] = []
bytes_renamed a b operator (x ∷ xs) = x ∷ bytes_renamed a b (following x) xs
bytes_renamed a b value (x ∷ xs) = x ∷ bytes_renamed a b operator xs
bytes_renamed a b name (x ∷ xs) = exchange a b x ∷ bytes_renamed a b operator xs
