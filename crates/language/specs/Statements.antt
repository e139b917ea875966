-- The theorems of this crate.
use Rattle.std.specs.Prelude.{◌≡◌, ℕ, ◌+◌, ◌<◌, ◌≤◌, true, false, List, [], ◌∷◌, ◌++◌, length, take, drop, replicate, ℤ, pos, negsuc, ◌≤ℤ◌, ◌<ℤ◌, Some, None, Decides, Option, ◌≢◌, slice_set}
use Rattle.model.specs.Meanings.{Valuation, AreBytes}
use Rattle.model.specs.declared.Fault.{Fault}
use Rattle.language.specs.Expressions.{Agree, Number, Truth, equal, less, number_bytes, truth_bytes, number_value, truth_value, Seen, number_sees, truth_sees, number_right, truth_right, good, bad, read_number, read_truth, whole_number, whole_truth, expression_fault, swapped, seen_swapped, number_renamed, truth_renamed, operator, bytes_renamed}
use Rattle.language.specs.Fronts.{Same, FromFront}
use Rattle.language.specs.Rules.{judges_items, rule_number}
use Rattle.language.specs.declared.rules.Rule.{Rule}
use Rattle.language.specs.declared.rules.Rule.TheVariants.{TooManyBytes, BytesMissing, WrongAtom, BytesLeftOver}
use Rattle.language.specs.Tables.{TableSyntax, table_bytes, TableRight, opens_as, breaks, opening_of, table_fault}

-- the written form of a right expression, wherever it stands and whatever follows it, is read as that expression
pub record ExpressionsReadBack : Type 0 where
  pub numbers : (levels : ℕ) (s : Seen) (bs : List ℕ) (k : ℕ) (e : Number) (rest : List ℕ) →
      number_right levels s e ≡ true → drop k bs ≡ number_bytes e ++ rest → read_number levels s bs k ≡ good e (k + length (number_bytes e))
  pub truths : (levels : ℕ) (s : Seen) (bs : List ℕ) (k : ℕ) (p : Truth) (rest : List ℕ) →
      truth_right levels s p ≡ true → drop k bs ≡ truth_bytes p ++ rest → read_truth levels s bs k ≡ good p (k + length (truth_bytes p))

-- the bytes from place k on are these, and then those from `end` on
pub record Written (bs : List ℕ) (k : ℕ) (form : List ℕ) (end : ℕ) : Type 0 where
  pub form_stands : drop k bs ≡ form ++ drop end bs
  pub ends : end ≡ k + length form

-- whatever is read well is right, and stands there in its written form
pub record ReadingsAreWritten : Type 0 where
  pub numbers : (levels : ℕ) (s : Seen) (bs : List ℕ) (k : ℕ) (e : Number) (end : ℕ) →
      read_number levels s bs k ≡ good e end → (number_right levels s e ≡ true) × Written bs k (number_bytes e) end
  pub truths : (levels : ℕ) (s : Seen) (bs : List ℕ) (k : ℕ) (p : Truth) (end : ℕ) →
      read_truth levels s bs k ≡ good p end → (truth_right levels s p ≡ true) × Written bs k (truth_bytes p) end

-- no written form is the beginning of another's
pub record FormsArePrefixFree : Type 0 where
  pub numbers : (levels : ℕ) (s : Seen) (e f : Number) (xs ys : List ℕ) →
      number_right levels s e ≡ true → number_right levels s f ≡ true → number_bytes e ++ xs ≡ number_bytes f ++ ys → (e ≡ f) × (xs ≡ ys)
  pub truths : (levels : ℕ) (s : Seen) (p q : Truth) (xs ys : List ℕ) →
      truth_right levels s p ≡ true → truth_right levels s q ≡ true → truth_bytes p ++ xs ≡ truth_bytes q ++ ys → (p ≡ q) × (xs ≡ ys)

-- A byte string that should hold one expression and nothing else is read well exactly when it is the written form of a
-- right one; a fault lies at one of its bytes or just past the last.
pub record WholeExpressionsAreWritten : Type 0 where
  pub numbers : (levels : ℕ) (s : Seen) (e : Number) → number_right levels s e ≡ true → whole_number levels s (number_bytes e) ≡ good e (length (number_bytes e))
  pub numbers_only : (levels : ℕ) (s : Seen) (bs : List ℕ) (e : Number) (end : ℕ) →
      whole_number levels s bs ≡ good e end → (number_right levels s e ≡ true) × (bs ≡ number_bytes e) × (end ≡ length bs)
  pub number_faults : (levels : ℕ) (s : Seen) (bs : List ℕ) (place : ℕ) → whole_number levels s bs ≡ bad place → place ≤ length bs
  pub truths : (levels : ℕ) (s : Seen) (p : Truth) → truth_right levels s p ≡ true → whole_truth levels s (truth_bytes p) ≡ good p (length (truth_bytes p))
  pub truths_only : (levels : ℕ) (s : Seen) (bs : List ℕ) (p : Truth) (end : ℕ) →
      whole_truth levels s bs ≡ good p end → (truth_right levels s p ≡ true) × (bs ≡ truth_bytes p) × (end ≡ length bs)
  pub truth_faults : (levels : ℕ) (s : Seen) (bs : List ℕ) (place : ℕ) → whole_truth levels s bs ≡ bad place → place ≤ length bs

pub record ExpressionsAreReadFromTheFront : Type 0 where
  pub numbers : (levels : ℕ) (s : Seen) → FromFront (read_number levels s)
  pub truths : (levels : ℕ) (s : Seen) → FromFront (read_truth levels s)

abbrev pub nothing_seen : Seen
nothing_seen = record { old = λ n. false; new = λ n. false }

-- a right number of at most 64 bytes that has this value everywhere
pub record Reached (z : ℤ) : Type 0 where
  pub number : Number
  pub right : number_right 8 nothing_seen number ≡ true
  pub short : length (number_bytes number) ≤ 64
  pub reached : (old new : Valuation) → number_value number old new ≡ z

-- where the values seen are bytes, a number of at most 64 bytes lies from −5,100 to 5,355, and both are reached
pub record ValuesStayInRange : Type 0 where
  pub low : (s : Seen) (e : Number) (old new : Valuation) →
      number_sees s e ≡ true → AreBytes old → AreBytes new → length (number_bytes e) ≤ 64 → negsuc 5099 ≤ℤ number_value e old new
  pub high : (s : Seen) (e : Number) (old new : Valuation) →
      number_sees s e ≡ true → AreBytes old → AreBytes new → length (number_bytes e) ≤ 64 → number_value e old new ≤ℤ pos 5355
  pub lowest : Reached (negsuc 5099)
  pub highest : Reached (pos 5355)

-- the tests of a truth say what they should of the exact numbers
pub record ComparisonsAreExact : Type 0 where
  pub equality : (a b : Number) (old new : Valuation) → Decides (truth_value (equal a b) old new) (number_value a old new ≡ number_value b old new)
  pub order : (a b : Number) (old new : Valuation) → Decides (truth_value (less a b) old new) (number_value a old new <ℤ number_value b old new)

-- an expression's value depends only on the values that it sees
pub record ValuesGoBySight : Type 0 where
  pub numbers : (s : Seen) (e : Number) (old new old' new' : Valuation) →
      Agree s old new old' new' → number_sees s e ≡ true → number_value e old new ≡ number_value e old' new'
  pub truths : (s : Seen) (p : Truth) (old new old' new' : Valuation) →
      Agree s old new old' new' → truth_sees s p ≡ true → truth_value p old new ≡ truth_value p old' new'

-- To exchange two names in an expression is to exchange their values; the name bytes of the written form are exchanged,
-- and no others; and what was right stays so where the names seen are exchanged.
pub record RenamingExchangesNames : Type 0 where
  pub number_values : (a b : ℕ) (e : Number) (old new : Valuation) →
      number_value (number_renamed a b e) old new ≡ number_value e (swapped a b old) (swapped a b new)
  pub truth_values : (a b : ℕ) (p : Truth) (old new : Valuation) →
      truth_value (truth_renamed a b p) old new ≡ truth_value p (swapped a b old) (swapped a b new)
  pub number_forms : (a b : ℕ) (e : Number) (rest : List ℕ) →
      bytes_renamed a b operator (number_bytes e ++ rest) ≡ number_bytes (number_renamed a b e) ++ bytes_renamed a b operator rest
  pub truth_forms : (a b : ℕ) (p : Truth) (rest : List ℕ) →
      bytes_renamed a b operator (truth_bytes p ++ rest) ≡ truth_bytes (truth_renamed a b p) ++ bytes_renamed a b operator rest
  pub number_lengths : (a b : ℕ) (e : Number) → length (number_bytes (number_renamed a b e)) ≡ length (number_bytes e)
  pub truth_lengths : (a b : ℕ) (p : Truth) → length (truth_bytes (truth_renamed a b p)) ≡ length (truth_bytes p)
  pub numbers_stay_right : (a b levels : ℕ) (s : Seen) (e : Number) → a < 256 → b < 256 →
      number_right levels s e ≡ true → number_right levels (seen_swapped a b s) (number_renamed a b e) ≡ true
  pub truths_stay_right : (a b levels : ℕ) (s : Seen) (p : Truth) → a < 256 → b < 256 →
      truth_right levels s p ≡ true → truth_right levels (seen_swapped a b s) (truth_renamed a b p) ≡ true

-- the written form of a right table opens as that table, and whatever opens is the written form of exactly one right table
pub record TablesReadBack : Type 0 where
  pub read_back : (t : TableSyntax) → TableRight t → length (table_bytes t) ≤ 4096 → opening_of (table_bytes t) ≡ opens_as t
  pub written : (bs : List ℕ) (t : TableSyntax) → opening_of bs ≡ opens_as t → TableRight t × (bs ≡ table_bytes t)
  pub once : (t u : TableSyntax) → TableRight t → TableRight u → table_bytes t ≡ table_bytes u → t ≡ u

-- A fault of an item that ends before place `upto`: it lies within the item or just past it, nothing that comes after the
-- item makes a difference, and a string that is cut short before the item's end lacks bytes and has no other fault. A set
-- is judged as a whole; in any other item the bytes up to the place decide, where the item is all there.
pub record FirstFault (bs : List ℕ) (rule : Rule) (place : ℕ) : Type 0 where
  pub upto : ℕ
  pub place_within : place ≤ upto
  pub upto_within : upto ≤ length bs
  pub same : (cs : List ℕ) → length cs ≤ 4096 → Same bs cs upto → opening_of cs ≡ breaks rule place
  pub cut : (n : ℕ) → n < upto → opening_of (take n bs) ≡ breaks BytesMissing n
  pub decided : (rule ≢ WrongAtom) → (cs : List ℕ) → length cs ≤ 4096 → upto ≤ length cs → Same bs cs (place + 1) → opening_of cs ≡ breaks rule place

-- the bytes up to the place are a whole table
pub record LeftOver (bs : List ℕ) (place : ℕ) : Type 0 where
  pub within : place < length bs
  pub table : TableSyntax
  pub whole : opening_of (take place bs) ≡ opens_as table

pub record FaultsAreTheFirst : Type 0 where
  pub numbers : (bs : List ℕ) (rule : Rule) (place : ℕ) → opening_of bs ≡ breaks rule place → (1 ≤ rule_number rule) × (rule_number rule ≤ 6)
  pub too_long : (bs : List ℕ) → 4096 < length bs → opening_of bs ≡ breaks TooManyBytes 0
  pub too_long_only : (bs : List ℕ) (place : ℕ) → opening_of bs ≡ breaks TooManyBytes place → 4096 < length bs
  pub missing : (bs : List ℕ) (place : ℕ) → opening_of bs ≡ breaks BytesMissing place →
      (place ≡ length bs) × ((n : ℕ) → n ≤ place → opening_of (take n bs) ≡ breaks BytesMissing n)
  pub judged : (bs : List ℕ) (rule : Rule) (place : ℕ) → judges_items rule ≡ true → opening_of bs ≡ breaks rule place → FirstFault bs rule place
  pub left_over : (bs : List ℕ) (place : ℕ) → opening_of bs ≡ breaks BytesLeftOver place → LeftOver bs place

-- One variable, name 0, interface, top 1; one atom that controls and reads it: it starts at 0, and an update gives
-- its old value taken from 1.
abbrev pub sample : List ℕ
sample =
    1 ∷ 0 ∷ 1 ∷ 1 ∷ 1 ∷ 0 ∷ 0 ∷ 0 ∷ 1 ∷ 0 ∷ 0 ∷ 0 ∷ 1 ∷ 0 ∷ 0 ∷ 0 ∷ 0 ∷ 1 ∷ 1 ∷
    1 ∷ 21 ∷ 2 ∷ 0 ∷ 0 ∷ 1 ∷ 21 ∷ 5 ∷ 4 ∷ 0 ∷ 1 ∷ 1 ∷ 0 ∷ []

abbrev pub fault_at : ℕ → ℕ → Option Fault
fault_at number place = Some (record { number = number; layer = 0; place = place })

-- the sample is right; it lacks a byte, has one too many, or has an old value where none is seen
pub record WorkedFaults : Type 0 where
  pub whole : table_fault sample ≡ None
  pub lacks_one : table_fault (take 31 sample) ≡ fault_at 2 31
  pub has_one_more : table_fault (sample ++ (0 ∷ [])) ≡ fault_at 6 32
  pub sees_nothing_old : table_fault (slice_set sample 22 1) ≡ fault_at 5 23

abbrev pub nots : ℕ → List ℕ
nots n = replicate n 18 ++ (21 ∷ [])

-- seven negations of true nest eight levels deep; an eighth puts true at a ninth
pub record WorkedLevels : Type 0 where
  pub eight : expression_fault (whole_truth 8 nothing_seen (nots 7)) ≡ None
  pub nine : expression_fault (whole_truth 8 nothing_seen (nots 8)) ≡ Some 8
