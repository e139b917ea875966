-- What is read from where a reader stands, and where it stands then.
use Rattle.std.specs.Prelude.{◌≡◌, ℕ, ◌+◌, ◌<◌, cond, List, length, Some, Ok, Err, Result, ◌==◌}
use Rattle.language.specs.Rules.{rule_fault}
use Rattle.model.specs.declared.Fault.{Fault}
use Rattle.language.specs.declared.rules.Rule.TheVariants.{TooManyBytes, BytesMissing, BytesLeftOver}
use Rattle.language.specs.Tables.{Step, fine, wrong, short, byte_item, item, part_at, word_at}
use Rattle.table.specs.declared.reader.Reader.{Reader}

-- what is told of a step by so many bytes: the part and the place after it, or the fault. Bytes that are missing are
-- missed where the bytes end.
abbrev pub outcome_of : {X : Type 0} → ℕ → Step X → Result (X × ℕ) Fault
outcome_of all (fine x end) = Ok (x, end)
outcome_of all (wrong rule place end) = Err (rule_fault rule place)
outcome_of all short = Err (rule_fault BytesMissing all)

-- only where the part ends
abbrev pub end_of : {X : Type 0} → ℕ → Step X → Result ℕ Fault
end_of all (fine x end) = Ok end
end_of all (wrong rule place end) = Err (rule_fault rule place)
end_of all short = Err (rule_fault BytesMissing all)

-- what was made of a part, with the place where its reader stands then
abbrev pub with_place : {R : Type 0} → ℕ → Result R Fault → Result (R × ℕ) Fault
with_place place (Ok r) = Ok (r, place)
with_place place (Err fault) = Err fault

-- The readers have the same bytes, and what was read from where the one stands up to where the other does is told.
pub record Tells {X : Type 0} (read : List ℕ → ℕ → Step X) (old new : Reader) (result : Result X Fault) : Type 0 where
  pub same : new.bytes ≡ old.bytes
  pub outcome : with_place new.place result ≡ outcome_of (length old.bytes.now) (read old.bytes.now old.place)

abbrev pub place_of : ℕ → Result (Unit {0}) Fault → Result ℕ Fault
place_of place (Ok _) = Ok place
place_of place (Err fault) = Err fault

-- The same where only the end of the part is told.
pub record Passes {X : Type 0} (read : List ℕ → ℕ → Step X) (old new : Reader) (result : Result (Unit {0}) Fault) : Type 0 where
  pub same : new.bytes ≡ old.bytes
  pub outcome : place_of new.place result ≡ end_of (length old.bytes.now) (read old.bytes.now old.place)

-- a part was read, and what was made of it has this to do with what it says
pub record Fine {X R : Type 0} (P : X → R → Type 0) (step : Step X) (got : R × ℕ) : Type 0 where
  pub part : X
  pub read : step ≡ fine part got.1
  pub made : P part got.0

abbrev pub OutcomeIs : {X R : Type 0} → (X → R → Type 0) → ℕ → Step X → Result (R × ℕ) Fault → Type 0
OutcomeIs P all step (Ok got) = Fine P step got
OutcomeIs P all step (Err fault) = end_of all step ≡ Err fault

-- The same where something is made of the part that is read.
pub record Reads {X R : Type 0} (P : X → R → Type 0) (read : List ℕ → ℕ → Step X) (old new : Reader) (result : Result R Fault) : Type 0 where
  pub same : new.bytes ≡ old.bytes
  pub outcome : OutcomeIs P (length old.bytes.now) (read old.bytes.now old.place) (with_place new.place result)

-- a byte, a word or so many bytes, whatever they are
abbrev pub any_byte : List ℕ → ℕ → Step ℕ
any_byte bs k = byte_item BytesMissing Some bs k

abbrev pub any_word : List ℕ → ℕ → Step ℕ
any_word bs k = item BytesMissing k (k + 4) Some (word_at bs k)

abbrev pub any_part : ℕ → List ℕ → ℕ → Step (List ℕ)
any_part size bs k = item BytesMissing k (k + size) Some (part_at bs k size)

-- a reader at the front of the bytes, if there are not too many
abbrev pub Begins : List ℕ → Result Reader Fault → Type 0
Begins bs (Ok reader) = (reader.bytes.now ≡ bs) × (reader.place ≡ 0)
Begins bs (Err fault) = (4096 < length bs) × (fault ≡ rule_fault TooManyBytes 0)

-- what is left over is a fault, at its first byte
abbrev pub end_check : Reader → Result (Unit {0}) Fault
end_check r = cond (r.place == length r.bytes.now) (Ok tt) (Err (rule_fault BytesLeftOver r.place))
