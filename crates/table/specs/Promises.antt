-- What opening a table promises of written forms and of faults.
use Rattle.std.specs.Prelude.{◌≡◌, ℕ, ◌<◌, ◌≤◌, true, List, length, take, Some, None}
use Rattle.model.specs.Meanings.{Meaning}
use Rattle.model.specs.declared.Fault.{Fault}
use Rattle.language.specs.Rules.{judges_items, rule_fault}
use Rattle.language.specs.Statements.{FirstFault, LeftOver}
use Rattle.language.specs.Tables.{TableSyntax, table_bytes, TableRight, breaks, opening_of, syntax_outline, table_acts}
use Rattle.language.specs.declared.rules.Rule.{Rule}
use Rattle.language.specs.declared.rules.Rule.TheVariants.{TooManyBytes, BytesMissing, BytesLeftOver}
use Rattle.table.specs.Table.{meaning_of}
use Rattle.table.specs.declared.table.Table.{Table}

-- this is what the table means
pub record Means (t : TableSyntax) (m : Meaning) : Type 0 where
  pub outline : m.outline ≡ syntax_outline None t
  pub acts : m.acts ≡ table_acts t

-- the bytes are the written form of exactly one right table, and this is what it means
pub record SoleTable (bs : List ℕ) (m : Meaning) : Type 0 where
  pub table : TableSyntax
  pub right : TableRight table
  pub written : bs ≡ table_bytes table
  pub only : (t : TableSyntax) → TableRight t → bs ≡ table_bytes t → t ≡ table
  pub means : Means table m

-- the table tells that this rule is broken at this place
abbrev pub IsBroken : Table → Rule → ℕ → Type 0
IsBroken r rule place = (meaning_of r).outline.fault ≡ Some (rule_fault rule place)

-- the fault is that of breaking some rule at some place
pub record IsOfRule (fault : Fault) : Type 0 where
  pub rule : Rule
  pub place : ℕ
  pub is : fault ≡ rule_fault rule place

-- What is made of the written form of a right table within the limits means that table; what opens without fault is the
-- written form of exactly one; and a fault is the first from the front, by the rule that is broken: too many bytes, bytes that
-- are missing, an item that is wrong, bytes left over.
pub record OpensAsWritten (bs : List ℕ) (r : Table) : Type 0 where
  pub read_back : (t : TableSyntax) → TableRight t → length bs ≤ 4096 → bs ≡ table_bytes t → Means t (meaning_of r)
  pub whole : (meaning_of r).outline.fault ≡ None → SoleTable bs (meaning_of r)
  pub of_a_rule : (fault : Fault) → (meaning_of r).outline.fault ≡ Some fault → IsOfRule fault
  pub too_long : (place : ℕ) → IsBroken r TooManyBytes place → (4096 < length bs) × (place ≡ 0)
  pub missing : (place : ℕ) → IsBroken r BytesMissing place →
      (place ≡ length bs) × ((n : ℕ) → n ≤ place → opening_of (take n bs) ≡ breaks BytesMissing n)
  pub first : (rule : Rule) (place : ℕ) → judges_items rule ≡ true → IsBroken r rule place → FirstFault bs rule place
  pub left_over : (place : ℕ) → IsBroken r BytesLeftOver place → LeftOver bs place
