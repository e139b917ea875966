-- The rules that a byte table may break.
use Rattle.std.specs.Prelude.{ℕ, Bool, true, false, List, [], ◌∷◌, codes}
use Rattle.model.specs.Faults.{own}
use Rattle.model.specs.declared.Fault.{Fault}
use Rattle.language.specs.declared.rules.Rule.{Rule}
use Rattle.language.specs.declared.rules.Rule.TheVariants.{TooManyBytes, BytesMissing, WrongVariable, WrongAtom, WrongExpression, BytesLeftOver}

abbrev pub rule_number : Rule → ℕ
rule_number TooManyBytes = 1
rule_number BytesMissing = 2
rule_number WrongVariable = 3
rule_number WrongAtom = 4
rule_number WrongExpression = 5
rule_number BytesLeftOver = 6

-- the fault of breaking the rule at this place
abbrev pub rule_fault : Rule → ℕ → Fault
rule_fault rule place = own (rule_number rule) place

abbrev pub all_rules : List Rule
all_rules = TooManyBytes ∷ BytesMissing ∷ WrongVariable ∷ WrongAtom ∷ WrongExpression ∷ BytesLeftOver ∷ []

-- is the rule one by which an item of a table is judged?
abbrev pub judges_items : Rule → Bool
judges_items TooManyBytes = false
judges_items BytesMissing = false
judges_items WrongVariable = true
judges_items WrongAtom = true
judges_items WrongExpression = true
judges_items BytesLeftOver = false

-- what breaking the rule is called, for people
abbrev pub rule_words : Rule → List ℕ
rule_words TooManyBytes = codes "a table has more than 4,096 bytes"
rule_words BytesMissing = codes "a byte of a table is missing"
rule_words WrongVariable = codes "a count, name, kind or top of variables is wrong"
rule_words WrongAtom = codes "a count of atoms or choices, or a set of names, is wrong"
rule_words WrongExpression = codes "an expression is wrong"
rule_words BytesLeftOver = codes "bytes are left over behind a table"
