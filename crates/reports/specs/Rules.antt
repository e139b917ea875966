-- The numbers of the rules that a drawing can break.
use Rattle.std.specs.Prelude.{◌≡◌, ℕ, ◌≢◌, Result, MatchResult}
use Rattle.reports.specs.declared.faults.Rule.{Rule}
use Rattle.reports.specs.declared.faults.Rule.TheVariants.{TableLength, TableEnd, Variables, Atoms, Expressions, BytesLeftOver, Renaming, Hiding, NameTaken, SameTop, AtomsOfTwo, GateLists}
use Rattle.reports.specs.declared.faults.UnknownRule.{UnknownRule}

abbrev pub rule_number : Rule → ℕ
rule_number TableLength = 1
rule_number TableEnd = 2
rule_number Variables = 3
rule_number Atoms = 4
rule_number Expressions = 5
rule_number BytesLeftOver = 6
rule_number Renaming = 7
rule_number Hiding = 8
rule_number NameTaken = 9
rule_number SameTop = 10
rule_number AtomsOfTwo = 11
rule_number GateLists = 18

-- the result is the rule with this number, or an error with a number that no rule has
abbrev pub Numbers : ℕ → Result Rule UnknownRule → Type 0
Numbers number r = MatchResult r (λ rule. rule_number rule ≡ number) (λ e. (e.0 ≡ number) × ((rule : Rule) → rule_number rule ≢ number))
