-- The numbers under which a fault tells the rules of piles.
use Rattle.std.specs.Prelude.{ℕ}
use Rattle.piles.specs.declared.rules.Rule.{Rule}
use Rattle.piles.specs.declared.rules.Rule.TheVariants.{NewNameIsFree, HiddenIsInterface, KindsAgree, TopsAgree, FewAtoms}

abbrev pub rule_number : Rule → ℕ
rule_number NewNameIsFree = 7
rule_number HiddenIsInterface = 8
rule_number KindsAgree = 9
rule_number TopsAgree = 10
rule_number FewAtoms = 11
