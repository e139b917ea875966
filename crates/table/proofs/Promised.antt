-- Opening keeps its promises.
use Rattle.std.proofs.Common.{◌≡◌, ℕ, ◌-◌, ◌≤◌, List, length, get_or, Some, None, sym, refl, ap, ◌∙◌, subst}
use Rattle.model.specs.declared.Fault.{Fault}
use Rattle.language.proofs.TableFronts.{faults_are_the_first}
use Rattle.language.proofs.Tables.{tables_read_back}
use Rattle.language.specs.Rules.{all_rules, rule_fault, rule_number}
use Rattle.language.specs.Tables.{TableSyntax, Opening, opens_as, breaks, fault_of, syntax_of, opening_of, syntax_outline, table_acts}
use Rattle.language.specs.declared.rules.Rule.{Rule}
use Rattle.language.specs.declared.rules.Rule.TheVariants.{TooManyBytes, BytesMissing, WrongVariable, WrongAtom, WrongExpression, BytesLeftOver}
use Rattle.language.specs.laws.Expressions.{none_some}
use Rattle.table.specs.Table.{contents, meaning_of}
use Rattle.table.specs.Promises.{Means, SoleTable, IsBroken, IsOfRule, OpensAsWritten}
use Rattle.table.specs.declared.table.Table.{Table}

-- the rule of this number
numbered : ℕ → Rule
numbered n = get_or all_rules (n - 1) TooManyBytes

numbered_back : (rule : Rule) → numbered (rule_number rule) ≡ rule
unfolding numbered
numbered_back TooManyBytes = refl
numbered_back BytesMissing = refl
numbered_back WrongVariable = refl
numbered_back WrongAtom = refl
numbered_back WrongExpression = refl
numbered_back BytesLeftOver = refl

some_none : {X P : Type 0} (x : X) → Some x ≡ None → P
some_none x e = none_some x (sym e)

no_fault : (o : Opening) → fault_of o ≡ None → (t : TableSyntax) × (o ≡ opens_as t)
no_fault (opens_as t) e = (t, refl)
no_fault (breaks rule place) e = some_none (rule_fault rule place) e

rule_broken : (o : Opening) (fault : Fault) → fault_of o ≡ Some fault → IsOfRule fault
rule_broken (opens_as t) fault e = none_some fault e
rule_broken (breaks rule place) fault e = record { rule = rule; place = place; is = sym (some_same e) }
  where
    some_same : {x y : Fault} → Some x ≡ Some y → x ≡ y
    some_same e = cc

broken_as : (o : Opening) (rule : Rule) (place : ℕ) → fault_of o ≡ Some (rule_fault rule place) → o ≡ breaks rule place
broken_as (opens_as t) rule place e = none_some (rule_fault rule place) e
broken_as (breaks m q) rule place e =
    let first : rule_number m ≡ rule_number rule = ap (λ f. elim f [ None ↦ 0 | Some g ↦ g.number ]) e in
    let second : q ≡ place = ap (λ f. elim f [ None ↦ 0 | Some g ↦ g.place ]) e in
    let same : m ≡ rule = sym (numbered_back m) ∙ ap numbered first ∙ numbered_back rule in
    ap (λ i. breaks i q) same ∙ ap (breaks rule) second

module _ (bs : List ℕ) (r : Table) (same : opening_of (contents r) ≡ opening_of bs) where
  means : (t : TableSyntax) → opening_of bs ≡ opens_as t → Means t (meaning_of r)
  means t e = let is : opening_of (contents r) ≡ opens_as t = same ∙ e in record { outline = ap (λ o. syntax_outline (fault_of o) (syntax_of o)) is; acts = ap (λ o. table_acts (syntax_of o)) is }

  broken_so : (rule : Rule) (place : ℕ) → IsBroken r rule place → opening_of bs ≡ breaks rule place
  broken_so rule place e = broken_as (opening_of bs) rule place (sym (ap fault_of same) ∙ e)

  sole : (t : TableSyntax) → opening_of bs ≡ opens_as t → SoleTable bs (meaning_of r)
  sole t e =
      let w = tables_read_back.written bs t e in
      record { table = t; right = w.0; written = w.1; only = λ u right form. tables_read_back.once u t right w.0 (sym form ∙ w.1); means = means t e }

  pub opens_as_written : OpensAsWritten bs r
  opens_as_written =
      record {
        read_back = λ t right short form. means t (ap opening_of form ∙ tables_read_back.read_back t right (subst (λ xs. length xs ≤ 4096) form short));
        whole = λ e. let o = no_fault (opening_of bs) (sym (ap fault_of same) ∙ e) in sole o.0 o.1;
        of_a_rule = λ fault e. rule_broken (opening_of bs) fault (sym (ap fault_of same) ∙ e);
        too_long = λ place e. let is = broken_so TooManyBytes place e in let long = faults_are_the_first.too_long_only bs place is in (long, at_front place (sym is ∙ faults_are_the_first.too_long bs long));
        missing = λ place e. faults_are_the_first.missing bs place (broken_so BytesMissing place e);
        first = λ rule place judged e. faults_are_the_first.judged bs rule place judged (broken_so rule place e);
        left_over = λ place e. faults_are_the_first.left_over bs place (broken_so BytesLeftOver place e);
      }
    where
      at_front : (place : ℕ) → breaks TooManyBytes place ≡ breaks TooManyBytes 0 → place ≡ 0
      at_front place e = cc
