-- What a table keeps is what it was opened from.
use Rattle.std.proofs.Common.{◌≡◌, ℕ, ◌<◌, ◌≤◌, ◌⊎◌, List, length, replicate, Ok, Err, Result, sym, ap, ◌∙◌, subst, inl, inr, arith}
use Rattle.std.proofs.lemmas.List.{length-replicate}
use Rattle.std.proofs.lemmas.Bool.{cases_lt}
use Rattle.model.specs.declared.Fault.{Fault}
use Rattle.model.specs.declared.row.Row.{Row}
use Rattle.language.proofs.TableFronts.{faults_are_the_first}
use Rattle.language.specs.declared.rules.Rule.TheVariants.{TooManyBytes}
use Rattle.language.specs.Tables.{TableSyntax, opens_as, breaks, fault_of, opening_of}
use Rattle.table.specs.Answers.{Opens, IsAnswer}
use Rattle.table.specs.declared.parts.Layout.{Layout}
use Rattle.table.specs.Contents.{IsCopy, contents_of}

pub opened_short : (bs : List ℕ) (t : TableSyntax) → opening_of bs ≡ opens_as t → length bs ≤ 4096
opened_short bs t e = go (cases_lt 4096 (length bs))
  where
    go : (4096 < length bs) ⊎ (length bs ≤ 4096) → length bs ≤ 4096
    go (inl h) = let clash : opens_as t ≡ breaks TooManyBytes 0 = sym e ∙ faults_are_the_first.too_long bs h in cc
    go (inr h) = h

module _ (bs : List ℕ) (r : Result (Row ℕ 4096) ℕ) (copied : IsCopy bs r) where
  pub contents_same : length bs ≤ 4096 → contents_of r ≡ bs
  contents_same h = go r copied
    where
      go : (o : Result (Row ℕ 4096) ℕ) → IsCopy bs o → contents_of o ≡ bs
      go (Ok row) same = same
      go (Err _) long = absurd (omega (arith, long.1))

  pub contents_opening : opening_of (contents_of r) ≡ opening_of bs
  contents_opening = go r copied
    where
      go : (o : Result (Row ℕ 4096) ℕ) → IsCopy bs o → opening_of (contents_of o) ≡ opening_of bs
      go (Ok row) same = ap opening_of same
      go (Err n) long = faults_are_the_first.too_long (replicate n 0) (omega (arith, long, length-replicate {A = ℕ} n 0)) ∙ sym (faults_are_the_first.too_long bs long.1)

  pub contents_answer : (found : Result Layout Fault) → IsAnswer bs found → IsAnswer (contents_of r) found
  contents_answer (Ok l) w = let short : length bs ≤ 4096 = opened_short bs w.table w.is in subst (λ xs. Opens xs l) (sym (contents_same short)) w
  contents_answer (Err f) e = ap fault_of contents_opening ∙ e
