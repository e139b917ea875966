-- Expressions that are checked.
use Rattle.std.proofs.Common.{◌≡◌, ℕ, ◌+◌, ◌≤◌, Bool, true, false, cond, leb, List, length, take, drop, Some, None, Ok, Err, Option, sym, refl, ap, ◌∙◌, arith}
use Rattle.std.proofs.lemmas.Bool.{leb-true}
use Rattle.std.proofs.lemmas.List.{length-take-le, length-drop}
use Rattle.expression.specs.Checking.{checked}
use Rattle.language.specs.Expressions.{Reading, good, bad, expression_fault}
use Rattle.language.specs.declared.rules.Rule.TheVariants.{BytesMissing, WrongExpression}
use Rattle.language.specs.Tables.{Step, fine, wrong, short, and_then, between, byte_item, expression_item, expression_judged, expression_of, item, part_at}
use Rattle.language.specs.Rules.{rule_fault}
use Rattle.model.specs.declared.Fault.{Fault}
use Rattle.table.specs.Expressions.{judged_part, judged_item}
use Rattle.table.specs.Reads.{outcome_of, end_of, any_part, Tells, Passes}
use Rattle.table.specs.declared.reader.Reader.{Reader}
use Rattle.table.proofs.Answered.{told_fine, then_goes, tells_from}

-- bytes that are read as a part are there
pub part_ends : (size : ℕ) {xs : List ℕ} {old new : Reader} → Tells (any_part size) old new (Ok xs) → old.place + length xs ≡ new.place
part_ends size {xs} {old} {new} r = go (leb (old.place + size) (length old.bytes.now)) refl r.outcome
  where
    go : (b : Bool) → leb (old.place + size) (length old.bytes.now) ≡ b → Ok (xs, new.place) ≡ outcome_of (length old.bytes.now) (item BytesMissing old.place (old.place + size) Some (cond b (Some (take size (drop old.place old.bytes.now))) None)) → old.place + length xs ≡ new.place
    go true h e =
        let both : ◌≡◌ {A = List ℕ × ℕ} (xs, new.place) (take size (drop old.place old.bytes.now), old.place + size) = cc in
        let inside : old.place + size ≤ length old.bytes.now = leb-true _ _ h in
        let sized : length (take size (drop old.place old.bytes.now)) ≡ size = length-take-le size (drop old.place old.bytes.now) (omega (arith, length-drop old.place old.bytes.now)) in
        omega (arith, ap (λ (got : List ℕ × ℕ). length got.0) both, ap (λ (got : List ℕ × ℕ). got.1) both)
    go false h e = cc

module _ {first middle last : Reader} {size : ℕ} {xs : List ℕ} (fault : List ℕ → Option ℕ) (s : Tells (byte_item WrongExpression (between 1 64)) first middle (Ok size)) (p : Tells (any_part size) middle last (Ok xs)) where
  same_bytes : last.bytes ≡ first.bytes
  same_bytes = p.same ∙ s.same

  judged_as : judged_item fault first.bytes.now first.place ≡ judged_part middle.place last.place (fault xs)
  judged_as =
      let all = length first.bytes.now in
      then_goes (byte_item WrongExpression (between 1 64) first.bytes.now first.place) _ size middle.place (told_fine all _ size middle.place s.outcome)
      ∙ then_goes (any_part size first.bytes.now middle.place) _ xs last.place (told_fine all _ xs last.place (tells_from first s.same p))

  pub judged_fine : Ok tt ≡ checked (fault xs) → Passes (judged_item fault) first last (Ok tt)
  judged_fine h = record { same = same_bytes; outcome = go (fault xs) h ∙ ap (end_of (length first.bytes.now)) (sym judged_as) }
    where
      go : (o : Option ℕ) → Ok tt ≡ checked o → Ok last.place ≡ end_of (length first.bytes.now) (judged_part middle.place last.place o)
      go None h = refl
      go (Some place) h = cc

  pub judged_wrong : {place : ℕ} {broken : Fault} → broken ≡ rule_fault WrongExpression (middle.place + place) → Err place ≡ checked (fault xs) → Passes (judged_item fault) first last (Err broken)
  judged_wrong {place} {broken} e h = record { same = same_bytes; outcome = ap Err e ∙ go (fault xs) h ∙ ap (end_of (length first.bytes.now)) (sym judged_as) }
    where
      go : (o : Option ℕ) → Err place ≡ checked o → Err (rule_fault WrongExpression (middle.place + place)) ≡ end_of (length first.bytes.now) (judged_part middle.place last.place o)
      go None h = cc
      go (Some at) h = let same : place ≡ at = cc in ap (λ n. Err (rule_fault WrongExpression (middle.place + n))) same

-- where an expression ends is told by its fault alone
pub same_ends : {X : Type 0} (all : ℕ) (whole : List ℕ → Reading X) (bs : List ℕ) (k : ℕ) → end_of all (judged_item (λ part. expression_fault (whole part)) bs k) ≡ end_of all (expression_item whole bs k)
same_ends {X} all whole bs k = go (byte_item WrongExpression (between 1 64) bs k)
  where
    read : (k end : ℕ) (r : Reading X) → end_of all (judged_part k end (expression_fault r)) ≡ end_of all (expression_judged k end r)
    read k end (good x last) = refl
    read k end (bad place) = refl

    of : (k end : ℕ) (o : Option (List ℕ)) → end_of all (and_then (item BytesMissing k end Some o) (λ part end. judged_part k end (expression_fault (whole part)))) ≡ end_of all (expression_of whole k end o)
    of k end None = refl
    of k end (Some part) = read k end (whole part)

    go : (s : Step ℕ) → end_of all (and_then s (λ size k. and_then (any_part size bs k) (λ part end. judged_part k end (expression_fault (whole part))))) ≡ end_of all (and_then s (λ size k. expression_of whole k (k + size) (part_at bs k size)))
    go (fine size k) = of k (k + size) (part_at bs k size)
    go (wrong rule place end) = refl
    go short = refl

pub expression_passes : {X : Type 0} (whole : List ℕ → Reading X) {old new : Reader} {result : _} → Passes (judged_item (λ part. expression_fault (whole part))) old new result → Passes (expression_item whole) old new result
expression_passes whole {old} r = record { same = r.same; outcome = r.outcome ∙ same_ends (length old.bytes.now) whole old.bytes.now old.place }
