-- What an answer says of the step that it tells.
use Rattle.std.proofs.Common.{◌≡◌, ℕ, List, length, Ok, Err, Result, sym, refl, ap, ◌∙◌, subst}
use Rattle.language.specs.declared.rules.Rule.TheVariants.{BytesMissing}
use Rattle.language.specs.Tables.{Step, fine, wrong, short, and_then}
use Rattle.language.specs.Rules.{rule_fault}
use Rattle.model.specs.declared.Fault.{Fault}
use Rattle.table.specs.Reads.{outcome_of, end_of, place_of, with_place, Passes, Tells, OutcomeIs, Reads}
use Rattle.table.specs.declared.reader.Reader.{Reader}

pub told_fine : {X : Type 0} (all : ℕ) (s : Step X) (x : X) (end : ℕ) → Ok (x, end) ≡ outcome_of all s → s ≡ fine x end
told_fine {X} all (fine y last) x end e = let both : (y, last) ≡ (x, end) = cc in ap (λ (got : X × ℕ). fine got.0 got.1) both
told_fine all (wrong rule place last) x end e = cc
told_fine all short x end e = cc

pub told_stops : {X : Type 0} (all : ℕ) (s : Step X) (fault : Fault) → Err fault ≡ outcome_of all s → end_of all s ≡ Err fault
told_stops all (fine y last) fault e = cc
told_stops all (wrong rule place last) fault e = let same : rule_fault rule place ≡ fault = cc in ap Err same
told_stops all short fault e = let same : rule_fault BytesMissing all ≡ fault = cc in ap Err same

-- a part that ends here
pub record Ends {X : Type 0} (s : Step X) (end : ℕ) : Type 0 where
  pub part : X
  pub read : s ≡ fine part end

pub told_ends : {X : Type 0} (all : ℕ) (s : Step X) (end : ℕ) → Ok end ≡ end_of all s → Ends s end
told_ends all (fine y last) end e = let same : last ≡ end = cc in record { part = y; read = ap (fine y) same }
told_ends all (wrong rule place last) end e = cc
told_ends all short end e = cc

-- a step that stops stops what follows
pub then_stops : {X Y : Type 0} (all : ℕ) (s : Step X) (next : X → ℕ → Step Y) (fault : Fault) → end_of all s ≡ Err fault → end_of all (and_then s next) ≡ Err fault
then_stops all (fine y last) next fault e = cc
then_stops all (wrong rule place last) next fault e = e
then_stops all short next fault e = e

-- a step that goes well goes on to what follows
pub then_goes : {X Y : Type 0} (s : Step X) (next : X → ℕ → Step Y) (x : X) (k : ℕ) → s ≡ fine x k → and_then s next ≡ next x k
then_goes s next x k e = ap (λ r. and_then r next) e

-- what is read of the bytes by a reader that has the same ones
pub reads_from : {X R : Type 0} {P : X → R → Type 0} {read : List ℕ → ℕ → Step X} {old new : Reader} {result : Result R Fault} (first : Reader) → old.bytes ≡ first.bytes → Reads P read old new result → OutcomeIs P (length first.bytes.now) (read first.bytes.now old.place) (with_place new.place result)
reads_from {P} {read} {old} {new} {result} first e r = subst (λ b. OutcomeIs P (length b.now) (read b.now old.place) (with_place new.place result)) e r.outcome

pub tells_from : {X : Type 0} {read : List ℕ → ℕ → Step X} {old new : Reader} {result : Result X Fault} (first : Reader) → old.bytes ≡ first.bytes → Tells read old new result → with_place new.place result ≡ outcome_of (length first.bytes.now) (read first.bytes.now old.place)
tells_from {read} {old} {new} {result} first e r = subst (λ b. with_place new.place result ≡ outcome_of (length b.now) (read b.now old.place)) e r.outcome

-- a part that stops tells the same fault, whatever is made of it
pub as_passes : {X R : Type 0} {P : X → R → Type 0} {read : List ℕ → ℕ → Step X} {old new : Reader} {fault : Fault} → Reads P read old new (Err fault) → Passes read old new (Err fault)
as_passes r = record { same = r.same; outcome = sym r.outcome }

pub as_reads : {X R : Type 0} {P : X → R → Type 0} {read : List ℕ → ℕ → Step X} {old new : Reader} {fault : Fault} → Passes read old new (Err fault) → Reads P read old new (Err fault)
as_reads r = record { same = r.same; outcome = sym r.outcome }

pub passes_from : {X : Type 0} {read : List ℕ → ℕ → Step X} {old new : Reader} {result : Result (Unit {0}) Fault} (first : Reader) → old.bytes ≡ first.bytes → Passes read old new result → place_of new.place result ≡ end_of (length first.bytes.now) (read first.bytes.now old.place)
passes_from {read} {old} {new} {result} first e r = subst (λ b. place_of new.place result ≡ end_of (length b.now) (read b.now old.place)) e r.outcome

-- ---- parts that are read one after the other

module _ {X Y V R : Type 0} {Q : X → V → Type 0} {P : Y → R → Type 0} {s : List ℕ → ℕ → Step X} (next : X → List ℕ → ℕ → Step Y) {old now : Reader} where
  pub then_stop : {fault : Fault} → Reads Q s old now (Err fault) → Reads P (λ bs k. and_then (s bs k) (λ x k. next x bs k)) old now (Err fault)
  then_stop {fault} r = record { same = r.same; outcome = then_stops (length old.bytes.now) (s old.bytes.now old.place) _ fault r.outcome }

  pub then_go : {last : Reader} {v : V} {result : Result R Fault} → (r : Reads Q s old now (Ok v)) → Reads P (next r.outcome.part) now last result → Reads P (λ bs k. and_then (s bs k) (λ x k. next x bs k)) old last result
  then_go {last} {v} {result} r t =
      record {
        same = t.same ∙ r.same;
        outcome = subst (λ step. OutcomeIs P (length old.bytes.now) step (with_place last.place result)) (sym (then_goes (s old.bytes.now old.place) (λ x k. next x old.bytes.now k) r.outcome.part now.place r.outcome.read)) (reads_from old r.same t);
      }

-- the same after a part that is told as it is
module _ {X Y R : Type 0} {P : Y → R → Type 0} {s : List ℕ → ℕ → Step X} (next : X → List ℕ → ℕ → Step Y) {old now : Reader} where
  pub tell_stop : {fault : Fault} → Tells s old now (Err fault) → Reads P (λ bs k. and_then (s bs k) (λ x k. next x bs k)) old now (Err fault)
  tell_stop {fault} r = let all = length old.bytes.now in record { same = r.same; outcome = then_stops all (s old.bytes.now old.place) _ fault (told_stops all _ fault r.outcome) }

  pub tell_go : {last : Reader} {x : X} {result : Result R Fault} → Tells s old now (Ok x) → Reads P (next x) now last result → Reads P (λ bs k. and_then (s bs k) (λ x k. next x bs k)) old last result
  tell_go {last} {x} {result} r t =
      let all = length old.bytes.now in
      record {
        same = t.same ∙ r.same;
        outcome = subst (λ step. OutcomeIs P all step (with_place last.place result)) (sym (then_goes (s old.bytes.now old.place) (λ x k. next x old.bytes.now k) x now.place (told_fine all _ x now.place r.outcome))) (reads_from old r.same t);
      }

pub then_done : {X R : Type 0} {P : X → R → Type 0} {x : X} {v : R} {now : Reader} → P x v → Reads P (λ bs k. fine x k) now now (Ok v)
then_done {x} made = record { same = refl; outcome = record { part = x; read = refl; made = made } }
