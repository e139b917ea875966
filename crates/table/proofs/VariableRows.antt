-- Variables that are read.
use Rattle.std.proofs.Common.{◌≡◌, ℕ, zero, suc, ◌+◌, ◌-◌, ◌<◌, ◌≤◌, Bool, true, false, cond, eqb, ◌≢◌, ◌⊎◌, List, [], ◌∷◌, ◌++◌, length, get_or, set, replicate, Some, None, Ok, Err, Option, sym, refl, ap, ◌∙◌, subst, inl, inr, arith, length-set, get_or-set_other, get_or-set_same}
use Rattle.std.proofs.lemmas.Bool.{eq-eqb, ne_eqb, cond-true, cond-false, cases_eq}
use Rattle.std.specs.Option.{option_map}
use Rattle.language.proofs.Steps.{variables_none as variables_end, variables_more as variables_step}
use Rattle.language.specs.laws.Expressions.{none_some}
use Rattle.language.specs.laws.Reading.{variable_read}
use Rattle.language.specs.Tables.{TableVariable, variable_at, VariableRight, fine, and_then, read_variable, read_variables}
use Rattle.model.specs.declared.Fault.{Fault}
use Rattle.table.specs.Reads.{end_of, Fine, Reads}
use Rattle.table.specs.Variables.{IsVariable, AreVariables, kind_and_top}
use Rattle.table.specs.declared.reader.Reader.{Reader}
use Rattle.table.specs.declared.variables.Variable.{Variable}
use Rattle.table.proofs.Answered.{reads_from, then_stops, then_goes}
use Rattle.table.proofs.Rows.{behind, behind_none, behind_more, behind_all}

-- ---- rows of what the variables are

blank : (k n : ℕ) → get_or {A = Option Variable} (replicate k None) n None ≡ None
blank zero n = refl
blank (suc k) zero = refl
blank (suc k) (suc n) = blank k n

at_new : (made : List TableVariable) (v : TableVariable) (n : ℕ) → variable_at made n ≡ None → v.name ≡ n → variable_at (made ++ (v ∷ [])) n ≡ Some v
at_new [] v n h e = cond-true (eqb v.name n) (Some v) None (eq-eqb v.name n e)
at_new (u ∷ made) v n h e = go (eqb u.name n) h (λ g. at_new made v n g e)
  where
    go : (b : Bool) → cond b (Some u) (variable_at made n) ≡ None → (variable_at made n ≡ None → variable_at (made ++ (v ∷ [])) n ≡ Some v) → cond b (Some u) (variable_at (made ++ (v ∷ [])) n) ≡ Some v
    go true h f = none_some u (sym h)
    go false h f = f h

at_other : (made : List TableVariable) (v : TableVariable) (n : ℕ) → (v.name ≡ n → ⊥) → variable_at (made ++ (v ∷ [])) n ≡ variable_at made n
at_other [] v n ne = cond-false (eqb v.name n) (Some v) None (ne_eqb v.name n ne)
at_other (u ∷ made) v n ne = ap (cond (eqb u.name n) (Some u)) (at_other made v n ne)

-- each name has what is kept of its variable, if it is one
abbrev IsLayout : List TableVariable → List (Option Variable) → Type 0
IsLayout vs rows = (n : ℕ) → get_or rows n None ≡ option_map kind_and_top (variable_at vs n)

row_more : (rows : List (Option Variable)) (made : List TableVariable) (v : TableVariable) → variable_at made v.name ≡ None → v.name < length rows → IsLayout made rows → IsLayout (made ++ (v ∷ [])) (set rows v.name (Some (kind_and_top v)))
row_more rows made v new inside h n = go (cases_eq v.name n)
  where
    go : (v.name ≡ n) ⊎ (v.name ≡ n → ⊥) → get_or (set rows v.name (Some (kind_and_top v))) n None ≡ option_map kind_and_top (variable_at (made ++ (v ∷ [])) n)
    go (inl e) =
        ap (λ i. get_or (set rows v.name (Some (kind_and_top v))) i None) (sym e) ∙ get_or-set_same rows v.name (Some (kind_and_top v)) None inside
        ∙ sym (ap (option_map kind_and_top) (at_new made v n (ap (variable_at made) (sym e) ∙ new) e))
    go (inr ne) =
        let other : n ≢ v.name = λ e. ne (sym e) in
        get_or-set_other rows v.name n (Some (kind_and_top v)) None other ∙ h n ∙ sym (ap (option_map kind_and_top) (at_other made v n ne))

-- ---- so many variables

-- so many variables have been read, up to where the reader stands now
pub record VariablesSoFar (first : Reader) (count i lowest : ℕ) (now : Reader) (rows : List (Option Variable)) : Type 0 where
  pub same : now.bytes ≡ first.bytes
  pub made : List TableVariable
  pub ahead : read_variables 0 count first.bytes.now first.place ≡ behind made (read_variables lowest (count - i) first.bytes.now now.place)
  pub full : length rows ≡ 32
  pub laid : IsLayout made rows
  pub fresh : (n : ℕ) → lowest ≤ n → variable_at made n ≡ None

pub name_small : (lowest : ℕ) {name : ℕ} {u : Variable} {now next : Reader} → Reads IsVariable (read_variable lowest) now next (Ok (name, u)) → name ≤ 31
name_small lowest {name} {u} {now} {next} r =
    subst (λ (v : TableVariable). v.name ≤ 31) r.outcome.made (variable_read lowest now.bytes.now now.place r.outcome.part next.place r.outcome.read).holds.name_high

pub variables_none : (first : Reader) (count : ℕ) → VariablesSoFar first count 0 0 first (replicate 32 None)
variables_none first count =
    let all = read_variables 0 count first.bytes.now first.place in
    let same : count ≡ count - 0 = omega arith in
    record {
      same = refl;
      made = [];
      ahead = behind_none all ∙ ap (λ n. behind [] (read_variables 0 n first.bytes.now first.place)) same;
      full = refl;
      laid = blank 32;
      fresh = λ n l. refl;
    }

more_left : (lowest n m : ℕ) (bs : List ℕ) (k : ℕ) → n ≡ m + 1 → read_variables lowest n bs k ≡ and_then (read_variable lowest bs k) (λ v k. and_then (read_variables (v.name + 1) m bs k) (λ vs end. fine (v ∷ vs) end))
more_left lowest n m bs k e = ap (λ i. read_variables lowest i bs k) e ∙ variables_step lowest m bs k

module _ {first : Reader} {count i lowest : ℕ} {now : Reader} {rows : List (Option Variable)} (f : VariablesSoFar first count i lowest now rows) where
  abbrev bs : List ℕ
  bs = first.bytes.now

  pub variables_stop : {next : Reader} {fault : Fault} → i < count → Reads IsVariable (read_variable lowest) now next (Err fault) → Reads AreVariables (read_variables 0 count) first next (Err fault)
  variables_stop {next} {fault} l r =
      let all = length bs in
      let here : end_of all (read_variable lowest bs now.place) ≡ Err fault = reads_from first f.same r in
      record {
        same = r.same ∙ f.same;
        outcome =
            ap (end_of all) f.ahead
            ∙ then_stops all (read_variables lowest (count - i) bs now.place) _ fault (ap (end_of all) (more_left lowest (count - i) (count - (i + 1)) bs now.place (omega arith)) ∙ then_stops all (read_variable lowest bs now.place) _ fault here);
      }

  pub variables_more : {name : ℕ} {u : Variable} {next : Reader} → i < count → Reads IsVariable (read_variable lowest) now next (Ok (name, u)) → VariablesSoFar first count (i + 1) (name + 1) next (set rows name (Some u))
  variables_more {name} {u} {next} l r =
      record {
        same = r.same ∙ f.same;
        made = f.made ++ (v ∷ []);
        ahead =
            f.ahead ∙ ap (behind f.made) (more_left lowest (count - i) (count - (i + 1)) bs now.place (omega arith) ∙ then_goes (read_variable lowest bs now.place) _ v next.place read)
            ∙ behind_more f.made v (read_variables (v.name + 1) (count - (i + 1)) bs next.place);
        full = length-set rows v.name (Some (kind_and_top v)) ∙ f.full;
        laid = row_more rows f.made v new (omega (arith, right.name_high, f.full)) f.laid;
        fresh = λ n h. at_other f.made v n (omega arith) ∙ f.fresh n (omega (arith, right.name_low));
      }
    where
      v : TableVariable
      v = record { name = name; kind = u.kind; top = u.top }

      found : Fine {R = ℕ × Variable} IsVariable (read_variable lowest bs now.place) ((name, u), next.place)
      found = reads_from first f.same r

      read : read_variable lowest bs now.place ≡ fine v next.place
      read = found.read ∙ ap (λ x. fine x next.place) found.made

      right : VariableRight lowest v
      right = (variable_read lowest bs now.place v next.place read).holds

      new : variable_at f.made v.name ≡ None
      new = f.fresh v.name right.name_low

  pub variables_all : i ≡ count → (full : length rows ≡ 32) → Reads AreVariables (read_variables 0 count) first now (Ok (record { rows = rows; full = full }))
  variables_all e full =
      let none : count - i ≡ 0 = omega arith in
      record {
        same = f.same;
        outcome =
            record {
              part = f.made;
              read = f.ahead ∙ ap (λ n. behind f.made (read_variables lowest n bs now.place)) none ∙ ap (behind f.made) (variables_end lowest bs now.place) ∙ behind_all f.made now.place;
              made = f.laid;
            };
      }
