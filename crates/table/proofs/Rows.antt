-- Parts that are read one after the other.
use Rattle.std.proofs.Common.{◌≡◌, ℕ, zero, suc, ◌+◌, ◌-◌, ◌<◌, List, [], ◌∷◌, ◌++◌, length, take, Ok, Err, Result, subst, sym, refl, ap, ◌∙◌, append_assoc, append-nil, arith, length-append}
use Rattle.std.specs.List.{slice_get}
use Rattle.language.proofs.Steps.{many_none as no_more, many_more as one_more}
use Rattle.language.specs.Tables.{Step, fine, wrong, short, and_then, many}
use Rattle.model.specs.Rows.{Pushed}
use Rattle.model.specs.declared.Fault.{Fault}
use Rattle.model.specs.declared.row.Full.{Full}
use Rattle.table.specs.Reads.{end_of, Passes, Reads}
use Rattle.table.specs.Rows.{Each, Paired}
use Rattle.table.specs.declared.reader.Reader.{Reader}
use Rattle.table.proofs.Answered.{passes_from, reads_from, told_ends, then_stops}

-- what is read is put behind what was read before
abbrev pub behind : {X : Type 0} → List X → Step (List X) → Step (List X)
behind made s = and_then s (λ xs end. fine (made ++ xs) end)

pub behind_none : {X : Type 0} (s : Step (List X)) → s ≡ behind [] s
behind_none (fine xs end) = refl
behind_none (wrong rule place end) = refl
behind_none short = refl

pub behind_more : {X : Type 0} (made : List X) (x : X) (s : Step (List X)) → behind made (and_then s (λ xs end. fine (x ∷ xs) end)) ≡ behind (made ++ (x ∷ [])) s
behind_more made x (fine xs end) = ap (λ l. fine l end) (sym (append_assoc made (x ∷ []) xs))
behind_more made x (wrong rule place end) = refl
behind_more made x short = refl

pub behind_all : {X : Type 0} (made : List X) (k : ℕ) → behind made (fine [] k) ≡ fine made k
behind_all made k = ap (λ l. fine l k) (append-nil made)

module _ {X : Type 0} (read : List ℕ → ℕ → Step X) (bs : List ℕ) where
  more_left : (n m k : ℕ) → n ≡ m + 1 → many read n bs k ≡ and_then (read bs k) (λ x next. and_then (many read m bs next) (λ xs end. fine (x ∷ xs) end))
  more_left n m k e = ap (λ i. many read i bs k) e ∙ one_more read m bs k

  many_stops : (all n m k : ℕ) (fault : Fault) → n ≡ m + 1 → end_of all (read bs k) ≡ Err fault → end_of all (many read n bs k) ≡ Err fault
  many_stops all n m k fault e h = ap (end_of all) (more_left n m k e) ∙ then_stops all (read bs k) _ fault h

-- So many of the parts have been read, up to where the reader stands now, and this holds of them.
pub record SoFar {X : Type 0} (read : List ℕ → ℕ → Step X) (first : Reader) (count i : ℕ) (now : Reader) (Q : List X → Type 0) : Type 0 where
  pub same : now.bytes ≡ first.bytes
  pub made : List X
  pub counted : length made ≡ i
  pub ahead : many read count first.bytes.now first.place ≡ behind made (many read (count - i) first.bytes.now now.place)
  pub holds : Q made

pub many_none : {X : Type 0} {read : List ℕ → ℕ → Step X} {Q : List X → Type 0} (first : Reader) (count : ℕ) → Q [] → SoFar read first count 0 first Q
many_none {read} first count q =
    let all = many read count first.bytes.now first.place in
    let none : count ≡ count - 0 = omega arith in
    record { same = refl; made = []; counted = refl; ahead = behind_none all ∙ ap (λ n. behind [] (many read n first.bytes.now first.place)) none; holds = q }

module _ {X : Type 0} {read : List ℕ → ℕ → Step X} {first : Reader} {count i : ℕ} {now : Reader} {Q : List X → Type 0} (f : SoFar read first count i now Q) where
  pub many_stop : {next : Reader} {fault : Fault} → i < count → Passes read now next (Err fault) → Passes (many read count) first next (Err fault)
  many_stop {next} {fault} l r =
      let bs = first.bytes.now in let all = length bs in
      let here : end_of all (many read (count - i) bs now.place) ≡ Err fault = many_stops read bs all (count - i) (count - (i + 1)) now.place fault (omega arith) (sym (passes_from first f.same r)) in
      record { same = r.same ∙ f.same; outcome = sym (ap (end_of all) f.ahead ∙ then_stops all (many read (count - i) bs now.place) _ fault here) }

  pub many_more : {next : Reader} (Q' : List X → Type 0) (x : X) → i < count → next.bytes ≡ now.bytes → read first.bytes.now now.place ≡ fine x next.place → (Q f.made → Q' (f.made ++ x ∷ [])) → SoFar read first count (i + 1) next Q'
  many_more {next} Q' x l same e step =
      let bs = first.bytes.now in
      record {
        same = same ∙ f.same;
        made = f.made ++ (x ∷ []);
        counted = length-append f.made (x ∷ []) ∙ ap (λ n. n + 1) f.counted;
        ahead =
            f.ahead ∙ ap (behind f.made) (more_left read bs (count - i) (count - (i + 1)) now.place (omega arith) ∙ ap (λ s. and_then s (λ x next. and_then (many read (count - (i + 1)) bs next) (λ xs end. fine (x ∷ xs) end))) e)
            ∙ behind_more f.made x (many read (count - (i + 1)) bs next.place);
        holds = step f.holds;
      }

  pub many_all : i ≡ count → many read count first.bytes.now first.place ≡ fine f.made now.place
  many_all e =
      let bs = first.bytes.now in
      let none : count - i ≡ 0 = omega arith in
      f.ahead ∙ ap (λ n. behind f.made (many read n bs now.place)) none ∙ ap (behind f.made) (no_more read bs now.place) ∙ behind_all f.made now.place

-- ---- where they end

module _ {X : Type 0} {read : List ℕ → ℕ → Step X} {first : Reader} {count i : ℕ} {now : Reader} {Q : List X → Type 0} (f : SoFar read first count i now Q) where
  pub passes_more : {next : Reader} (Q' : List X → Type 0) → i < count → Passes read now next (Ok tt) → ((x : X) → read first.bytes.now now.place ≡ fine x next.place → Q f.made → Q' (f.made ++ x ∷ [])) → SoFar read first count (i + 1) next Q'
  passes_more {next} Q' l p step =
      let r = told_ends (length first.bytes.now) (read first.bytes.now now.place) next.place (passes_from first f.same p) in
      many_more f Q' r.part l p.same r.read (step r.part r.read)

  pub passes_all : i ≡ count → Passes (many read count) first now (Ok tt)
  passes_all e = record { same = f.same; outcome = sym (ap (end_of (length first.bytes.now)) (many_all f e)) }

-- ---- what is made of them

pub reads_more : {X R : Type 0} {P : X → R → Type 0} {read : List ℕ → ℕ → Step X} {first : Reader} {count i : ℕ} {now next : Reader} {Q : List X → Type 0} {r : R} (f : SoFar read first count i now Q) (Q' : List X → Type 0) → i < count → Reads P read now next (Ok r) → ((x : X) → read first.bytes.now now.place ≡ fine x next.place → P x r → Q f.made → Q' (f.made ++ x ∷ [])) → SoFar read first count (i + 1) next Q'
reads_more {first} f Q' l p step = let got = reads_from first f.same p in many_more f Q' got.part l p.same got.read (step got.part got.read got.made)

pub each_none : {X R : Type 0} {P : List X → X → R → Type 0} → Each P [] []
each_none = record { counted = refl; each = λ k. tt }

pub each_more : {X R : Type 0} {P : List X → X → R → Type 0} (xs : List X) (rs : List R) (x : X) (r : R) → Each P xs rs → P xs x r → Each P (xs ++ x ∷ []) (rs ++ r ∷ [])
each_more {P} [] [] x r f p = record { counted = refl; each = go }
  where
    go : (k : ℕ) → Paired (P (take k (x ∷ []))) (slice_get (x ∷ []) k) (slice_get (r ∷ []) k)
    go zero = p
    go (suc k) = tt
each_more [] (s ∷ rs) x r f p = absurd (omega (arith, f.counted))
each_more (y ∷ xs) [] x r f p = absurd (omega (arith, f.counted))
each_more {X} {R} {P} (y ∷ xs) (s ∷ rs) x r f p = go (each_more {P = λ before. P (y ∷ before)} xs rs x r (record { counted = omega (arith, f.counted); each = λ k. f.each (suc k) }) p)
  where
    go : Each (λ before. P (y ∷ before)) (xs ++ x ∷ []) (rs ++ r ∷ []) → Each P (y ∷ (xs ++ x ∷ [])) (s ∷ (rs ++ r ∷ []))
    go rest = record { counted = ap suc rest.counted; each = at rest }
      where
        at : Each (λ before. P (y ∷ before)) (xs ++ x ∷ []) (rs ++ r ∷ []) → (k : ℕ) → Paired (P (take k (y ∷ (xs ++ x ∷ [])))) (slice_get (y ∷ (xs ++ x ∷ [])) k) (slice_get (s ∷ (rs ++ r ∷ [])) k)
        at rest zero = f.each 0
        at rest (suc k) = rest.each k

pub each_pushed : {X R : Type 0} {P : List X → X → R → Type 0} (n : ℕ) {xs : List X} {before after : List R} {x : X} {r : R} {result : Result (Unit {0}) Full} → Each P xs before → Pushed n before r after result → result ≡ Ok tt → P xs x r → Each P (xs ++ x ∷ []) after
each_pushed {P} n {xs} {before} {after} {x} {r} {result} f pushed e p = go result e pushed
  where
    go : (o : Result (Unit {0}) Full) → o ≡ Ok tt → Pushed n before r after o → Each P (xs ++ x ∷ []) after
    go (Ok _) e same = subst (Each P (xs ++ x ∷ [])) (sym same) (each_more xs before x r f p)
    go (Err _) e h = cc

pub pushed_counts : {R : Type 0} (n : ℕ) (before after : List R) (r : R) {result : Result (Unit {0}) Full} → Pushed n before r after result → result ≡ Ok tt → length after ≡ length before + 1
pushed_counts n before after r {result} pushed e = go result e pushed
  where
    go : (o : Result (Unit {0}) Full) → o ≡ Ok tt → Pushed n before r after o → length after ≡ length before + 1
    go (Ok _) e same = ap length same ∙ length-append before (r ∷ [])
    go (Err _) e h = cc

pub reads_all : {X R : Type 0} {read : List ℕ → ℕ → Step X} {first : Reader} {count i : ℕ} {now : Reader} {Q : List X → Type 0} {P : List X → R → Type 0} (f : SoFar read first count i now Q) (made : R) → i ≡ count → (Q f.made → P f.made made) → Reads P (many read count) first now (Ok made)
reads_all f made e step = record { same = f.same; outcome = record { part = f.made; read = many_all f e; made = step f.holds } }
