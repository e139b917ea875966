-- Sets that are read, and how they are judged.
use Rattle.std.proofs.Common.{◌≡◌, ℕ, zero, suc, ◌+◌, ◌<◌, ◌≤◌, Bool, true, false, cond, ◌&&◌, ◌||◌, ltb, List, length, is_some, Some, None, Ok, Err, Option, sym, refl, ap, ◌∙◌, ap₂, arith}
use mathlib.Core.Path.{fun_ext}
use Rattle.std.proofs.lemmas.Bool.{lt-ltb, cond-true, cond-false}
use Rattle.std.proofs.lemmas.Bool.Decides.{nat_tests}
use Rattle.std.specs.Option.{option_map}
use Rattle.language.specs.declared.rules.Rule.TheVariants.{BytesMissing, WrongAtom}
use Rattle.language.specs.Tables.{TableVariable, bit, fine, own_kind, size, variable_at, is_own, names_own, names_variables, judgement, item, if_passes, word_at, set_item}
use Rattle.language.specs.Rules.{rule_fault}
use Rattle.model.specs.Sets.{has}
use Rattle.model.specs.Tests.{every, some, implies, count}
use Rattle.model.specs.declared.Fault.{Fault}
use Rattle.model.specs.Sets.{NameSet}
use Rattle.table.specs.Reads.{end_of, any_word, Tells, Reads}
use Rattle.table.specs.Sets.{NamesOf, passes, passes_in}
use Rattle.table.specs.Variables.{kind_and_top, AreVariables}
use Rattle.table.specs.declared.reader.Reader.{Reader}
use Rattle.table.specs.declared.variables.Variable.{Variable}
use Rattle.table.specs.declared.variables.Variables.{Variables}
use Rattle.table.proofs.Answered.{told_fine}

-- some number passes where the number of those that do is not 0
some_counted : (p : ℕ → Bool) (n : ℕ) → some p n ≡ ltb 0 (count p n)
unfolding some count
some_counted p zero = refl
some_counted p (suc n) = go (p n) (some_counted p n)
  where
    go : (b : Bool) → some p n ≡ ltb 0 (count p n) → (b || some p n) ≡ ltb 0 (count p n + cond b 1 0)
    go true h = sym (lt-ltb 0 (count p n + 1) (omega arith))
    go false h = let same : count p n ≡ count p n + 0 = omega arith in h ∙ ap (ltb 0) same

-- the tests on names and kinds are those on the number and the variables
module _ (vs : List TableVariable) (w : ℕ) (variables : Variables) (names : NameSet) (l : AreVariables vs variables) (h : NamesOf w names) where
  pass_same : (p : Variable → Bool) (q : Option TableVariable → Bool) → ((o : Option TableVariable) → passes p (option_map kind_and_top o) ≡ q o) → every (passes_in p variables names) 32 ≡ every (λ n. implies (bit w n) (q (variable_at vs n))) 32
  pass_same p q same = ap (λ t. every t 32) (fun_ext (λ n. ap₂ implies (h n) (ap (passes p) (l n) ∙ same (variable_at vs n))))

  pub known_same : every (passes_in (λ v. true) variables names) 32 ≡ names_variables vs w
  known_same = pass_same (λ v. true) is_some same
    where
      same : (o : Option TableVariable) → passes (λ v. true) (option_map kind_and_top o) ≡ is_some o
      same None = refl
      same (Some v) = refl

  own_same : every (passes_in (λ v. own_kind v.kind) variables names) 32 ≡ every (λ n. implies (bit w n) (is_own (variable_at vs n))) 32
  own_same = pass_same (λ v. own_kind v.kind) is_own same
    where
      same : (o : Option TableVariable) → passes (λ v. own_kind v.kind) (option_map kind_and_top o) ≡ is_own o
      same None = refl
      same (Some v) = refl

  some_same : some (bit w) 32 ≡ ltb 0 (count (has names) 32)
  some_same = ap (λ p. some p 32) (sym (fun_ext h)) ∙ some_counted (has names) 32

  -- a set that is not empty, and one that is
  pub own_by_all : 0 < count (has names) 32 → every (passes_in (λ v. own_kind v.kind) variables names) 32 ≡ names_own vs w
  own_by_all some_name = own_same ∙ ap (λ b. b && every (λ n. implies (bit w n) (is_own (variable_at vs n))) 32) (sym (some_same ∙ lt-ltb 0 (count (has names) 32) some_name))

  pub own_none : count (has names) 32 ≤ 0 → false ≡ names_own vs w
  own_none none =
      let no : ltb 0 (count (has names) 32) ≡ false = grind (arith, nat_tests) in
      ap (λ b. b && every (λ n. implies (bit w n) (is_own (variable_at vs n))) 32) (sym (some_same ∙ no))

pub size_same : (w : ℕ) (names : NameSet) → NamesOf w names → count (has names) 32 ≡ size w
size_same w names h = ap (λ p. count p 32) (fun_ext h)

-- a set whose four bytes are there
set_at : (p : ℕ → Bool) (bs : List ℕ) (k w next : ℕ) → any_word bs k ≡ fine w next → set_item p bs k ≡ judgement WrongAtom k next (if_passes p w)
set_at p bs k w next e = go (word_at bs k) e
  where
    go : (o : Option ℕ) → item BytesMissing k (k + 4) Some o ≡ fine w next → item WrongAtom k (k + 4) (if_passes p) o ≡ judgement WrongAtom k next (if_passes p w)
    go None e = cc
    go (Some v) e = let word : v ≡ w = cc in let end : k + 4 ≡ next = cc in ap (λ n. judgement WrongAtom k n (if_passes p v)) end ∙ ap (λ n. judgement WrongAtom k next (if_passes p n)) word

module _ {old new : Reader} {w : ℕ} (p : ℕ → Bool) (r : Tells any_word old new (Ok w)) where
  word_at_old : set_item p old.bytes.now old.place ≡ judgement WrongAtom old.place new.place (if_passes p w)
  word_at_old = set_at p old.bytes.now old.place w new.place (told_fine (length old.bytes.now) (any_word old.bytes.now old.place) w new.place r.outcome)

  pub set_fine : {names : NameSet} → NamesOf w names → true ≡ p w → Reads NamesOf (set_item p) old new (Ok names)
  set_fine h t = record { same = r.same; outcome = record { part = w; read = word_at_old ∙ ap (judgement WrongAtom old.place new.place) (cond-true (p w) (Some w) None (sym t)); made = h } }

  pub set_wrong : {fault : Fault} → fault ≡ rule_fault WrongAtom old.place → false ≡ p w → Reads NamesOf (set_item p) old new (Err fault)
  set_wrong {fault} e t =
      let all = length old.bytes.now in
      record { same = r.same; outcome = ap (end_of all) (word_at_old ∙ ap (judgement WrongAtom old.place new.place) (cond-false (p w) (Some w) None (sym t))) ∙ ap Err (sym e) }
