-- What judging a list of states as a certificate has found so far.
use Rattle.std.proofs.Common.{◌≡◌, ℕ, zero, suc, ◌+◌, ◌*◌, ◌<◌, ◌≤◌, min, Bool, true, false, cond, not, List, [], ◌∷◌, ◌++◌, length, take, take-suc, take_all, Some, None, Option, Err, Ok, Result, refl, sym, ap, ◌∙◌, ap₂, le_refl, add-one, suc-mul, arith}
use Rattle.std.proofs.Math.Nat.{mul-le-mul}
use Rattle.std.proofs.lemmas.Bool.{not-false}
use Rattle.model.specs.Meanings.{Meaning}
use Rattle.model.specs.States.{is_state, nothing}
use Rattle.model.specs.Tests.{lowest}
use Rattle.model.specs.declared.Round.TheVariants.{Initial, Update}
use Rattle.model.proofs.Bounded.{lowest_at}
use Rattle.model.proofs.Lowest.{lowest_clear}
use Rattle.model.proofs.States.{state_parts}
use Rattle.sealing.specs.Orders.{AtomsInOrder}
use Rattle.units.specs.Counting.{total}
use Rattle.units.specs.Evidence.{state_at, misses_some, outcomes, certificate_count}
use Rattle.units.specs.Sealing.{verdict, at_lowest, if_so, ◌else◌}
use Rattle.units.specs.Units.{kind_of_round, old_state}
use Rattle.units.specs.declared.refusal.Refusal.{Refusal}
use Rattle.units.specs.declared.refusal.Refusal.TheVariants.{NotAState, FalseIn, InitialStateMissing, SuccessorMissing}
use Rattle.evidence.specs.Judging.{answer_of, certificate_answer, round_answer}
use Rattle.evidence.proofs.Counted.{few}
use Rattle.evidence.proofs.Steps.{nothing_state}

-- the answer, by what each check finds
abbrev certificate_by : Option ℕ → Option ℕ → Bool → Option ℕ → ℕ → Result ℕ Refusal
certificate_by foreign wrong initial missing count =
    answer_of (at_lowest NotAState foreign else at_lowest FalseIn wrong else if_so InitialStateMissing initial else at_lowest SuccessorMissing missing) count

total_append : {X : Type 0} (f : X → ℕ) (xs ys : List X) → total f (xs ++ ys) ≡ total f xs + total f ys
total_append f [] ys = omega arith
total_append f (x ∷ xs) ys = omega (arith, total_append f xs ys)

module _ (m : Meaning) (p : List ℕ → Bool) (ss : List (List ℕ)) where
  abbrev pub foreign : ℕ → Bool
  foreign i = not (is_state m.outline (state_at ss i))

  abbrev pub wrong : ℕ → Bool
  wrong i = not (p (state_at ss i))

  abbrev pub missing : ℕ → Bool
  missing i = misses_some m ss Update (state_at ss i)

  pub is_foreign : (i : ℕ) → lowest foreign (length ss) ≡ Some i → Err (NotAState i) ≡ certificate_answer m p ss
  is_foreign i e = sym (ap (λ f. certificate_by f (lowest wrong (length ss)) (misses_some m ss Initial nothing) (lowest missing (length ss)) (certificate_count m ss)) e)

  pub is_wrong : lowest foreign (length ss) ≡ None → (i : ℕ) → lowest wrong (length ss) ≡ Some i → Err (FalseIn i) ≡ certificate_answer m p ss
  is_wrong one i e = sym (ap₂ (λ f w. certificate_by f w (misses_some m ss Initial nothing) (lowest missing (length ss)) (certificate_count m ss)) one e)

  module _ (one : lowest foreign (length ss) ≡ None) (two : lowest wrong (length ss) ≡ None) where
    passed_two : (b : Bool) (o : Option ℕ) → certificate_by (lowest foreign (length ss)) (lowest wrong (length ss)) b o (certificate_count m ss) ≡ certificate_by None None b o (certificate_count m ss)
    passed_two b o = ap₂ (λ f w. certificate_by f w b o (certificate_count m ss)) one two

    pub lacks_initial : misses_some m ss Initial nothing ≡ true → Err InitialStateMissing ≡ certificate_answer m p ss
    lacks_initial e = sym (passed_two _ _ ∙ ap (λ b. certificate_by None None b (lowest missing (length ss)) (certificate_count m ss)) e)

    module _ (three : misses_some m ss Initial nothing ≡ false) where
      passed_three : (o : Option ℕ) → certificate_by (lowest foreign (length ss)) (lowest wrong (length ss)) (misses_some m ss Initial nothing) o (certificate_count m ss) ≡ certificate_by None None false o (certificate_count m ss)
      passed_three o = passed_two _ o ∙ ap (λ b. certificate_by None None b o (certificate_count m ss)) three

      pub lacks_successor : (i : ℕ) → i < length ss → lowest missing i ≡ None → missing i ≡ true → Err (SuccessorMissing i) ≡ certificate_answer m p ss
      lacks_successor i l before e = sym (passed_three _ ∙ ap (λ o. certificate_by None None false o (certificate_count m ss)) (lowest_at missing (length ss) i l before e))

      pub accepted : lowest missing (length ss) ≡ None → Ok (certificate_count m ss) ≡ certificate_answer m p ss
      accepted e = sym (passed_three _ ∙ ap (λ o. certificate_by None None false o (certificate_count m ss)) e)

-- the answer of one round
answer_missing : (b : Bool) (n : ℕ) (r : Option ℕ) → r ≡ cond b None (Some n) → r ≡ None → b ≡ true
answer_missing true n r e none = refl
answer_missing false n r e none = let z : ◌≡◌ {A = Option ℕ} (Some n) None = sym e ∙ none in cc

answer_there : (b : Bool) (n x : ℕ) (r : Option ℕ) → r ≡ cond b None (Some n) → r ≡ Some x → (b ≡ false) × (x ≡ n)
answer_there true n x r e some = let z : ◌≡◌ {A = Option ℕ} None (Some x) = sym e ∙ some in let zero-one : ◌≡◌ {A = ℕ} 0 1 = cc in absurd (omega arith)
answer_there false n x r e some = let z : ◌≡◌ {A = Option ℕ} (Some n) (Some x) = sym e ∙ some in (refl, (cc))

module _ (m : Meaning) (ss : List (List ℕ)) where
  pub round_missing : (before : Option (List ℕ)) (r : Option ℕ) → r ≡ round_answer m before ss → r ≡ None → misses_some m ss (kind_of_round before) (old_state before) ≡ true
  round_missing before r e none = answer_missing (misses_some m ss (kind_of_round before) (old_state before)) (length (outcomes m (kind_of_round before) (old_state before))) r e none

  pub round_there : (before : Option (List ℕ)) (r : Option ℕ) (x : ℕ) → r ≡ round_answer m before ss → r ≡ Some x → (misses_some m ss (kind_of_round before) (old_state before) ≡ false) × (x ≡ length (outcomes m (kind_of_round before) (old_state before)))
  round_there before r x e some = answer_there (misses_some m ss (kind_of_round before) (old_state before)) (length (outcomes m (kind_of_round before) (old_state before))) x r e some

  -- so many outcomes of the rounds from a state
  abbrev pub many : List ℕ → ℕ
  many s = length (outcomes m Update s)

  abbrev pub first : ℕ
  first = length (outcomes m Initial nothing)

  pub total_none : (count : ℕ) → count ≡ first → count < 4294967296 → count ≡ min (first + total many (take 0 ss)) 4294967295
  total_none count e l = omega arith

  total_next : (i : ℕ) → i < length ss → total many (take (suc i) ss) ≡ total many (take i ss) + (many (state_at ss i) + 0)
  total_next i l = ap (total many) (take-suc ss i [] l) ∙ total_append many (take i ss) (state_at ss i ∷ [])

  pub total_more : (i count more all : ℕ) → i < length ss → count ≡ min (first + total many (take i ss)) 4294967295 → more ≡ many (state_at ss i) → all ≡ min (count + more) 4294967295 → all ≡ min (first + total many (take (i + 1) ss)) 4294967295
  total_more i count more all l before e sum =
      let next : total many (take (i + 1) ss) ≡ total many (take i ss) + (many (state_at ss i) + 0) = ap (λ n. total many (take n ss)) (add-one i) ∙ total_next i l in
      omega (arith, next)

  -- all outcomes have room in 32 bits
  module _ (fit : verdict m ≡ None) (order : List ℕ) (ordered : AtomsInOrder m.outline order) (states : (i : ℕ) → i < length ss → is_state m.outline (state_at ss i) ≡ true) where
    few_each : (i : ℕ) → i < length ss → many (state_at ss i) ≤ 1048576
    few_each i l = few m fit (Some (state_at ss i)) (state_parts m.outline (state_at ss i) (states i l)).within order ordered

    few_first : first ≤ 1048576
    few_first = few m fit None (state_parts m.outline nothing (nothing_state m)).within order ordered

    few_so_far : (i : ℕ) → i ≤ length ss → total many (take i ss) ≤ i * 1048576
    few_so_far zero l = omega arith
    few_so_far (suc i) l =
        let each = few_each i (omega arith) in
        let before = few_so_far i (omega arith) in
        let next = total_next i (omega arith) in
        let grown : suc i * 1048576 ≡ i * 1048576 + 1048576 = suc-mul i 1048576 in
        omega (arith, next, grown)

    pub total_all : (i count : ℕ) → length ss ≤ 2048 → i ≡ length ss → count ≡ min (first + total many (take i ss)) 4294967295 → count ≡ certificate_count m ss
    total_all i count l e counted =
        let whole : total many (take i ss) ≡ total many ss = ap (total many) (take_all i ss (omega arith)) in
        let most = few_so_far i (omega arith) in
        let least = few_first in
        let room : i * 1048576 ≤ 2048 * 1048576 = mul-le-mul {n₂ = 2048} (omega arith) (le_refl 1048576) in
        omega (arith, whole)

-- no state fails the test of being one
pub all_states_there : (m : Meaning) (ss : List (List ℕ)) → lowest (λ i. not (is_state m.outline (state_at ss i))) (length ss) ≡ None → (i : ℕ) → i < length ss → is_state m.outline (state_at ss i) ≡ true
all_states_there m ss e i l = not-false (is_state m.outline (state_at ss i)) (lowest_clear (λ i. not (is_state m.outline (state_at ss i))) (length ss) e i l)
