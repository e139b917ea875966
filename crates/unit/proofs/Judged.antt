-- Evidence judged: the states that bytes list, and what is answered.
use Rattle.std.proofs.Common.{◌≡◌, ℕ, zero, suc, ◌+◌, ◌*◌, ◌/◌, Bool, true, false, List, ◌∷◌, map, take, drop, length, ◌%◌, ◌≤◌, not, ◌||◌, eqb, ltb, Some, None, Err, Option, sym, refl, ap, ◌∙◌, arith}
use Rattle.std.proofs.lemmas.Bool.{eq-eqb, false≢true, le-ltb, ne_eqb, true≢false}
use Rattle.std.proofs.lemmas.List.{drop-drop}
use Rattle.std.proofs.lemmas.Option.{slice_get-map}
use Rattle.std.specs.List.{range_with_len, slice_get}
use Rattle.std.specs.Option.{option_map}
use Rattle.std.specs.Simd.{first_chunks}
use Rattle.theory.specs.Enumerations.{below}
use Rattle.units.specs.Evidence.{states_in, wrong_size}
use Rattle.units.specs.Sealing.{if_so, ◌else◌}
use Rattle.units.specs.Units.{Claim, of_claim}
use Rattle.units.specs.declared.refusal.Refusal.{Refusal}
use Rattle.units.specs.declared.refusal.Refusal.TheVariants.{NoSuchClaim, WrongSize}
use Rattle.evidence.specs.Judging.{answer_of as unless_refused}
use Rattle.unit.specs.Claims.{claim_of, claims_of}
use Rattle.unit.specs.declared.claims.Claim as claims
use Rattle.unit.specs.declared.claims.Claims.{Claims}

-- chunks from a place on, one after the other
chunks_from : (n a k : ℕ) (bs : List ℕ) → first_chunks n k (drop (n * a) bs) ≡ map (λ i. take n (drop (n * i) bs)) (range_with_len a k)
chunks_from n a zero bs = refl
chunks_from n a (suc k) bs =
    let next : n * a + n ≡ n * (a + 1) = omega arith in
    ap (λ rest. take n (drop (n * a) bs) ∷ first_chunks n k rest) (drop-drop n (n * a) bs ∙ ap (λ j. drop j bs) next)
    ∙ ap (λ rest. take n (drop (n * a) bs) ∷ rest) (chunks_from n (a + 1) k bs)

-- the chunks of 32 bytes are the states that are listed
pub chunks_are_states : (bs : List ℕ) → first_chunks 32 (length bs / 32) bs ≡ states_in bs
unfolding below
chunks_are_states bs = chunks_from 32 0 (length bs / 32) bs

-- the claim that a number stands for
pub claim_there : (cs : Claims) (number : ℕ) (c : claims.Claim) → slice_get cs.table.items number ≡ Some c → slice_get (claims_of cs) number ≡ Some (claim_of c)
claim_there cs number c e = slice_get-map claim_of cs.table.items number ∙ ap (option_map claim_of) e

pub no_claim_there : (cs : Claims) (number : ℕ) → slice_get cs.table.items number ≡ None → slice_get (claims_of cs) number ≡ None
no_claim_there cs number e = slice_get-map claim_of cs.table.items number ∙ ap (option_map claim_of) e

-- what is answered, on each way through
module _ (found : Option Claim) (bs : List ℕ) (check : Claim → Option Refusal) (n : ℕ) where
  pub no_claim_answer : (v : Option Refusal) → v ≡ None → found ≡ None → Err NoSuchClaim ≡ unless_refused (v else of_claim found (λ c. if_so WrongSize (wrong_size bs) else check c)) n
  no_claim_answer v fit none =
      sym (ap (λ w. unless_refused (w else of_claim found (λ c. if_so WrongSize (wrong_size bs) else check c)) n) fit
      ∙ ap (λ f. unless_refused (of_claim f (λ c. if_so WrongSize (wrong_size bs) else check c)) n) none)

  pub wrong_size_answer : (v : Option Refusal) (c : Claim) → v ≡ None → found ≡ Some c → wrong_size bs ≡ true →
      Err WrongSize ≡ unless_refused (v else of_claim found (λ d. if_so WrongSize (wrong_size bs) else check d)) n
  wrong_size_answer v c fit there wrong =
      sym (ap (λ w. unless_refused (w else of_claim found (λ d. if_so WrongSize (wrong_size bs) else check d)) n) fit
      ∙ ap (λ f. unless_refused (of_claim f (λ d. if_so WrongSize (wrong_size bs) else check d)) n) there
      ∙ ap (λ b. unless_refused (if_so WrongSize b else check c) n) wrong)

  pub states_answer : (v : Option Refusal) (c : Claim) → v ≡ None → found ≡ Some c → wrong_size bs ≡ false →
      unless_refused (check c) n ≡ unless_refused (v else of_claim found (λ d. if_so WrongSize (wrong_size bs) else check d)) n
  states_answer v c fit there right =
      sym (ap (λ w. unless_refused (w else of_claim found (λ d. if_so WrongSize (wrong_size bs) else check d)) n) fit
      ∙ ap (λ f. unless_refused (of_claim f (λ d. if_so WrongSize (wrong_size bs) else check d)) n) there
      ∙ ap (λ b. unless_refused (if_so WrongSize b else check c) n) right)

-- sizes that are right: whole states, at least one and at most 2,048
pub right_size : (bs : List ℕ) → length bs % 32 ≡ 0 → (length bs / 32 ≡ 0 → ⊥) → length bs / 32 ≤ 2048 → wrong_size bs ≡ false
right_size bs whole some few = go (eqb (length bs % 32) 0) (eqb (length bs) 0) (ltb 2048 (length bs / 32)) (eq-eqb (length bs % 32) 0 whole) (ne_eqb (length bs) 0 (λ e. some (omega arith))) (le-ltb 2048 (length bs / 32) few)
  where
    go : (a b k : Bool) → a ≡ true → b ≡ false → k ≡ false → (not a || b || k) ≡ false
    go true false false e f g = refl
    go true false true e f g = g
    go true true k e f g = absurd (true≢false f)
    go false b k e f g = absurd (false≢true e)

pub ne_pos : (n : ℕ) → (n ≡ 0 → ⊥) → 1 ≤ n
ne_pos zero h = absurd (h refl)
ne_pos (suc n) h = omega arith
