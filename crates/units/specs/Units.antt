-- Units: what each call answers and leaves. A refused call alters nothing but where this says so.
pub use Rattle.units.specs.Models.{Mark, open_mark, held, broken, Claim, Phase, idle, standing, in_round, UnitModel, Slip, standing_state, kind_of_round, old_state}
use Rattle.std.specs.Prelude.{ℕ, zero, suc, ◌+◌, max, Bool, true, false, cond, not, ◌&&◌, ◌||◌, List, [], ◌∷◌, ◌++◌, map, length, replicate, ℤ, pos, negsuc, is_some, Some, None, Option, ◌==◌, nat_le, nat_lt, slice_index_or, slice_set}
use Rattle.std.specs.List.{slice_get}
use Rattle.composition.specs.Meanings.{renamed, hidden, joined}
use Rattle.language.specs.Expressions.{Truth, Seen, Reading, good, bad, truth_value, truth_renamed, whole_truth}
use Rattle.model.specs.Meanings.{Meaning, OutlineFacts}
use Rattle.model.specs.States.{value, nothing}
use Rattle.model.specs.Tests.{some, lowest, count}
use Rattle.model.specs.declared.Round.{Round}
use Rattle.model.specs.declared.Round.TheVariants.{Initial, Update}
use Rattle.theory.specs.Enumerations.{below}
use Rattle.units.specs.Counting.{any}
use Rattle.units.specs.Evidence.{states_in, wrong_size, certificate_refusal, certificate_count, run_refusal}
use Rattle.units.specs.Sealing.{at_lowest, if_so, is_external, verdict, ◌else◌}
use Rattle.units.specs.declared.refusal.Refusal.{Refusal}
use Rattle.units.specs.declared.refusal.Refusal.TheVariants.{TooManyClaims, NotIdle, NoRoomForClaim, WrongClaim, NoSuchClaim, WrongSize, NotAllHeld, RoundOpen, WrongValue, WrongSlip, NoRoundLeft, NoAtomToFire, MustWait, ChoiceNotOpen, AtomsMissing}

abbrev pub holds : Claim → List ℕ → Bool
holds c s = truth_value c.says (value s) (value nothing)

-- an answer is a value, or a refusal
pub data Answer (A : Type 0) : Type 0 where
  done : A → Answer A
  refused : Refusal → Answer A

-- what a call leaves, and what it answers
pub record Outcome (A : Type 0) : Type 0 where
  pub unit : UnitModel
  pub answer : Answer A

-- refused, with the unit as given; or else this
abbrev pub refused_or : {A : Type 0} → Option Refusal → UnitModel → Outcome A → Outcome A
refused_or None before o = o
refused_or (Some f) before o = record { unit = before; answer = refused f }

abbrev pub unless : {A : Type 0} → Option Refusal → UnitModel → UnitModel → A → Outcome A
unless f before after a = refused_or f before (record { unit = after; answer = done a })

abbrev pub with_claims : UnitModel → List Claim → UnitModel
with_claims u cs = record { meaning = u.meaning; number = u.number; rounds = u.rounds; crowded = u.crowded; claims = cs; phase = u.phase }

abbrev pub with_phase : UnitModel → Phase → UnitModel
with_phase u p = record { meaning = u.meaning; number = u.number; rounds = u.rounds; crowded = u.crowded; claims = u.claims; phase = p }

-- Sealing

-- the verdict on a drawing with so many claims brought to it: refused, after all others, where there are more than eight
abbrev pub verdict_with : Meaning → Bool → Option Refusal
verdict_with m crowded = verdict m else if_so TooManyClaims crowded

abbrev pub verdict_of : UnitModel → Option Refusal
verdict_of u = verdict_with u.meaning u.crowded

-- an unfit unit has no claims
abbrev pub kept_claims : Option Refusal → List Claim → List Claim
kept_claims None cs = cs
kept_claims (Some f) cs = []

-- a unit made anew, idle, of a drawing and the claims brought with it
abbrev pub fresh_unit : Meaning → ℕ → ℕ → List Claim → UnitModel
fresh_unit m number rounds cs = record {
  meaning = m;
  number = number;
  rounds = rounds;
  crowded = nat_lt 8 (length cs);
  claims = kept_claims (verdict_with m (nat_lt 8 (length cs))) cs;
  phase = idle;
}

abbrev pub seal : Meaning → ℕ → UnitModel
seal m number = fresh_unit m number 0 []

-- Piles of units: each old unit is used up, and the new one keeps the (left) number and the larger count of rounds.

abbrev pub claim_renamed : ℕ → ℕ → Claim → Claim
claim_renamed a b c = record { says = truth_renamed a b c.says; mark = c.mark }

-- a run that broke a part need not break the join
abbrev pub mark_joined : Mark → Mark
mark_joined open_mark = open_mark
mark_joined held = held
mark_joined broken = open_mark

abbrev pub claim_joined : Claim → Claim
claim_joined c = record { says = c.says; mark = mark_joined c.mark }

abbrev pub rename_unit : UnitModel → ℕ → ℕ → UnitModel
rename_unit u a b = fresh_unit (renamed u.meaning a b) u.number u.rounds (map (claim_renamed a b) u.claims)

abbrev pub hide_unit : UnitModel → ℕ → UnitModel
hide_unit u n = fresh_unit (hidden u.meaning n) u.number u.rounds u.claims

abbrev pub join_units : UnitModel → UnitModel → UnitModel
join_units l r = fresh_unit (joined l.meaning r.meaning) l.number (max l.rounds r.rounds) (map claim_joined l.claims ++ map claim_joined r.claims)

-- Claims

abbrev pub is_idle : Phase → Bool
is_idle idle = true
is_idle (standing s) = false
is_idle (in_round before new fired) = false

-- a claim sees old values of the module's variables, and nothing new
abbrev pub claim_sight : Meaning → Seen
claim_sight m = record { old = λ n. is_some (m.outline.kind n); new = λ n. false }

-- what bytes claim: 1 to 64 of them, one truth of at most eight levels
abbrev pub claim_reading : Meaning → List ℕ → Reading Truth
claim_reading m bs = cond (length bs == 0 || nat_lt 64 (length bs)) (bad 0) (whole_truth 8 (claim_sight m) bs)

abbrev pub is_wrong_reading : {X : Type 0} → Reading X → Bool
is_wrong_reading (good x end) = false
is_wrong_reading (bad place) = true

abbrev pub claim_refusal : UnitModel → List ℕ → Option Refusal
claim_refusal u bs =
    verdict_of u else if_so NotIdle (not (is_idle u.phase)) else if_so NoRoomForClaim (nat_le 8 (length u.claims)) else if_so WrongClaim (is_wrong_reading (claim_reading u.meaning bs))

-- the claims with one more, which starts open
abbrev pub claims_with : List Claim → Reading Truth → List Claim
claims_with cs (good p end) = cs ++ (record { says = p; mark = open_mark } ∷ [])
claims_with cs (bad place) = cs

-- the answer is the claim's number, from 0
abbrev pub claim : UnitModel → List ℕ → Outcome ℕ
claim u bs = unless (claim_refusal u bs) u (with_claims u (claims_with u.claims (claim_reading u.meaning bs))) (length u.claims)

-- Evidence. It is judged under any mark, in any phase.

abbrev pub claims_marked : ℕ → Mark → List Claim → List Claim
claims_marked i mark [] = []
claims_marked zero mark (c ∷ cs) = record { says = c.says; mark = mark } ∷ cs
claims_marked (suc i) mark (c ∷ cs) = c ∷ claims_marked i mark cs

-- what is asked of the claim with this number; refused where there is none
abbrev pub of_claim : Option Claim → (Claim → Option Refusal) → Option Refusal
of_claim None check = Some NoSuchClaim
of_claim (Some c) check = check c

abbrev pub certify_refusal : UnitModel → ℕ → List ℕ → Option Refusal
certify_refusal u i bs =
    verdict_of u else of_claim (slice_get u.claims i) (λ c. if_so WrongSize (wrong_size bs) else certificate_refusal u.meaning (holds c) (states_in bs))

-- an accepted certificate marks the claim held; the answer is the count
abbrev pub certify : UnitModel → ℕ → List ℕ → Outcome ℕ
certify u i bs = unless (certify_refusal u i bs) u (with_claims u (claims_marked i held u.claims)) (certificate_count u.meaning (states_in bs))

abbrev pub refute_refusal : UnitModel → ℕ → List ℕ → Option Refusal
refute_refusal u i bs =
    verdict_of u else of_claim (slice_get u.claims i) (λ c. if_so WrongSize (wrong_size bs) else run_refusal u.meaning (holds c) (states_in bs))

-- an accepted run marks the claim broken; the answer is its length
abbrev pub refute : UnitModel → ℕ → List ℕ → Outcome ℕ
refute u i bs = unless (refute_refusal u i bs) u (with_claims u (claims_marked i broken u.claims)) (length (states_in bs))

-- Rounds

abbrev pub is_held : Mark → Bool
is_held open_mark = false
is_held held = true
is_held broken = false

-- no claim, or one that is not held
abbrev pub not_all_held : List Claim → Bool
not_all_held [] = true
not_all_held (c ∷ cs) = any (λ d. not (is_held d.mark)) (c ∷ cs)

abbrev pub round_open : Phase → Bool
round_open idle = false
round_open (standing s) = false
round_open (in_round before new fired) = true

-- a value above its top at an external name, or not 0 at any other
abbrev pub wrong_value : OutlineFacts → List ℕ → ℕ → Bool
wrong_value o given n = nat_lt (cond (is_external (o.kind n)) (o.top n) 0) (value given n)

abbrev pub open_refusal : UnitModel → List ℕ → Option Refusal
open_refusal u given =
    verdict_of u
    else if_so NotAllHeld (not_all_held u.claims)
    else if_so RoundOpen (round_open u.phase)
    else at_lowest WrongValue (lowest (wrong_value u.meaning.outline given) 32)
    else if_so NoRoundLeft (u.rounds == 4294967295)

-- with no state standing the round is the initialization
abbrev pub with_round : UnitModel → List ℕ → UnitModel
with_round u given = record {
  meaning = u.meaning;
  number = u.number;
  rounds = u.rounds + 1;
  crowded = u.crowded;
  claims = u.claims;
  phase = in_round (standing_state u.phase) given (replicate 16 false);
}

-- the answer is the slip, with the unit's number and the round's, from 1
abbrev pub open_round : UnitModel → List ℕ → Outcome Slip
open_round u given = unless (open_refusal u given) u (with_round u given) (record { unit = u.number; round = u.rounds + 1 })

-- it is not the slip of the round that is open
abbrev pub wrong_slip : UnitModel → Slip → Bool
wrong_slip u slip = not (round_open u.phase && slip.unit == u.number && slip.round == u.rounds)

abbrev pub has_fired : List Bool → ℕ → Bool
has_fired fired a = slice_index_or fired a false

-- it awaits a name whose atom has not fired
abbrev pub must_wait : OutlineFacts → List Bool → ℕ → Bool
must_wait o fired a = some (λ n. o.awaits a n && some (λ b. o.controls b n && not (has_fired fired b)) o.atoms) 32

abbrev pub fire_refusal_in : Meaning → Phase → ℕ → ℕ → Option Refusal
fire_refusal_in m idle a k = None
fire_refusal_in m (standing s) a k = None
fire_refusal_in m (in_round before new fired) a k =
    if_so NoAtomToFire (not (nat_lt a m.outline.atoms) || has_fired fired a)
    else if_so MustWait (must_wait m.outline fired a)
    else if_so ChoiceNotOpen (not (m.acts.opens (kind_of_round before) a k (value (old_state before)) (value new)))

abbrev pub fire_refusal : UnitModel → Slip → ℕ → ℕ → Option Refusal
fire_refusal u slip a k = verdict_of u else if_so WrongSlip (wrong_slip u slip) else fire_refusal_in u.meaning u.phase a k

-- a number in range, as a value
abbrev pub as_value : ℤ → ℕ
as_value (pos x) = x
as_value (negsuc x) = 0

-- the values made so far, with those that atom a's choice k gives
abbrev pub values_made : Meaning → Option (List ℕ) → List ℕ → ℕ → ℕ → List ℕ
values_made m before new a k =
    map (λ n. cond (m.outline.controls a n) (as_value (m.acts.gives (kind_of_round before) a k n (value (old_state before)) (value new))) (value new n)) (below 32)

abbrev pub phase_fired : Meaning → Phase → ℕ → ℕ → Phase
phase_fired m idle a k = idle
phase_fired m (standing s) a k = standing s
phase_fired m (in_round before new fired) a k = in_round before (values_made m before new a k) (slice_set fired a true)

-- how many atoms are yet to fire
abbrev pub yet_to_fire : Meaning → Phase → ℕ
yet_to_fire m idle = 0
yet_to_fire m (standing s) = 0
yet_to_fire m (in_round before new fired) = count (λ a. not (has_fired fired a)) m.outline.atoms

abbrev pub fire : UnitModel → Slip → ℕ → ℕ → Outcome ℕ
fire u slip a k =
    unless (fire_refusal u slip a k) u (with_phase u (phase_fired u.meaning u.phase a k)) (yet_to_fire u.meaning (phase_fired u.meaning u.phase a k))

-- what stands where a round is withdrawn
abbrev pub back_to : Option (List ℕ) → Phase
back_to None = idle
back_to (Some s) = standing s

abbrev pub phase_withdrawn : Phase → Phase
phase_withdrawn idle = idle
phase_withdrawn (standing s) = standing s
phase_withdrawn (in_round before new fired) = back_to before

-- what stands where a round is done
abbrev pub phase_ended : Phase → Phase
phase_ended idle = idle
phase_ended (standing s) = standing s
phase_ended (in_round before new fired) = standing new

-- atoms are missing. This refusal withdraws the round.
abbrev pub end_if : Bool → UnitModel → Outcome ℕ
end_if true u = record { unit = with_phase u (phase_ended u.phase); answer = done 0 }
end_if false u = record { unit = with_phase u (phase_withdrawn u.phase); answer = refused AtomsMissing }

-- end uses up the slip, refused or not
abbrev pub end_round : UnitModel → Slip → Outcome ℕ
end_round u slip = refused_or (verdict_of u else if_so WrongSlip (wrong_slip u slip)) u (end_if (yet_to_fire u.meaning u.phase == 0) u)

-- stop withdraws any round and lets no state stand
abbrev pub stop : UnitModel → Outcome ℕ
stop u = unless (verdict_of u) u (with_phase u idle) 0

-- What look shows, never refused: the phase, the marks, the state that stands, and in a round the atoms that have fired
-- and the values given and made; 0 and false where there is nothing.
pub data PhaseShown : Type 0 where
  shows_idle : PhaseShown
  shows_standing : PhaseShown
  shows_round : PhaseShown

pub record Shown : Type 0 where
  pub phase : PhaseShown
  pub marks : List Mark
  pub state : List ℕ
  pub fired : List Bool
  pub values : List ℕ

abbrev pub phase_shown : Phase → PhaseShown
phase_shown idle = shows_idle
phase_shown (standing s) = shows_standing
phase_shown (in_round before new fired) = shows_round

abbrev pub fired_shown : Phase → List Bool
fired_shown idle = replicate 16 false
fired_shown (standing s) = replicate 16 false
fired_shown (in_round before new fired) = fired

abbrev pub values_shown : Phase → List ℕ
values_shown idle = nothing
values_shown (standing s) = nothing
values_shown (in_round before new fired) = new

abbrev pub look : UnitModel → Shown
look u = record {
  phase = phase_shown u.phase;
  marks = map (λ (c : Claim). c.mark) u.claims;
  state = old_state (standing_state u.phase);
  fired = fired_shown u.phase;
  values = values_shown u.phase;
}
