-- The rules of a unit's calls: a relation between a unit, a call with what it carried, what is answered, and the unit after. For each
-- call there is what has to hold for it to be accepted and what follows then, and the reasons for which it is refused.
use Rattle.std.specs.Prelude.{◌≡◌, ℕ, ◌+◌, ◌<◌, ◌≤◌, Bool, true, false, not, ◌⊎◌, List, [], ◌∷◌, ◌++◌, length, replicate, is_some, pos, Some, None, Option, ◌≢◌, slice_index_or, slice_set}
use Rattle.std.specs.List.{slice_get}
use Rattle.language.specs.Expressions.{Truth, truth_bytes, truth_levels, truth_sees}
use Rattle.model.specs.Meanings.{Meaning}
use Rattle.model.specs.States.{value}
use Rattle.model.specs.Tests.{count}
use Rattle.model.specs.declared.Kind.TheVariants.{External}
use Rattle.reactive.specs.Outcomes.{CountedOver}
use Rattle.theory.specs.Members.{Member}
use Rattle.units.specs.Models.{Mark, open_mark, held, broken, Claim, Phase, idle, standing, in_round, UnitModel, Slip, standing_state, kind_of_round, old_state}
use Rattle.units.specs.declared.refusal.Refusal.{Refusal}
use Rattle.units.specs.declared.refusal.Refusal.TheVariants.{NotIdle, NoRoomForClaim, WrongClaim, NoSuchClaim, WrongSize, NotAState, FalseIn, TrueInLast, InitialStateMissing, NotInitial, SuccessorMissing, NotASuccessor, NotAllHeld, RoundOpen, WrongValue, WrongSlip, NoRoundLeft, NoAtomToFire, MustWait, ChoiceNotOpen, AtomsMissing}
use Rattle.life.specs.Fitness.{IsFit, Unfit}
use Rattle.life.specs.Reasons.{Because, AtLowest, ◌or-else◌}
use Rattle.life.specs.Subject.{StateRow, InitialRow, NextRow, RowAfter, IsTrueAt, IsFalseAt, Certifies, Breaks, WritesStates}

-- the unit with other claims, or elsewhere
abbrev pub claiming_these : UnitModel → List Claim → UnitModel
claiming_these u cs = record {
  meaning = u.meaning;
  number = u.number;
  rounds = u.rounds;
  crowded = u.crowded;
  claims = cs;
  phase = u.phase;
}

abbrev pub moved_to : UnitModel → Phase → UnitModel
moved_to u p = record {
  meaning = u.meaning;
  number = u.number;
  rounds = u.rounds;
  crowded = u.crowded;
  claims = u.claims;
  phase = p;
}

-- a round that began with this state standing, if any, with the values given and made so far and the atoms that have fired
abbrev pub InRound : UnitModel → Option (List ℕ) → List ℕ → List Bool → Type 0
InRound u before new fired = u.phase ≡ in_round before new fired

-- some round is open
pub record HasRound (u : UnitModel) : Type 0 where
  pub before : Option (List ℕ)
  pub new : List ℕ
  pub fired : List Bool
  pub open_now : InRound u before new fired

-- Claims

-- The bytes, 1 to 64, are those of a truth of at most eight levels that sees old values of the module's variables alone.
pub record Says (m : Meaning) (bytes : List ℕ) (p : Truth) : Type 0 where
  pub some : 1 ≤ length bytes
  pub few : length bytes ≤ 64
  pub written : bytes ≡ truth_bytes p
  pub levels : truth_levels p ≤ 8
  pub sees : truth_sees (record { old = λ n. is_some (m.outline.kind n); new = λ n. false }) p ≡ true

-- the claim is added, open, and its number answered
pub record ClaimMade (u : UnitModel) (bytes : List ℕ) (n : ℕ) (w : UnitModel) : Type 0 where
  pub fit : IsFit u
  pub idle_now : u.phase ≡ idle
  pub room : length u.claims < 8
  pub truth : Truth
  pub says : Says u.meaning bytes truth
  pub number : n ≡ length u.claims
  pub after : w ≡ claiming_these u (u.claims ++ (record { says = truth; mark = open_mark } ∷ []))

abbrev pub ClaimRefused : UnitModel → List ℕ → Refusal → Type 0
ClaimRefused u bytes =
    Unfit u
    or-else Because (u.phase ≢ idle) NotIdle
    or-else Because (8 ≤ length u.claims) NoRoomForClaim
    or-else Because ((p : Truth) → Says u.meaning bytes p → ⊥) WrongClaim

-- Evidence

-- the claim that has this number, and the states that the bytes write
pub record Evidence (u : UnitModel) (i : ℕ) (bytes : List ℕ) : Type 0 where
  pub claim : Claim
  pub there : slice_get u.claims i ≡ Some claim
  pub states : List (List ℕ)
  pub writes : WritesStates bytes states

-- the claims with this one marked anew, and all else as it was
abbrev pub marking : UnitModel → ℕ → Claim → Mark → UnitModel
marking u i c mark = claiming_these u (slice_set u.claims i (record { says = c.says; mark = mark }))

-- the claim is marked held, and the count answered
pub record Certified (u : UnitModel) (i : ℕ) (bytes : List ℕ) (n : ℕ) (w : UnitModel) : Type 0 where
  pub fit : IsFit u
  pub evidence : Evidence u i bytes
  pub certifies : Certifies u.meaning evidence.claim evidence.states
  pub counted : CountedOver u.meaning evidence.states n
  pub after : w ≡ marking u i evidence.claim held

-- the claim is marked broken, and the run's length answered
pub record Refuted (u : UnitModel) (i : ℕ) (bytes : List ℕ) (n : ℕ) (w : UnitModel) : Type 0 where
  pub fit : IsFit u
  pub evidence : Evidence u i bytes
  pub breaks : Breaks u.meaning evidence.claim evidence.states
  pub counted : n ≡ length evidence.states
  pub after : w ≡ marking u i evidence.claim broken

-- a state that the list lacks
pub record Lacks (P : List ℕ → Type 0) (ss : List (List ℕ)) : Type 0 where
  pub state : List ℕ
  pub is_one : P state
  pub unlisted : Member state ss → ⊥

abbrev pub state_at : List (List ℕ) → ℕ → List ℕ
state_at ss i = slice_index_or ss i []

abbrev pub NoCertificate : Meaning → Claim → List (List ℕ) → Refusal → Type 0
NoCertificate m c ss =
    AtLowest (λ i. StateRow m (state_at ss i) → ⊥) (length ss) NotAState
    or-else AtLowest (λ i. IsFalseAt c (value (state_at ss i))) (length ss) FalseIn
    or-else Because (Lacks (InitialRow m) ss) InitialStateMissing
    or-else AtLowest (λ i. Lacks (NextRow m (state_at ss i)) ss) (length ss) SuccessorMissing

-- the state at this place is no successor of the one before
pub record NoStep (m : Meaning) (ss : List (List ℕ)) (place : ℕ) : Type 0 where
  pub before : ℕ
  pub next : place ≡ before + 1
  pub unstepped : NextRow m (state_at ss before) (state_at ss (before + 1)) → ⊥

-- the claim is true in the last state, which stands at this place
pub record TrueAtEnd (c : Claim) (ss : List (List ℕ)) (r : Refusal) : Type 0 where
  pub last : ℕ
  pub is_last : last + 1 ≡ length ss
  pub true_there : IsTrueAt c (value (state_at ss last))
  pub is : r ≡ TrueInLast last

abbrev pub NoRun : Meaning → Claim → List (List ℕ) → Refusal → Type 0
NoRun m c ss =
    AtLowest (λ i. StateRow m (state_at ss i) → ⊥) (length ss) NotAState
    or-else Because (InitialRow m (state_at ss 0) → ⊥) NotInitial
    or-else AtLowest (NoStep m ss) (length ss) NotASuccessor
    or-else TrueAtEnd c ss

-- there is the claim and there are states, and this is the reason against them
pub record Against (why : Meaning → Claim → List (List ℕ) → Refusal → Type 0) (u : UnitModel) (i : ℕ) (bytes : List ℕ) (r : Refusal) : Type 0 where
  pub evidence : Evidence u i bytes
  pub reason : why u.meaning evidence.claim evidence.states r

abbrev pub EvidenceRefused : (Meaning → Claim → List (List ℕ) → Refusal → Type 0) → UnitModel → ℕ →
    List ℕ → Refusal → Type 0
EvidenceRefused why u i bytes =
    Unfit u
    or-else Because (slice_get u.claims i ≡ None) NoSuchClaim
    or-else Because ((ss : List (List ℕ)) → WritesStates bytes ss → ⊥) WrongSize
    or-else Against why u i bytes

-- Rounds

abbrev pub AllHeld : List Claim → Type 0
AllHeld cs = (i : ℕ) (c : Claim) → slice_get cs i ≡ Some c → c.mark ≡ held

-- a value that may be given: at an external name not above its top, at any other 0
abbrev pub MayBeGiven : Meaning → List ℕ → ℕ → Type 0
MayBeGiven m given n = (m.outline.kind n ≡ Some External → value given n ≤ m.outline.top n) ×
    (m.outline.kind n ≢ Some External → value given n ≡ 0)

-- the round begins, with no atom fired, and its slip is answered
pub record RoundOpened (u : UnitModel) (given : List ℕ) (slip : Slip) (w : UnitModel) : Type 0 where
  pub fit : IsFit u
  pub claimed : u.claims ≢ []
  pub all_held : AllHeld u.claims
  pub none_open : HasRound u → ⊥
  pub given_right : (n : ℕ) → n < 32 → MayBeGiven u.meaning given n
  pub rounds_left : u.rounds ≢ 4294967295
  pub number : slip ≡ record { unit = u.number; round = u.rounds + 1 }
  pub after : w ≡ record {
    meaning = u.meaning;
    number = u.number;
    rounds = u.rounds + 1;
    crowded = u.crowded;
    claims = u.claims;
    phase = in_round (standing_state u.phase) given (replicate 16 false);
  }

abbrev pub OpenRefused : UnitModel → List ℕ → Refusal → Type 0
OpenRefused u given =
    Unfit u
    or-else Because ((u.claims ≡ []) ⊎ (AllHeld u.claims → ⊥)) NotAllHeld
    or-else Because (HasRound u) RoundOpen
    or-else AtLowest (λ n. MayBeGiven u.meaning given n → ⊥) 32 WrongValue
    or-else Because (u.rounds ≡ 4294967295) NoRoundLeft

-- the slip is that of the round that is open
pub record OpenRound (u : UnitModel) (slip : Slip) : Type 0 where
  pub before : Option (List ℕ)
  pub new : List ℕ
  pub fired : List Bool
  pub open_now : InRound u before new fired
  pub unit : slip.unit ≡ u.number
  pub round : slip.round ≡ u.rounds

abbrev pub HasFired : List Bool → ℕ → Type 0
HasFired fired a = slice_index_or fired a false ≡ true

-- each atom that controls a name that a awaits has fired
abbrev pub MayFire : Meaning → List Bool → ℕ → Type 0
MayFire m fired a = (n b : ℕ) → m.outline.awaits a n ≡ true → m.outline.controls b n ≡ true →
    HasFired fired b

-- the new values: what the choice gives at the names that the atom controls, and as they were at the others
pub record Made (m : Meaning) (before : Option (List ℕ)) (new : List ℕ) (a k : ℕ) (made : List ℕ) : Type 0 where
  pub long : length made ≡ 32
  pub given : (n : ℕ) → n < 32 → m.outline.controls a n ≡ true →
      m.acts.gives (kind_of_round before) a k n (value (old_state before)) (value new) ≡ pos (value made n)
  pub others : (n : ℕ) → n < 32 → m.outline.controls a n ≡ false → value made n ≡ value new n

-- the atom's values are made, and how many atoms are yet to fire is answered
pub record Fired (u : UnitModel) (slip : Slip) (a k n : ℕ) (w : UnitModel) : Type 0 where
  pub fit : IsFit u
  pub round : OpenRound u slip
  pub there : a < u.meaning.outline.atoms
  pub unfired : HasFired round.fired a → ⊥
  pub ready : MayFire u.meaning round.fired a
  pub opened : u.meaning.acts.opens (kind_of_round round.before) a k (value (old_state round.before)) (value round.new) ≡ true
  pub made : List ℕ
  pub makes : Made u.meaning round.before round.new a k made
  pub left : n ≡ count (λ b. not (slice_index_or (slice_set round.fired a true) b false)) u.meaning.outline.atoms
  pub after : w ≡ moved_to u (in_round round.before made (slice_set round.fired a true))

-- what is wrong with firing this choice in this round
pub record FireRefusedIn (u : UnitModel) (slip : Slip) (a k : ℕ) (r : Refusal) : Type 0 where
  pub round : OpenRound u slip
  pub reason : (Because ((u.meaning.outline.atoms ≤ a) ⊎ HasFired round.fired a) NoAtomToFire
      or-else Because (MayFire u.meaning round.fired a → ⊥) MustWait
      or-else Because (u.meaning.acts.opens (kind_of_round round.before) a k (value (old_state round.before)) (value round.new) ≡ false) ChoiceNotOpen) r

abbrev pub FireRefused : UnitModel → Slip → ℕ → ℕ → Refusal → Type 0
FireRefused u slip a k = Unfit u or-else Because (OpenRound u slip → ⊥) WrongSlip or-else FireRefusedIn u slip a k

-- What was given and made stands. It is an initial state, or a successor of the state that stood.
pub record RoundEnded (u : UnitModel) (slip : Slip) (n : ℕ) (w : UnitModel) : Type 0 where
  pub fit : IsFit u
  pub round : OpenRound u slip
  pub all_fired : (a : ℕ) → a < u.meaning.outline.atoms → HasFired round.fired a
  pub follows : RowAfter u.meaning round.before round.new
  pub answer : n ≡ 0
  pub after : w ≡ moved_to u (standing round.new)

-- where a withdrawn round leaves the unit
abbrev pub back_at : Option (List ℕ) → Phase
back_at None = idle
back_at (Some s) = standing s

-- some atom has not fired: the round is withdrawn, and what stood before it stands on
pub record EndedTooEarly (u : UnitModel) (slip : Slip) (r : Refusal) (w : UnitModel) : Type 0 where
  pub fit : IsFit u
  pub round : OpenRound u slip
  pub atom : ℕ
  pub there : atom < u.meaning.outline.atoms
  pub unfired : HasFired round.fired atom → ⊥
  pub is : r ≡ AtomsMissing
  pub after : w ≡ moved_to u (back_at round.before)

abbrev pub EndRefused : UnitModel → Slip → Refusal → Type 0
EndRefused u slip = Unfit u or-else Because (OpenRound u slip → ⊥) WrongSlip

-- no state stands, and no round is open
pub record Stopped (u : UnitModel) (n : ℕ) (w : UnitModel) : Type 0 where
  pub fit : IsFit u
  pub answer : n ≡ 0
  pub after : w ≡ moved_to u idle

-- The relation

-- the calls that leave the unit's drawing as it is, with what they carry
pub data Call : Type 0 where
  claim_call : List ℕ → Call
  certify_call : ℕ → List ℕ → Call
  refute_call : ℕ → List ℕ → Call
  open_call : List ℕ → Call
  fire_call : Slip → ℕ → ℕ → Call
  end_call : Slip → Call
  stop_call : Call

pub data Reply : Type 0 where
  number_reply : ℕ → Reply
  slip_reply : Slip → Reply
  refusal_reply : Refusal → Reply

-- refused for this reason, and the unit is as it was
abbrev pub RefusedFor : (Refusal → Type 0) → UnitModel → Refusal → UnitModel → Type 0
RefusedFor why u r w = why r × (w ≡ u)

-- What may be answered to a call and left of the unit. A round is opened with 32 values.
abbrev pub Allows : UnitModel → Call → Reply → UnitModel → Type 0
Allows u (claim_call bytes) (number_reply n) w = ClaimMade u bytes n w
Allows u (claim_call bytes) (slip_reply s) w = ⊥
Allows u (claim_call bytes) (refusal_reply r) w = RefusedFor (ClaimRefused u bytes) u r w
Allows u (certify_call i bytes) (number_reply n) w = Certified u i bytes n w
Allows u (certify_call i bytes) (slip_reply s) w = ⊥
Allows u (certify_call i bytes) (refusal_reply r) w = RefusedFor (EvidenceRefused NoCertificate u i bytes) u r w
Allows u (refute_call i bytes) (number_reply n) w = Refuted u i bytes n w
Allows u (refute_call i bytes) (slip_reply s) w = ⊥
Allows u (refute_call i bytes) (refusal_reply r) w = RefusedFor (EvidenceRefused NoRun u i bytes) u r w
Allows u (open_call given) (number_reply n) w = ⊥
Allows u (open_call given) (slip_reply s) w = (length given ≡ 32) × RoundOpened u given s w
Allows u (open_call given) (refusal_reply r) w = (length given ≡ 32) × RefusedFor (OpenRefused u given) u r w
Allows u (fire_call slip a k) (number_reply n) w = Fired u slip a k n w
Allows u (fire_call slip a k) (slip_reply s) w = ⊥
Allows u (fire_call slip a k) (refusal_reply r) w = RefusedFor (FireRefused u slip a k) u r w
Allows u (end_call slip) (number_reply n) w = RoundEnded u slip n w
Allows u (end_call slip) (slip_reply s) w = ⊥
Allows u (end_call slip) (refusal_reply r) w = RefusedFor (EndRefused u slip) u r w ⊎ EndedTooEarly u slip r w
Allows u stop_call (number_reply n) w = Stopped u n w
Allows u stop_call (slip_reply s) w = ⊥
Allows u stop_call (refusal_reply r) w = RefusedFor (Unfit u) u r w
