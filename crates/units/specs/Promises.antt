-- The promises. Each is named after what it says; a function's contract names it, and so the gate asks for its proof.
use Rattle.std.specs.Prelude.{◌≡◌, ℕ, ◌*◌, ◌≤◌, Bool, true, false, ◌↔◌, List, length, Some, None, ◌≢◌}
use Rattle.std.specs.List.{slice_get}
use Rattle.model.specs.Meanings.{Valuation, Meaning, Alike}
use Rattle.model.specs.States.{is_state, Reachable}
use Rattle.model.specs.declared.Round.{Round}
use Rattle.theory.specs.Members.{Member, Distinct, Exactly}
use Rattle.units.specs.Accepted.{Certificate, BreakingRun}
use Rattle.units.specs.Evidence.{certificate_refusal, run_refusal, outcomes, choice_rows, row_leads}
use Rattle.units.specs.Life.{Came}
use Rattle.units.specs.Units.{UnitModel, Claim, held, broken, holds, standing_state, verdict_of, certify_refusal, refute_refusal}

-- Evidence

-- A list of states is accepted as a certificate exactly when it is one.
abbrev pub CertificatesAreJudgedRightly : Type 0
CertificatesAreJudgedRightly = (m : Meaning) (test : List ℕ → Bool) (ss : List (List ℕ)) → (certificate_refusal m test ss ≡ None) ↔ Certificate m test ss

-- A list of at least one state is accepted as a run exactly when it is one that breaks the test.
abbrev pub RunsAreJudgedRightly : Type 0
RunsAreJudgedRightly = (m : Meaning) (test : List ℕ → Bool) (ss : List (List ℕ)) → 1 ≤ length ss → (run_refusal m test ss ≡ None) ↔ BreakingRun m test ss

-- What an accepted certificate certifies holds in every reachable state.
abbrev pub AcceptedCertificatesHold : Type 0
AcceptedCertificatesHold = (m : Meaning) (test : List ℕ → Bool) (ss : List (List ℕ)) → certificate_refusal m test ss ≡ None → (t : List ℕ) → Reachable m t → test t ≡ true

-- What an accepted run breaks is false in some reachable state.
abbrev pub AcceptedRunsBreak : Type 0
AcceptedRunsBreak = (m : Meaning) (test : List ℕ → Bool) (ss : List (List ℕ)) → 1 ≤ length ss → run_refusal m test ss ≡ None → (t : List ℕ) × Reachable m t × (test t ≡ false)

-- Where the reachable states are listed, that list is a certificate if the test holds in each; else some run that breaks
-- the test has no more states than that list. And never does a certificate stand where a reachable state falsifies.
pub record EvidenceFor (m : Meaning) (test : List ℕ → Bool) (all : List (List ℕ)) : Type 0 where
  pub certified : ((t : List ℕ) → Reachable m t → test t ≡ true) → certificate_refusal m test all ≡ None
  pub never_both : (ss : List (List ℕ)) → certificate_refusal m test ss ≡ None → (t : List ℕ) → Reachable m t → test t ≢ false
  pub falsified : (t : List ℕ) → Reachable m t → test t ≡ false → (run : List (List ℕ)) × (run_refusal m test run ≡ None) × (1 ≤ length run) × (length run ≤ length all)

abbrev pub EvidenceExistsForEveryTest : Type 0
EvidenceExistsForEveryTest = (m : Meaning) (test : List ℕ → Bool) (all : List (List ℕ)) → Exactly (Reachable m) all → EvidenceFor m test all

-- a pair of a state and a choice for each atom yields the state in a round of this kind from s
pub record Yielding (m : Meaning) (r : Round) (s : List ℕ) (pair : List ℕ × List ℕ) : Type 0 where
  pub state : is_state m.outline pair.0 ≡ true
  pub row : Member pair.1 (choice_rows m r)
  pub led : row_leads m r s pair ≡ true

-- The count is unique: any list without repetition of exactly the pairs that count has that length.
abbrev pub TheCountIsUnique : Type 0
TheCountIsUnique = (m : Meaning) (r : Round) (s : List ℕ) (pairs : List (List ℕ × List ℕ)) → Distinct pairs → Exactly (Yielding m r s) pairs → length pairs ≡ length (outcomes m r s)

-- Choices see only what they should: whether one is open and what it gives is the same at any old and new values that
-- look alike to its atom.
pub record SameChoice (m : Meaning) (r : Round) (a k : ℕ) (old new old' new' : Valuation) : Type 0 where
  pub same_opening : m.acts.opens r a k old new ≡ m.acts.opens r a k old' new'
  pub same_gifts : (n : ℕ) → m.acts.gives r a k n old new ≡ m.acts.gives r a k n old' new'

abbrev pub ChoicesDependOnWhatTheySee : Type 0
ChoicesDependOnWhatTheySee =
    (m : Meaning) (r : Round) (a k : ℕ) (old new old' new' : Valuation) → Alike m.outline r a old new old' new' → SameChoice m r a k old new old' new'

-- The whole life of a unit

-- (held and broken) No claim marked held is false in any state of any initialised trajectory of the unit's module; each
-- marked broken is false at the end of one.
pub record MarkIsTrue (m : Meaning) (c : Claim) : Type 0 where
  pub held_holds : c.mark ≡ held → (t : List ℕ) → Reachable m t → holds c t ≡ true
  pub broken_fails : c.mark ≡ broken → (t : List ℕ) × Reachable m t × (holds c t ≡ false)

-- (standing) The state that stands, if any, ends an initialised trajectory, and no claim on the unit is false in it.
pub record StandingIsTrue (u : UnitModel) (s : List ℕ) : Type 0 where
  pub reached : Reachable u.meaning s
  pub claims_hold : (i : ℕ) (c : Claim) → slice_get u.claims i ≡ Some c → holds c s ≡ true

-- (evidence) On a fit unit with at most 2,048 reachable states, of each claim: a certificate that would be accepted
-- exists exactly when no reachable state falsifies it; otherwise a run that would be accepted exists, with no more states
-- than there are reachable ones.
pub record EvidenceCanBeHad (u : UnitModel) (i : ℕ) (c : Claim) (all : List (List ℕ)) : Type 0 where
  pub certificate : ((t : List ℕ) → Reachable u.meaning t → holds c t ≡ true) ↔ ((bytes : List ℕ) × (certify_refusal u i bytes ≡ None))
  pub run : (t : List ℕ) → Reachable u.meaning t → holds c t ≡ false → (bytes : List ℕ) × (refute_refusal u i bytes ≡ None) × (length bytes ≤ 32 * length all)

pub record Sound (u : UnitModel) : Type 0 where
  pub marks : (i : ℕ) (c : Claim) → slice_get u.claims i ≡ Some c → MarkIsTrue u.meaning c
  pub state : (s : List ℕ) → standing_state u.phase ≡ Some s → StandingIsTrue u s
  pub evidence : verdict_of u ≡ None → (all : List (List ℕ)) → Distinct all → Exactly (Reachable u.meaning) all → length all ≤ 2048 → (i : ℕ) (c : Claim) → slice_get u.claims i ≡ Some c → EvidenceCanBeHad u i c all

-- Every unit that can come from the site is sound, at every point of its life.
abbrev pub EveryUnitFromTheSiteIsSound : Type 0
EveryUnitFromTheSiteIsSound = (u : UnitModel) → Came u → Sound u
