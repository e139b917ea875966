-- The theorems of this crate at states that are rows of numbers, over systems that are given by tests. They are proved
-- over any type of states; here they stand where a contract can cite them.
use Rattle.std.specs.Prelude.{◌≡◌, ℕ, ◌*◌, ◌<◌, ◌≤◌, Bool, true, List, map, length, filter}
use Rattle.theory.specs.Enumerations.{below, pairs, ranges, Within, room}
use Rattle.theory.specs.Members.{Member, Distinct, Included, Exactly}
use Rattle.theory.specs.Runs.{Trajectory, Ends, Reachable, SimpleRun, ClosedList, FalsifyingRun, Falsified, EvidenceExists, Simulation}

abbrev pub State : Type 0
State = List ℕ

-- the states that pass the test
abbrev pub Passes : (State → Bool) → State → Type 0
Passes test s = test s ≡ true

-- the steps that pass the test
abbrev pub Leads : (State → State → Bool) → State → State → Type 0
Leads step s t = step s t ≡ true

-- each reachable state stands in a certificate, and passes its test
abbrev pub CertificatesAreSound : Type 0
CertificatesAreSound =
    (initial good : State → Bool) (step : State → State → Bool) (xs : List State) (t : State) →
    ClosedList (Passes initial) (Leads step) good xs → Reachable (Passes initial) (Leads step) t → Member t xs × (good t ≡ true)

-- the last state of a falsifying trajectory is reachable, and fails the test
abbrev pub FalsifyingRunsAreSound : Type 0
FalsifyingRunsAreSound =
    (initial good : State → Bool) (step : State → State → Bool) (run : List State) →
    FalsifyingRun (Passes initial) (Leads step) good run → Falsified (Passes initial) (Leads step) good

-- each reachable state ends a trajectory that visits no state twice
abbrev pub RepeatsCanBeCut : Type 0
RepeatsCanBeCut =
    (initial : State → Bool) (step : State → State → Bool) (t : State) →
    Reachable (Passes initial) (Leads step) t → SimpleRun (Passes initial) (Leads step) t

-- The pigeonhole principle; and how many elements with a property there are is well defined, as the length of any list
-- of exactly these without repetition.
pub record CountsAreUnique : Type 0 where
  pub at_most : (xs ys : List State) → Distinct xs → Included xs ys → length xs ≤ length ys
  pub unique : (property : State → Bool) (xs ys : List State) → Distinct xs → Distinct ys →
      Exactly (Passes property) xs → Exactly (Passes property) ys → length xs ≡ length ys

-- a certificate or a short falsifying trajectory exists wherever the reachable states can be listed
abbrev pub EvidenceAlwaysExists : Type 0
EvidenceAlwaysExists =
    (initial good : State → Bool) (step : State → State → Bool) (all : List State) →
    Exactly (Reachable (Passes initial) (Leads step)) all → EvidenceExists (Passes initial) (Leads step) good all

-- a map that takes initial states to initial states and steps to steps takes runs to runs
pub record SimulationsKeepRuns : Type 0 where
  pub trajectories : (initial initial' : State → Bool) (step step' : State → State → Bool) (f : State → State) →
      Simulation (Passes initial) (Leads step) (Passes initial') (Leads step') f →
      (run : List State) → Trajectory (Passes initial) (Leads step) run → Trajectory (Passes initial') (Leads step') (map f run)
  pub ends : (f : State → State) (run : List State) (t : State) → Ends run t → Ends (map f run) (f t)
  pub reachable : (initial initial' : State → Bool) (step step' : State → State → Bool) (f : State → State) →
      Simulation (Passes initial) (Leads step) (Passes initial') (Leads step') f →
      (t : State) → Reachable (Passes initial) (Leads step) t → Reachable (Passes initial') (Leads step') (f t)

-- the list holds each element with P once, and no other, and so many
pub record Enumerates {A : Type 0} (P : A → Type 0) (many : ℕ) (xs : List A) : Type 0 where
  pub exactly : Exactly P xs
  pub distinct : Distinct xs
  pub count : length xs ≡ many

-- each enumeration holds what it says, once, and what a test keeps of a list is what passes it
pub record EnumerationsAreExact : Type 0 where
  pub numbers : (n : ℕ) → Enumerates (λ x. x < n) n (below n)
  pub two_by_two : (xs ys : List State) → Distinct xs → Distinct ys →
      Enumerates (λ p. Member p.0 xs × Member p.1 ys) (length xs * length ys) (pairs xs ys)
  pub rows : (tops : List ℕ) → Enumerates (Within tops) (room tops) (ranges tops)
  pub kept : (p : State → Bool) (xs : List State) → Exactly (λ z. Member z xs × (p z ≡ true)) (filter p xs)
  pub kept_distinct : (p : State → Bool) (xs : List State) → Distinct xs → Distinct (filter p xs)
