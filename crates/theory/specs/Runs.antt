-- Runs of a transition system, the states that it reaches, and evidence that a test holds of each of them or fails
-- at one. A system is its initial states and its steps.
use Rattle.std.specs.Prelude.{◌≡◌, ◌≤◌, Bool, true, false, ◌⊎◌, List, [], ◌∷◌, length}
use Rattle.theory.specs.Members.{Member, Distinct}

-- each state of the list is a step from the one before, the first of them from s
abbrev pub Continues : {A : Type 0} → (A → A → Type 0) → A → List A → Type 0
Continues Step s [] = Unit {0}
Continues Step s (t ∷ ts) = Step s t × Continues Step t ts

-- an initialised trajectory: the first state is initial, and each later one a step from the one before
abbrev pub Trajectory : {A : Type 0} → (A → Type 0) → (A → A → Type 0) → List A → Type 0
Trajectory Initial Step [] = ⊥
Trajectory Initial Step (s ∷ ts) = Initial s × Continues Step s ts

-- t is the last state of the list
abbrev pub Ends : {A : Type 0} → List A → A → Type 0
Ends [] t = ⊥
Ends (s ∷ []) t = s ≡ t
Ends (s ∷ (u ∷ ts)) t = Ends (u ∷ ts) t

-- a state is reachable when it ends an initialised trajectory
pub record Reachable {A : Type 0} (Initial : A → Type 0) (Step : A → A → Type 0) (t : A) : Type 0 where
  pub run : List A
  pub trajectory : Trajectory Initial Step run
  pub ends : Ends run t

-- an initialised trajectory to t that visits no state twice
pub record SimpleRun {A : Type 0} (Initial : A → Type 0) (Step : A → A → Type 0) (t : A) : Type 0 where
  pub run : List A
  pub trajectory : Trajectory Initial Step run
  pub ends : Ends run t
  pub distinct : Distinct run

-- A certificate that the test holds of each reachable state: a list with each initial state and, with each member, all
-- of its successors, and the test passes at each member. It may hold states that are not reachable.
pub record ClosedList {A : Type 0} (Initial : A → Type 0) (Step : A → A → Type 0) (good : A → Bool) (xs : List A) : Type 0 where
  pub starts : (s : A) → Initial s → Member s xs
  pub steps : (s t : A) → Member s xs → Step s t → Member t xs
  pub passes : (s : A) → Member s xs → good s ≡ true

-- evidence that the test fails at a reachable state: an initialised trajectory to such a state
pub record FalsifyingRun {A : Type 0} (Initial : A → Type 0) (Step : A → A → Type 0) (good : A → Bool) (run : List A) : Type 0 where
  pub trajectory : Trajectory Initial Step run
  pub last : A
  pub ends : Ends run last
  pub fails : good last ≡ false

-- some reachable state fails the test
pub record Falsified {A : Type 0} (Initial : A → Type 0) (Step : A → A → Type 0) (good : A → Bool) : Type 0 where
  pub state : A
  pub reachable : Reachable Initial Step state
  pub fails : good state ≡ false

-- a falsifying trajectory with at most as many states as the list has
pub record ShortFalsifyingRun {A : Type 0} (Initial : A → Type 0) (Step : A → A → Type 0) (good : A → Bool) (all : List A) : Type 0 where
  pub run : List A
  pub falsifying : FalsifyingRun Initial Step good run
  pub short : length run ≤ length all

-- Evidence on a test over a system whose reachable states are listed: where each passes, the list itself is a
-- certificate; where one fails, a short trajectory falsifies the test; so one of the two is found, and never do a
-- certificate and a falsifying trajectory both stand.
pub record EvidenceExists {A : Type 0} (Initial : A → Type 0) (Step : A → A → Type 0) (good : A → Bool) (all : List A) : Type 0 where
  pub certified : ((t : A) → Member t all → good t ≡ true) → ClosedList Initial Step good all
  pub falsified : Falsified Initial Step good → ShortFalsifyingRun Initial Step good all
  pub found : ClosedList Initial Step good all ⊎ ShortFalsifyingRun Initial Step good all
  pub never_both : (xs run : List A) → ClosedList Initial Step good xs → FalsifyingRun Initial Step good run → ⊥

-- f takes each initial state of one system to one of the other, and each step to a step
pub record Simulation {A B : Type 0} (Initial : A → Type 0) (Step : A → A → Type 0) (Initial' : B → Type 0) (Step' : B → B → Type 0) (f : A → B) : Type 0 where
  pub starts : (a : A) → Initial a → Initial' (f a)
  pub steps : (a b : A) → Step a b → Step' (f a) (f b)
