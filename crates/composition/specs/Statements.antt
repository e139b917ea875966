-- What renaming, hiding and joining keep of a module.
use Rattle.std.specs.Prelude.{◌≡◌, ℕ, ◌+◌, ◌<◌, Bool, true, false, cond, ◌||◌, ◌↔◌, List, map, length, pos, is_some, Some, None, Decides, ◌==◌}
use Rattle.model.specs.Meanings.{Valuation, OutlineFacts, Meaning}
use Rattle.model.specs.States.{value, is_state, yields, Trajectory, Reachable}
use Rattle.model.specs.declared.Fault.{Fault}
use Rattle.model.specs.declared.Round.{Round}
use Rattle.composition.specs.Allowed.{MayRename, MayHide, Fits}
use Rattle.composition.specs.Faults.{is_private, is_interface, deeper, clashes, differs, fault_of_renamed, fault_of_hidden, fault_of_joined}
use Rattle.model.specs.Faults.{own}
use Rattle.composition.specs.Meanings.{renamed, hidden, joined}
use Rattle.composition.specs.Same.{SameAtom, SameAnswers}
use Rattle.composition.specs.Views.{projected, exchanged}

abbrev pub State : Type 0
State = List ℕ

-- the test holds of no name
abbrev pub NoneOf : (ℕ → Bool) → Type 0
NoneOf p = (n : ℕ) → n < 32 → p n ≡ false

-- n is the lowest name of which the test holds
pub record Lowest (p : ℕ → Bool) (n : ℕ) : Type 0 where
  pub name : n < 32
  pub holds : p n ≡ true
  pub none_lower : (i : ℕ) → i < n → p i ≡ false

-- A join's faults, first to last: one in its left part, in its right part, the lowest name that clashes, the lowest
-- shared name with two tops, too many atoms.
pub record FaultsOfJoins : Type 0 where
  pub left : (l r : OutlineFacts) (f : Fault) → l.fault ≡ Some f → fault_of_joined l r ≡ Some (deeper 1 f)
  pub right : (l r : OutlineFacts) → l.fault ≡ None → (f : Fault) → r.fault ≡ Some f → fault_of_joined l r ≡ Some (deeper (1 + l.layers) f)
  pub clash : (l r : OutlineFacts) → l.fault ≡ None → r.fault ≡ None → (n : ℕ) → Lowest (clashes l r) n → fault_of_joined l r ≡ Some (own 9 n)
  pub difference : (l r : OutlineFacts) → l.fault ≡ None → r.fault ≡ None → NoneOf (clashes l r) → (n : ℕ) → Lowest (differs l r) n → fault_of_joined l r ≡ Some (own 10 n)
  pub crowd : (l r : OutlineFacts) → l.fault ≡ None → r.fault ≡ None → NoneOf (clashes l r) → NoneOf (differs l r) → 16 < l.atoms + r.atoms → fault_of_joined l r ≡ Some (own 11 0)

-- where nothing is wrong
pub record SoundExactlyWhereAllowed : Type 0 where
  pub renames : (o : OutlineFacts) (a b : ℕ) → fault_of_renamed o a b ≡ None ↔ MayRename o a b
  pub hides : (o : OutlineFacts) (n : ℕ) → fault_of_hidden o n ≡ None ↔ MayHide o n
  pub joins : (l r : Meaning) → fault_of_joined l.outline r.outline ≡ None ↔ ((l.outline.fault ≡ None) × (r.outline.fault ≡ None) × Fits l.outline r.outline)

-- the list gives 0 to each name that is no variable
abbrev pub ZeroElsewhere : Meaning → State → Type 0
ZeroElsewhere m t = (n : ℕ) → is_some (m.outline.kind n) ≡ false → value t n ≡ 0

-- A join has the variables and the atoms of both, the left part's atoms first. A name is interface if it is so in one.
pub record ContentsOfJoins (l r : Meaning) : Type 0 where
  pub variable : (n : ℕ) → is_some ((joined l r).outline.kind n) ≡ (is_some (l.outline.kind n) || is_some (r.outline.kind n))
  pub private : (n : ℕ) → is_private ((joined l r).outline.kind n) ≡ (is_private (l.outline.kind n) || is_private (r.outline.kind n))
  pub interface : (n : ℕ) → is_interface ((joined l r).outline.kind n) ≡ (is_interface (l.outline.kind n) || is_interface (r.outline.kind n))
  pub left_top : (n : ℕ) → is_some (l.outline.kind n) ≡ true → (joined l r).outline.top n ≡ l.outline.top n
  pub right_top : (n : ℕ) → is_some (r.outline.kind n) ≡ true → (joined l r).outline.top n ≡ r.outline.top n
  pub atoms : (joined l r).outline.atoms ≡ l.outline.atoms + r.outline.atoms
  pub left_atom : (a : ℕ) → a < l.outline.atoms → SameAtom (joined l r) a l a
  pub right_atom : (a : ℕ) → a < r.outline.atoms → SameAtom (joined l r) (l.outline.atoms + a) r a

abbrev pub JoinsHoldBothParts : Type 0
JoinsHoldBothParts = (l r : Meaning) → fault_of_joined l.outline r.outline ≡ None → ContentsOfJoins l r

-- A join's states are the lists of 32 values, 0 where there is no variable, whose projections are states of the parts.
abbrev pub StatesOfJoins : Type 0
StatesOfJoins =
    (l r : Meaning) → fault_of_joined l.outline r.outline ≡ None → (t : State) →
    Decides (is_state (joined l r).outline t)
    ((length t ≡ 32) × ZeroElsewhere (joined l r) t × (is_state l.outline (projected l.outline t) ≡ true) × (is_state r.outline (projected r.outline t) ≡ true))

-- A join's rounds lead to a state of the join, and are rounds of both parts.
abbrev pub RoundsOfJoins : Type 0
RoundsOfJoins =
    (l r : Meaning) → fault_of_joined l.outline r.outline ≡ None → (k : Round) (s t : State) →
    Decides (yields (joined l r) k s t)
    ((is_state (joined l r).outline t ≡ true) × (yields l k (projected l.outline s) (projected l.outline t) ≡ true) × (yields r k (projected r.outline s) (projected r.outline t) ≡ true))

-- trajectories of the whole project to trajectories of the part, so reachable states to reachable ones
pub record Projects (w p : Meaning) : Type 0 where
  pub trajectories : (run : List State) → Trajectory w run → Trajectory p (map (projected p.outline) run)
  pub reachable : (t : State) → Reachable w t → Reachable p (projected p.outline t)

abbrev pub JoinsProjectToTheirParts : Type 0
JoinsProjectToTheirParts = (l r : Meaning) → fault_of_joined l.outline r.outline ≡ None → Projects (joined l r) l × Projects (joined l r) r

-- what f tells with b put for a, so that it tells nothing of a
abbrev pub put : {A : Type 0} → ℕ → ℕ → A → (ℕ → A) → ℕ → A
put a b nothing f n = cond (n == b) (f a) (cond (n == a) nothing (f n))

-- Renaming puts one name for another in all that is told of names, and nowhere else; the module below sees the value of
-- the new name at the old one.
pub record Puts (m : Meaning) (a b : ℕ) : Type 0 where
  pub kind : (n : ℕ) → (renamed m a b).outline.kind n ≡ put a b None m.outline.kind n
  pub top : (n : ℕ) → (renamed m a b).outline.top n ≡ put a b 0 m.outline.top n
  pub atoms : (renamed m a b).outline.atoms ≡ m.outline.atoms
  pub controls : (x n : ℕ) → (renamed m a b).outline.controls x n ≡ put a b false (m.outline.controls x) n
  pub reads : (x n : ℕ) → (renamed m a b).outline.reads x n ≡ put a b false (m.outline.reads x) n
  pub awaits : (x n : ℕ) → (renamed m a b).outline.awaits x n ≡ put a b false (m.outline.awaits x) n
  pub choices : (r : Round) (x : ℕ) → (renamed m a b).acts.choices r x ≡ m.acts.choices r x
  pub opens : (r : Round) (x k : ℕ) (old new : Valuation) → (renamed m a b).acts.opens r x k old new ≡ m.acts.opens r x k (put b a 0 old) (put b a 0 new)
  pub gives : (r : Round) (x k n : ℕ) (old new : Valuation) → (renamed m a b).acts.gives r x k n old new ≡ put a b (pos 0) (λ i. m.acts.gives r x k i (put b a 0 old) (put b a 0 new)) n

abbrev pub RenamingPutsOneNameForAnother : Type 0
RenamingPutsOneNameForAnother = (m : Meaning) (a b : ℕ) → fault_of_renamed m.outline a b ≡ None → Puts m a b

-- A renamed module's rounds are the module's, with the values of the two names exchanged before and after.
abbrev pub RoundsOfRenamedModules : Type 0
RoundsOfRenamedModules =
    (m : Meaning) (a b : ℕ) → fault_of_renamed m.outline a b ≡ None → (k : Round) (s t : State) → length t ≡ 32 →
    yields (renamed m a b) k s t ≡ yields m k (exchanged a b s) (exchanged a b t)

-- f takes the reachable states of each module to those of the other, and back again to where it took them from
pub record Corresponds (m m' : Meaning) (f : State → State) : Type 0 where
  pub there : (t : State) → Reachable m t → Reachable m' (f t)
  pub back : (t : State) → Reachable m' t → Reachable m (f t)
  pub undone : (t : State) → Reachable m t → f (f t) ≡ t
  pub redone : (t : State) → Reachable m' t → f (f t) ≡ t

abbrev pub RenamingKeepsWhatIsReachable : Type 0
RenamingKeepsWhatIsReachable = (m : Meaning) (a b : ℕ) → fault_of_renamed m.outline a b ≡ None → Corresponds (renamed m a b) m (exchanged a b)

abbrev pub RenamingBackUndoesRenaming : Type 0
RenamingBackUndoesRenaming = (m : Meaning) (a b : ℕ) → fault_of_renamed m.outline a b ≡ None → SameAnswers (renamed (renamed m a b) b a) m

abbrev pub HidingKeepsRounds : Type 0
HidingKeepsRounds = (m : Meaning) (n : ℕ) → fault_of_hidden m.outline n ≡ None → (k : Round) (s t : State) → yields (hidden m n) k s t ≡ yields m k s t

abbrev pub HidingKeepsWhatIsReachable : Type 0
HidingKeepsWhatIsReachable = (m : Meaning) (n : ℕ) → fault_of_hidden m.outline n ≡ None → Corresponds (hidden m n) m (λ t. t)

-- The join in the other order: what is told of names is the same, and so is what is told of atoms, which are numbered
-- the other way about.
pub record Swaps (l r : Meaning) : Type 0 where
  pub fault : fault_of_joined r.outline l.outline ≡ None
  pub layers : (joined l r).outline.layers ≡ (joined r l).outline.layers
  pub kind : (n : ℕ) → (joined l r).outline.kind n ≡ (joined r l).outline.kind n
  pub top : (n : ℕ) → (joined l r).outline.top n ≡ (joined r l).outline.top n
  pub atoms : (joined l r).outline.atoms ≡ (joined r l).outline.atoms
  pub left : (a : ℕ) → a < l.outline.atoms → SameAtom (joined l r) a (joined r l) (r.outline.atoms + a)
  pub right : (a : ℕ) → a < r.outline.atoms → SameAtom (joined l r) (l.outline.atoms + a) (joined r l) a
  pub rounds : (k : Round) (s t : State) → yields (joined l r) k s t ≡ yields (joined r l) k s t

abbrev pub JoinsCommute : Type 0
JoinsCommute = (l r : Meaning) → fault_of_joined l.outline r.outline ≡ None → Swaps l r

-- Three in either grouping: if one has no fault neither has the other, and both answer alike.
pub record Regroups (l m r : Meaning) : Type 0 where
  pub there : fault_of_joined (joined l m).outline r.outline ≡ None → fault_of_joined l.outline (joined m r).outline ≡ None
  pub back : fault_of_joined l.outline (joined m r).outline ≡ None → fault_of_joined (joined l m).outline r.outline ≡ None
  pub layers : (joined (joined l m) r).outline.layers ≡ (joined l (joined m r)).outline.layers
  pub same : fault_of_joined (joined l m).outline r.outline ≡ None → SameAnswers (joined (joined l m) r) (joined l (joined m r))
  pub rounds : fault_of_joined (joined l m).outline r.outline ≡ None → (k : Round) (s t : State) → yields (joined (joined l m) r) k s t ≡ yields (joined l (joined m r)) k s t

abbrev pub JoinsAssociate : Type 0
JoinsAssociate = (l m r : Meaning) → Regroups l m r
