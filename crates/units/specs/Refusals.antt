-- What each refusal tells: its number, the layer of a pile, and the place in it; and its words.
use Rattle.std.specs.Prelude.{ℕ, List, ◌++◌, codes, decimal}
use Rattle.model.specs.Faults.{own, fault_text}
use Rattle.model.specs.declared.Fault.{Fault}
use Rattle.units.specs.declared.refusal.Refusal.{Refusal}
use Rattle.units.specs.declared.refusal.Refusal.TheVariants.{FaultyDrawing, NotOneController, AwaitsItself, SeesTooMuch, GetsStuck, LeavesRange, TooWide, TooManyClaims, NotIdle, NoRoomForClaim, WrongClaim, NoSuchClaim, WrongSize, NotAState, FalseIn, TrueInLast, InitialStateMissing, NotInitial, SuccessorMissing, NotASuccessor, NotAllHeld, RoundOpen, WrongValue, WrongSlip, NoRoundLeft, NoAtomToFire, MustWait, ChoiceNotOpen, AtomsMissing}

-- The fault as which a refusal is told. All but a drawing's fault are of the top layer.
abbrev pub refusal_fault : Refusal → Fault
refusal_fault (FaultyDrawing fault) = fault
refusal_fault (NotOneController name) = own 12 name
refusal_fault (AwaitsItself atom) = own 13 atom
refusal_fault (SeesTooMuch atom) = own 14 atom
refusal_fault (GetsStuck atom) = own 15 atom
refusal_fault (LeavesRange atom) = own 16 atom
refusal_fault TooWide = own 17 0
refusal_fault TooManyClaims = own 37 0
refusal_fault NotIdle = own 19 0
refusal_fault NoRoomForClaim = own 20 0
refusal_fault WrongClaim = own 21 0
refusal_fault NoSuchClaim = own 22 0
refusal_fault WrongSize = own 23 0
refusal_fault (NotAState index) = own 24 index
refusal_fault (FalseIn index) = own 25 index
refusal_fault (TrueInLast index) = own 25 index
refusal_fault InitialStateMissing = own 26 0
refusal_fault NotInitial = own 26 0
refusal_fault (SuccessorMissing index) = own 27 index
refusal_fault (NotASuccessor index) = own 27 index
refusal_fault NotAllHeld = own 28 0
refusal_fault RoundOpen = own 29 0
refusal_fault (WrongValue name) = own 30 name
refusal_fault WrongSlip = own 31 0
refusal_fault NoRoundLeft = own 32 0
refusal_fault NoAtomToFire = own 33 0
refusal_fault MustWait = own 34 0
refusal_fault ChoiceNotOpen = own 35 0
refusal_fault AtomsMissing = own 36 0

-- a refusal in words
abbrev pub refusal_words : Refusal → List ℕ
refusal_words (FaultyDrawing fault) = codes "the drawing has the fault " ++ fault_text fault
refusal_words (NotOneController name) = codes "name " ++ decimal name ++ codes " is not controlled by exactly one atom"
refusal_words (AwaitsItself atom) = codes "atom " ++ decimal atom ++ codes " awaits itself, directly or through others"
refusal_words (SeesTooMuch atom) = codes "atom " ++ decimal atom ++ codes " sees more than 65536 combinations of values"
refusal_words (GetsStuck atom) = codes "atom " ++ decimal atom ++ codes " has no open choice"
refusal_words (LeavesRange atom) = codes "an open choice of atom " ++ decimal atom ++ codes " gives a value out of range"
refusal_words TooWide = codes "a round can go in more ways than 1048576"
refusal_words TooManyClaims = codes "it was brought more than eight claims"
refusal_words NotIdle = codes "a state stands or a round is open"
refusal_words NoRoomForClaim = codes "the unit has eight claims already"
refusal_words WrongClaim = codes "the bytes are no claim on this module"
refusal_words NoSuchClaim = codes "there is no such claim"
refusal_words WrongSize = codes "the bytes are not 1 to 2,048 whole states"
refusal_words (NotAState index) = codes "no state of the module stands at index " ++ decimal index
refusal_words (FalseIn index) = codes "the claim is false in the state at index " ++ decimal index
refusal_words (TrueInLast index) = codes "the claim is true in the last state, at index " ++ decimal index
refusal_words InitialStateMissing = codes "an initial state is not listed"
refusal_words NotInitial = codes "the first state is not initial"
refusal_words (SuccessorMissing index) = codes "a successor is not listed of the state at index " ++ decimal index
refusal_words (NotASuccessor index) = codes "no successor of the state before stands at index " ++ decimal index
refusal_words NotAllHeld = codes "there is no claim, or one that is not held"
refusal_words RoundOpen = codes "a round is open"
refusal_words (WrongValue name) = codes "the value given is out of range: name " ++ decimal name
refusal_words WrongSlip = codes "the slip is not that of an open round"
refusal_words NoRoundLeft = codes "no number is left for another round"
refusal_words NoAtomToFire = codes "there is no such atom, or it has fired"
refusal_words MustWait = codes "the atom awaits one that has not fired"
refusal_words ChoiceNotOpen = codes "there is no such choice, or it is closed"
refusal_words AtomsMissing = codes "atoms have not fired; the round is withdrawn"
