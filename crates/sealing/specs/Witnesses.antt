-- Values at which an atom has no open choice, at which an open one gives a value out of range, or at which it fails in either way.
use Rattle.std.specs.Prelude.{◌≡◌, ℕ, Bool, true, false, cond, ◌||◌, List, [], ◌∷◌, Some, None, Option}
use Rattle.std.specs.Option.{option_or}
use Rattle.model.specs.Meanings.{OutlineFacts, Meaning}
use Rattle.model.specs.declared.Round.{Round}
use Rattle.model.specs.declared.Round.TheVariants.{Initial, Update}
use Rattle.theory.specs.Members.{Member}
use Rattle.units.specs.Sealing.{sights, nothing_open, gives_outside, sees_too_much}
use Rattle.sealing.specs.declared.query.Failure.{Failure}
use Rattle.sealing.specs.declared.query.Failure.TheVariants.{NothingOpen, GivesOutside, Either}
use Rattle.sealing.specs.declared.witness.Witness.{Witness}

-- the atom fails in either way: no choice is open, or an open one gives a value out of range
abbrev pub either_failure : Meaning → Round → ℕ → List ℕ × List ℕ → Bool
either_failure m r a seen = nothing_open m r a seen || gives_outside m r a seen

-- what is looked for
abbrev pub test_of : Failure → Meaning → Round → ℕ → List ℕ × List ℕ → Bool
test_of NothingOpen = nothing_open
test_of GivesOutside = gives_outside
test_of Either = either_failure

abbrev pub witness_at : Round → List ℕ × List ℕ → Witness
witness_at r p = record { round = r; old = p.0; new = p.1 }

-- the first answer that is found in the list, if any
abbrev pub first_in_list : {X Y : Type 0} → (X → Option Y) → List X → Option Y
first_in_list f [] = None
first_in_list f (x ∷ xs) = option_or (f x) (first_in_list f xs)

-- the values, if what is looked for is so at them
abbrev pub witness_if_at : Meaning → Failure → Round → ℕ → List ℕ × List ℕ → Option Witness
witness_if_at m t r a p = cond (test_of t m r a p) (Some (witness_at r p)) None

-- the first values that the atom can see in such a round at which it is so
abbrev pub first_in_round : Meaning → Failure → Round → ℕ → Option Witness
first_in_round m t r a = first_in_list (witness_if_at m t r a) (sights m.outline r a)

-- the first in an initialization, or else in an update
abbrev pub first_witness : Meaning → Failure → ℕ → Option Witness
first_witness m t a = option_or (first_in_round m t Initial a) (first_in_round m t Update a)

-- What an answer tells: values that the atom can see at which it is so, or that there are none.
abbrev pub WitnessOrNone : Meaning → Failure → ℕ → Option Witness → Type 0
WitnessOrNone m t a None = (r : Round) (p : List ℕ × List ℕ) → Member p (sights m.outline r a) → test_of t m r a p ≡ false
WitnessOrNone m t a (Some s) = Member (s.old, s.new) (sights m.outline s.round a) × (test_of t m s.round a (s.old, s.new) ≡ true)

-- the first values at which it is so; none where the atom sees more than 65,536 values
abbrev pub witness_where_few : OutlineFacts → Meaning → Failure → ℕ → Option Witness
witness_where_few o m t a = cond (sees_too_much o a) None (first_witness m t a)

-- where it does not see too many, what is answered are such values, or else there are none
abbrev pub WitnessWhereFew : OutlineFacts → Meaning → Failure → ℕ → Option Witness → Type 0
WitnessWhereFew o m t a r = sees_too_much o a ≡ false → WitnessOrNone m t a r
