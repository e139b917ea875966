-- Going through the values that an atom sees, place by place.
use Rattle.std.specs.Prelude.{◌≡◌, ℕ, zero, suc, ◌+◌, ◌-◌, ◌<◌, ◌≤◌, Bool, cond, not, ◌&&◌, ◌||◌, List, Some, None, Option, nat_lt, slice_set}
use Rattle.std.specs.Option.{option_or}
use Rattle.model.specs.Meanings.{OutlineFacts, ChoiceFacts}
use Rattle.model.specs.Sets.{has}
use Rattle.model.specs.States.{value}
use Rattle.model.specs.Tests.{some}
use Rattle.model.specs.declared.Round.{Round}
use Rattle.units.specs.Sealing.{within, old_names}
use Rattle.sealing.specs.declared.query.Query.{Query}
use Rattle.sealing.specs.declared.query.Failure.{Failure}
use Rattle.sealing.specs.declared.query.Failure.TheVariants.{NothingOpen, GivesOutside, Either}
use Rattle.sealing.specs.declared.witness.Witness.{Witness}

-- the choice is open
abbrev pub open_at : ChoiceFacts → Query → Witness → ℕ → Bool
open_at c l s k = c.opens s.round l.atom k (value s.old) (value s.new)

-- the choice gives the name a value out of range
abbrev pub wrong_name : ChoiceFacts → Query → Witness → ℕ → ℕ → Bool
wrong_name c l s k n = has l.controlled n && not (within (value l.tops n) (c.gives s.round l.atom k n (value s.old) (value s.new)))

-- the choice is open and gives some name a value out of range
abbrev pub wrong_choice : ChoiceFacts → Query → Witness → ℕ → Bool
wrong_choice c l s k = open_at c l s k && some (wrong_name c l s k) 32

-- what is looked for is so at these values
abbrev pub failure_at : Failure → ChoiceFacts → Query → Witness → Bool
failure_at NothingOpen c l s = not (some (open_at c l s) l.choices)
failure_at GivesOutside c l s = some (wrong_choice c l s) l.choices
failure_at Either c l s = not (some (open_at c l s) l.choices) || some (wrong_choice c l s) l.choices

-- the values, if the test passes at them
abbrev pub witness_if : (Witness → Bool) → Witness → Option Witness
witness_if test s = cond (test s) (Some s) None

-- the row of old values with one more at this place
abbrev pub old_with : ℕ → List ℕ → ℕ → List ℕ
old_with place old v = cond (nat_lt place 32) (slice_set old place v) old

-- the row of new values with one more at this place
abbrev pub new_with : ℕ → List ℕ → ℕ → List ℕ
new_with place new v = cond (nat_lt place 32) new (slice_set new (place - 32) v)

abbrev pub witness_with : ℕ → Witness → ℕ → Witness
witness_with place s v = record { round = s.round; old = old_with place s.old v; new = new_with place s.new v }

-- the value at this place
abbrev pub value_at_place : Witness → ℕ → ℕ
value_at_place s place = cond (nat_lt place 32) (value s.old place) (value s.new (place - 32))

-- the largest value at this place
abbrev pub top_if : Bool → ℕ → ℕ
top_if seen top = cond seen top 0

abbrev pub top_at_place : OutlineFacts → Round → ℕ → ℕ → ℕ
top_at_place o r a place =
    cond (nat_lt place 32) (top_if (old_names o r a place) (o.top place)) (top_if (o.awaits a (place - 32)) (o.top (place - 32)))

-- the first answer at a number below n, if any
unfoldable pub first_below : {X : Type 0} → (ℕ → Option X) → ℕ → Option X
first_below f zero = None
first_below f (suc n) = option_or (first_below f n) (f n)

-- the first values up to the tops, at so many places from this one on, at which the test passes
unfoldable pub first_filling : (Witness → Option Witness) → (ℕ → ℕ) → ℕ → ℕ → Witness → Option Witness
first_filling test top place zero s = test s
first_filling test top place (suc left) s = first_below (λ v. first_filling test top (place + 1) left (witness_with place s v)) (top place + 1)

-- with this value at the place
abbrev pub filling_with : (Witness → Option Witness) → (ℕ → ℕ) → ℕ → ℕ → Witness → ℕ → Option Witness
filling_with test top place left s v = first_filling test top (place + 1) left (witness_with place s v)

-- at the places from this one on, below the end, 0 is the largest value
abbrev pub Narrow : (ℕ → ℕ) → ℕ → ℕ → Type 0
Narrow top place end = (k : ℕ) → place ≤ k → k < end → top k ≡ 0

-- the first place from this one on that has more values than 0
pub record IsNext (top : ℕ → ℕ) (place next : ℕ) : Type 0 where
  pub from : place ≤ next
  pub inside : next < 64
  pub narrow : Narrow top place next

-- from this place on all values are 0
abbrev pub BlankFrom : ℕ → Witness → Type 0
BlankFrom place s = (k : ℕ) → place ≤ k → k < 64 → value_at_place s k ≡ 0
