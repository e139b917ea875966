-- What sealing judges of a drawing. Each check is made over all names or atoms before the next one.
use Rattle.std.specs.Prelude.{◌≡◌, ℕ, zero, suc, ◌+◌, ◌*◌, max, Bool, true, false, cond, not, ◌&&◌, ◌||◌, List, map, ℤ, pos, negsuc, Some, None, Option, ◌==◌, nat_le, nat_lt}
use Rattle.model.specs.Meanings.{OutlineFacts, Meaning}
use Rattle.model.specs.States.{value}
use Rattle.model.specs.Tests.{some, lowest, count}
use Rattle.model.specs.declared.Fault.{Fault}
use Rattle.model.specs.declared.Kind.{Kind}
use Rattle.model.specs.declared.Kind.TheVariants.{Private, Interface, External}
use Rattle.model.specs.declared.Round.{Round}
use Rattle.model.specs.declared.Round.TheVariants.{Initial, Update}
use Rattle.theory.specs.Enumerations.{below, pairs, ranges}
use Rattle.units.specs.Counting.{product, any}
use Rattle.units.specs.declared.refusal.Refusal.{Refusal}
use Rattle.units.specs.declared.refusal.Refusal.TheVariants.{FaultyDrawing, NotOneController, AwaitsItself, SeesTooMuch, GetsStuck, LeavesRange, TooWide}

-- a private or interface name that not exactly one atom controls

abbrev pub owned : Option Kind → Bool
owned None = false
owned (Some Private) = true
owned (Some Interface) = true
owned (Some External) = false

abbrev pub controllers : OutlineFacts → ℕ → ℕ
controllers o n = count (λ a. o.controls a n) o.atoms

abbrev pub badly_controlled : OutlineFacts → ℕ → Bool
badly_controlled o n = owned (o.kind n) && not (controllers o n == 1)

-- an atom that awaits itself, directly or through others

-- atom a awaits a name that atom b controls
abbrev pub awaits_atom : OutlineFacts → ℕ → ℕ → Bool
awaits_atom o a b = some (λ n. o.awaits a n && o.controls b n) 32

-- a awaits b directly or through at most so many others
unfoldable pub awaits_through : OutlineFacts → ℕ → ℕ → ℕ → Bool
awaits_through o zero a b = awaits_atom o a b
awaits_through o (suc others) a b = awaits_atom o a b || some (λ c. awaits_atom o a c && awaits_through o others c b) o.atoms

-- there are no more others than atoms
abbrev pub circular : OutlineFacts → ℕ → Bool
circular o a = awaits_through o o.atoms a a

-- the values that an atom sees are more than 65,536; a name that it both reads and awaits counts twice

abbrev pub times_if : Bool → ℕ → ℕ
times_if seen top = cond seen (top + 1) 1

abbrev pub sight : OutlineFacts → ℕ → ℕ
sight o a = product (λ n. times_if (o.reads a n) (o.top n) * times_if (o.awaits a n) (o.top n)) 32

abbrev pub sees_too_much : OutlineFacts → ℕ → Bool
sees_too_much o a = nat_lt 65536 (sight o a)

-- at some values in range of what it sees, an atom has no open choice

-- the rows of 32 values in range at the names of a set, and 0 elsewhere
abbrev pub values_at : OutlineFacts → (ℕ → Bool) → List (List ℕ)
values_at o set = ranges (map (λ n. cond (set n) (o.top n) 0) (below 32))

-- the names whose old values an atom sees in a round of this kind
abbrev pub old_names : OutlineFacts → Round → ℕ → ℕ → Bool
old_names o Initial a n = false
old_names o Update a n = o.reads a n

-- all that an atom can see in a round of this kind: old values and new ones
abbrev pub sights : OutlineFacts → Round → ℕ → List (List ℕ × List ℕ)
sights o r a = pairs (values_at o (old_names o r a)) (values_at o (o.awaits a))

abbrev pub nothing_open : Meaning → Round → ℕ → List ℕ × List ℕ → Bool
nothing_open m r a seen = not (some (λ k. m.acts.opens r a k (value seen.0) (value seen.1)) (m.acts.choices r a))

abbrev pub in_some_round : Meaning → (Meaning → Round → ℕ → List ℕ × List ℕ → Bool) → ℕ → Bool
in_some_round m test a = any (test m Initial a) (sights m.outline Initial a) || any (test m Update a) (sights m.outline Update a)

abbrev pub gets_stuck : Meaning → ℕ → Bool
gets_stuck m a = in_some_round m nothing_open a

-- at some, an open one gives a value outside 0 to top

abbrev pub within : ℕ → ℤ → Bool
within top (pos x) = nat_le x top
within top (negsuc x) = false

abbrev pub gives_outside : Meaning → Round → ℕ → List ℕ × List ℕ → Bool
gives_outside m r a seen =
    some (λ k. m.acts.opens r a k (value seen.0) (value seen.1) && some (λ n. m.outline.controls a n && not (within (m.outline.top n) (m.acts.gives r a k n (value seen.0) (value seen.1)))) 32) (m.acts.choices r a)

abbrev pub leaves_range : Meaning → ℕ → Bool
leaves_range m a = in_some_round m gives_outside a

-- the width, the product of the external names' values and of each atom's larger choice count, exceeds 1,048,576

abbrev pub is_external : Option Kind → Bool
is_external None = false
is_external (Some Private) = false
is_external (Some Interface) = false
is_external (Some External) = true

abbrev pub width : Meaning → ℕ
width m =
    product (λ n. times_if (is_external (m.outline.kind n)) (m.outline.top n)) 32 * product (λ a. max (m.acts.choices Initial a) (m.acts.choices Update a)) m.outline.atoms

abbrev pub too_wide : Meaning → Bool
too_wide m = nat_lt 1048576 (width m)

-- The verdict: the first of these that applies, at the lowest name or atom; none when the drawing is fit.

-- the refusal that tells the place where something is wrong, if there is one
abbrev pub at_lowest : (ℕ → Refusal) → Option ℕ → Option Refusal
at_lowest told None = None
at_lowest told (Some place) = Some (told place)

abbrev pub if_so : Refusal → Bool → Option Refusal
if_so told true = Some told
if_so told false = None

-- what is wrong with the drawing itself
abbrev pub of_drawing : Option Fault → Option Refusal
of_drawing None = None
of_drawing (Some fault) = Some (FaultyDrawing fault)

-- the first one, if it is there, else the second
infixr 30 ◌else◌
abbrev pub ◌else◌ : Option Refusal → Option Refusal → Option Refusal
None else g = g
Some f else g = Some f

abbrev pub verdict : Meaning → Option Refusal
verdict m =
    of_drawing m.outline.fault
    else at_lowest NotOneController (lowest (badly_controlled m.outline) 32)
    else at_lowest AwaitsItself (lowest (circular m.outline) m.outline.atoms)
    else at_lowest SeesTooMuch (lowest (sees_too_much m.outline) m.outline.atoms)
    else at_lowest GetsStuck (lowest (gets_stuck m) m.outline.atoms)
    else at_lowest LeavesRange (lowest (leaves_range m) m.outline.atoms)
    else if_so TooWide (too_wide m)

pub record Fit (m : Meaning) : Type 0 where
  pub fine : verdict m ≡ None
