-- Certificates and runs: the conditions under which each is accepted, and the count.
use Rattle.std.specs.Prelude.{ℕ, ◌+◌, ◌-◌, ◌*◌, ◌/◌, ◌%◌, Bool, true, false, not, ◌&&◌, ◌||◌, List, [], map, length, take, drop, Some, None, filter, Option, ◌==◌, nat_lt, slice_index, slice_index_or}
use Rattle.model.specs.Meanings.{OutlineFacts, Meaning}
use Rattle.model.specs.States.{value, is_state, takes, yields, nothing}
use Rattle.model.specs.Tests.{every, lowest}
use Rattle.model.specs.declared.Round.{Round}
use Rattle.model.specs.declared.Round.TheVariants.{Initial, Update}
use Rattle.theory.specs.Enumerations.{below, pairs, ranges}
use Rattle.units.specs.Counting.{total, any, equal_lists}
use Rattle.units.specs.Sealing.{at_lowest, if_so, ◌else◌}
use Rattle.units.specs.declared.refusal.Refusal.{Refusal}
use Rattle.units.specs.declared.refusal.Refusal.TheVariants.{NotAState, FalseIn, TrueInLast, InitialStateMissing, NotInitial, SuccessorMissing, NotASuccessor}

-- The states that bytes list: 32 bytes each.
abbrev pub states_in : List ℕ → List (List ℕ)
states_in bs = map (λ i. take 32 (drop (32 * i) bs)) (below (length bs / 32))

-- the bytes are no whole states, or none, or more than 2,048
abbrev pub wrong_size : List ℕ → Bool
wrong_size bs = not (length bs % 32 == 0) || length bs == 0 || nat_lt 2048 (length bs / 32)

-- the state at an index of the list
abbrev pub state_at : List (List ℕ) → ℕ → List ℕ
state_at ss i = slice_index_or ss i []

-- all states of the module
abbrev pub all_states : OutlineFacts → List (List ℕ)
all_states o = ranges (map o.top (below 32))

abbrev pub is_listed : List (List ℕ) → List ℕ → Bool
is_listed ss t = any (equal_lists t) ss

-- some state to which a round of this kind can lead from s is not listed
abbrev pub misses_some : Meaning → List (List ℕ) → Round → List ℕ → Bool
misses_some m ss r s = any (λ t. yields m r s t && not (is_listed ss t)) (all_states m.outline)

-- The pairs of a state and a choice for each atom that yields it, in a round of this kind from s.
abbrev pub choice_rows : Meaning → Round → List (List ℕ)
choice_rows m r = ranges (map (λ a. m.acts.choices r a - 1) (below m.outline.atoms))

abbrev pub row_leads : Meaning → Round → List ℕ → List ℕ × List ℕ → Bool
row_leads m r s pair = every (λ a. takes m r a (slice_index pair.1 a) (value s) (value pair.0)) m.outline.atoms

abbrev pub outcomes : Meaning → Round → List ℕ → List (List ℕ × List ℕ)
outcomes m r s = filter (row_leads m r s) (pairs (all_states m.outline) (choice_rows m r))

-- the count that an accepted certificate is answered with: over initial states and over successors of each listed state
abbrev pub certificate_count : Meaning → List (List ℕ) → ℕ
certificate_count m ss = length (outcomes m Initial nothing) + total (λ s. length (outcomes m Update s)) ss

-- the lowest listed state that is no state of the module
abbrev pub foreign_state_refusal : Meaning → List (List ℕ) → Option Refusal
foreign_state_refusal m ss = at_lowest NotAState (lowest (λ i. not (is_state m.outline (state_at ss i))) (length ss))

-- Why a list of states is no certificate for a test; the first reason counts.
abbrev pub certificate_refusal : Meaning → (List ℕ → Bool) → List (List ℕ) → Option Refusal
certificate_refusal m holds ss =
    foreign_state_refusal m ss
    else at_lowest FalseIn (lowest (λ i. not (holds (state_at ss i))) (length ss))
    else if_so InitialStateMissing (misses_some m ss Initial nothing)
    else at_lowest SuccessorMissing (lowest (λ i. misses_some m ss Update (state_at ss i)) (length ss))

-- the place of the later one of two neighbours
abbrev pub later : Option ℕ → Option ℕ
later None = None
later (Some i) = Some (i + 1)

-- Why a list of states is no run that breaks a test.
abbrev pub run_refusal : Meaning → (List ℕ → Bool) → List (List ℕ) → Option Refusal
run_refusal m holds ss =
    foreign_state_refusal m ss
    else if_so NotInitial (not (yields m Initial nothing (state_at ss 0)))
    else at_lowest NotASuccessor (later (lowest (λ i. not (yields m Update (state_at ss i) (state_at ss (i + 1)))) (length ss - 1)))
    else if_so (TrueInLast (length ss - 1)) (holds (state_at ss (length ss - 1)))
