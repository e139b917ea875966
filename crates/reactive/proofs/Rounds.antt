-- The atoms of a fit drawing can be put into a consistent order, and so each of its rounds can be completed.
use Rattle.std.proofs.Common.{◌≡◌, ℕ, ◌≤◌, true, List, None, sym, refl, ◌∙◌, subst, inr, arith}
use Rattle.std.proofs.lemmas.List.{length-replicate, get_or-replicate}
use Rattle.model.specs.Meanings.{Meaning}
use Rattle.model.specs.States.{value, is_state, nothing, InitialState, Successor}
use Rattle.model.proofs.States.{state_from}
use Rattle.units.specs.Sealing.{verdict}
use Rattle.reactive.specs.Modules.{Below, module_of}
use Rattle.reactive.specs.Execution.{IsOrder, CanBeCompleted}
use Rattle.reactive.specs.Reactive.{IsModule, IsState}
use Rattle.reactive.specs.Statements.{SameOutside, FitUnitsHaveAnOrder, FitUnitsCompleteEveryRound, FitUnitsHaveAnInitialState}
use Rattle.reactive.proofs.Completing.{can_be_completed}
use Rattle.reactive.proofs.Fit.{passed, fit_module}
use Rattle.reactive.proofs.Deciding.{drawing_decided}
use Rattle.reactive.proofs.Ordered.{in_order as module_in_order}
use Rattle.reactive.proofs.Runs.{initial_same, follows_same}
use Rattle.reactive.proofs.States.{row_of, states_agree}

module _ (m : Meaning) where
  in_order : verdict m ≡ None → (order : List (Below m.outline.atoms)) × IsOrder (module_of m) order
  in_order fit = module_in_order (module_of m) (fit_module m (passed m fit)) (drawing_decided m)

  states_of : (s : List ℕ) → is_state m.outline s ≡ true → IsState (module_of m) (value s)
  states_of s h = ((states_agree m).states s (row_of m s h)).0 h

  module _ (fit : verdict m ≡ None) where
    fine : IsModule (module_of m)
    fine = fit_module m (passed m fit)

    goes_on : CanBeCompleted (module_of m)
    goes_on = let (order, ordered) = in_order fit in can_be_completed (module_of m) fine (drawing_decided m).controls order ordered

    first : (given : List ℕ) → is_state m.outline given ≡ true → (t : List ℕ) × InitialState m t × SameOutside m given t
    first given h =
        let (v, start, outside) = goes_on.first (value given) (λ x e. states_of given h x (inr e)) in
        let (t, row, same) = (states_agree m).told v start.state in
        (t, ((states_agree m).initial t row).1 (initial_same m v (value t) same start), λ n e. outside n e ∙ same n (inr e))

    later : (s given : List ℕ) → is_state m.outline s ≡ true → is_state m.outline given ≡ true → (t : List ℕ) × Successor m s t × SameOutside m given t
    later s given k h =
        let (v, next, outside) = goes_on.later (value s) (value given) (states_of s k) (λ x e. states_of given h x (inr e)) in
        let (t, row, same) = (states_agree m).told v next.state in
        (t, (((states_agree m).successors s t (row_of m s k) row).1 (follows_same m (value s) v (value s) (value t) (λ x _. refl) same next)).1, λ n e. outside n e ∙ same n (inr e))

  nothing_state : is_state m.outline nothing ≡ true
  nothing_state = state_from m.outline nothing (length-replicate {A = ℕ} 32 0) (λ n l. subst (λ v. v ≤ m.outline.top n) (sym (get_or-replicate {A = ℕ} 32 n 0 0 l)) (omega arith))

pub fit_order : FitUnitsHaveAnOrder
fit_order = in_order

pub fit_rounds : FitUnitsCompleteEveryRound
fit_rounds m fit = record { first = first m fit; later = later m fit }

pub fit_initial : FitUnitsHaveAnInitialState
fit_initial m fit = let (t, i, _) = first m fit nothing (nothing_state m) in (t, i)
