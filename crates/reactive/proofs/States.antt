-- States, initial states and successors are those of the reactive module.
use Rattle.std.proofs.Common.{◌≡◌, ℕ, ◌<◌, ◌≤◌, true, false, cond, ◌⊎◌, ◌↔◌, List, [], ◌∷◌, map, is_some, Some, None, Option, sym, refl, ap, ◌∙◌, inl, inr, arith}
use Rattle.std.proofs.lemmas.List.{get_or_past}
use Rattle.std.proofs.lemmas.Bool.{both_ways, cases_Bool, cases_lt, cond-true, cond-false}
use Rattle.composition.specs.Views.{as_state}
use Rattle.composition.proofs.States.{state_zero}
use Rattle.composition.proofs.Views.{length_as_state, value_as_state}
use Rattle.model.specs.Meanings.{Valuation, Meaning}
use Rattle.model.specs.States.{value, is_state, yields, nothing, InitialState, Successor, Continues, Trajectory}
use Rattle.model.specs.declared.Kind.{Kind}
use Rattle.model.specs.declared.Kind.TheVariants.{Private, Interface, External}
use Rattle.model.specs.declared.Round.{Round}
use Rattle.model.specs.declared.Round.TheVariants.{Initial, Update}
use Rattle.model.proofs.States.{state_parts, state_from, takes_parts, takes_from, yields_parts, yields_from}
use Rattle.theory.specs.Members.{Member}
use Rattle.reactive.specs.Modules.{Below, no_old, module_of, Row}
use Rattle.reactive.specs.Reactive.{Variable, IsState, IsInitial, Follows, IsTrajectory, GoesOn}
use Rattle.reactive.specs.Statements.{StatesAgree, StatesAreThePublishedOnes}
use Rattle.reactive.proofs.Leading.{Leading, alike_initially, leading_concerned, leading_from_taken, taken_from_leading}

-- a variable is private, interface or external
pub kind_split : (k : Option Kind) → is_some k ≡ true → ((k ≡ Some Private) ⊎ (k ≡ Some Interface)) ⊎ (k ≡ Some External)
kind_split None e = absurd (both_ways false refl e)
kind_split (Some Private) e = inl (inl refl)
kind_split (Some Interface) e = inl (inr refl)
kind_split (Some External) e = inr refl

pub some_kind : {k : Option Kind} {x : Kind} → k ≡ Some x → is_some k ≡ true
some_kind e = ap is_some e

module _ (m : Meaning) where
  pub variable_from : (n : ℕ) → is_some (m.outline.kind n) ≡ true → Variable (module_of m) n
  variable_from n e = kind_split (m.outline.kind n) e

  pub variable_there : (n : ℕ) → Variable (module_of m) n → is_some (m.outline.kind n) ≡ true
  variable_there n (inl (inl e)) = some_kind e
  variable_there n (inl (inr e)) = some_kind e
  variable_there n (inr e) = some_kind e

  states : (t : List ℕ) → Row m t → (is_state m.outline t ≡ true) ↔ IsState (module_of m) (value t)
  states t row = (λ h x _. (state_parts m.outline t h).within x, λ h. state_from m.outline t row.long (λ n _. go h n (cases_Bool (is_some (m.outline.kind n)))))
    where
      go : IsState (module_of m) (value t) → (n : ℕ) → (is_some (m.outline.kind n) ≡ true) ⊎ (is_some (m.outline.kind n) ≡ false) → value t n ≤ m.outline.top n
      go h n (inl e) = h n (variable_from n e)
      go h n (inr e) = omega (arith, row.zero n e)

  -- a row's values are bytes
  low : (t : List ℕ) → is_state m.outline t ≡ true → (n : ℕ) → value t n ≤ 255
  low t h n = omega (arith, (state_parts m.outline t h).within n, m.outline_laws.top_to_255 n)

  module _ (r : Round) (s t : List ℕ) where
    AllLead : Type 0
    AllLead = (i : Below m.outline.atoms) → Leading m r i.number (value s) (value t) (value t)

    yields_leads : yields m r s t ≡ true → AllLead
    unfolding AllLead
    yields_leads y i =
        let one = (yields_parts m r s t y).1 i.number i.low in
        leading_from_taken m r i.number one.0 (value s) (value t) one.1 (takes_parts m r i.number one.0 (value s) (value t) one.2)

    leads_yield : is_state m.outline t ≡ true → AllLead → yields m r s t ≡ true
    unfolding AllLead
    leads_yield h all = yields_from m r s t h (λ a b.
        let l = all (record { number = a; low = b }) in
        (l.choice, l.there, takes_from m r a l.choice (value s) (value t) (taken_from_leading m r a (value s) (value t) (λ n _. low t h n) l)))

  -- an initialization round leads from any old values
  from_any : (a : ℕ) (old old' new t : Valuation) → Leading m Initial a old new t → Leading m Initial a old' new t
  from_any a old old' new t = leading_concerned m Initial a old new t old' new t (alike_initially m a old new old' new (λ n _. refl)) (λ n _. refl)

  initial : (t : List ℕ) → Row m t → InitialState m t ↔ IsInitial (module_of m) (value t)
  unfolding AllLead
  initial t row = (
    λ i. record {
      state = (states t row).0 (yields_parts m Initial nothing t i.yielded).0;
      led = λ a. from_any a.number (value nothing) no_old (value t) (value t) (yields_leads Initial nothing t i.yielded a);
    },
    λ p. record { yielded = leads_yield Initial nothing t ((states t row).1 p.state) (λ a. from_any a.number no_old (value nothing) (value t) (value t) (p.led a)) },
  )

  -- a successor of a state
  pub follows : (s t : List ℕ) → IsState (module_of m) (value s) → Row m t → Successor m s t ↔ Follows (module_of m) (value s) (value t)
  unfolding AllLead
  follows s t before row = (
    λ u. record { before = before; state = (states t row).0 (yields_parts m Update s t u.yielded).0; led = yields_leads Update s t u.yielded },
    λ p. record { yielded = leads_yield Update s t ((states t row).1 p.state) p.led },
  )

  -- after any values
  leads : (s t : List ℕ) → Row m t →
      Successor m s t ↔ (IsState (module_of m) (value t) × ((i : (module_of m).Index) → ((module_of m).atom i).update (value s) (value t) (value t)))
  unfolding AllLead
  leads s t row = (
    λ u. ((states t row).0 (yields_parts m Update s t u.yielded).0, yields_leads Update s t u.yielded),
    λ p. record { yielded = leads_yield Update s t ((states t row).1 p.0) p.1 },
  )

  successors : (s t : List ℕ) → Row m s → Row m t → ((is_state m.outline s ≡ true) × Successor m s t) ↔ Follows (module_of m) (value s) (value t)
  successors s t before row = (
    λ u. (follows s t ((states s before).0 u.0) row).0 u.1,
    λ p. ((states s before).1 p.before, (follows s t p.before row).1 p),
  )

  trajectories : (run : List (List ℕ)) → ((t : List ℕ) → Member t run → Row m t) → Trajectory m run ↔ IsTrajectory (module_of m) (map value run)
  trajectories [] rows = (λ i. i, λ i. i)
  trajectories (s ∷ ts) rows =
      let start = initial s (rows s (inl refl)) in (
        λ i. let first = start.0 i.0 in (first, (continues s ts first.state (λ t k. rows t (inr k))).0 i.1),
        λ i. (start.1 i.0, (continues s ts i.0.state (λ t k. rows t (inr k))).1 i.1),
      )
    where
      continues : (s : List ℕ) (ts : List (List ℕ)) → IsState (module_of m) (value s) → ((t : List ℕ) → Member t ts → Row m t) →
          Continues m s ts ↔ GoesOn (module_of m) (value s) (map value ts)
      continues s [] before rows = (λ i. i, λ i. i)
      continues s (t ∷ ts) before rows =
          let here = follows s t before (rows t (inl refl)) in (
            λ i. let next = here.0 i.0 in (next, (continues t ts next.state (λ u k. rows u (inr k))).0 i.1),
            λ i. (here.1 i.0, (continues t ts i.0.state (λ u k. rows u (inr k))).1 i.1),
          )

  -- a state of the drawing is a row
  pub row_of : (s : List ℕ) → is_state m.outline s ≡ true → Row m s
  row_of s h = record { long = (state_parts m.outline s h).long; zero = state_zero m s h }

  -- the valuation as a row
  abbrev as_row : Valuation → List ℕ
  as_row v = as_state (λ n. cond (is_some (m.outline.kind n)) (v n) 0)

  row_zero : (v : Valuation) (n : ℕ) → is_some (m.outline.kind n) ≡ false → value (as_row v) n ≡ 0
  row_zero v n e = go (cases_lt n 32)
    where
      go : (n < 32) ⊎ (32 ≤ n) → value (as_row v) n ≡ 0
      go (inl l) = value_as_state (λ k. cond (is_some (m.outline.kind k)) (v k) 0) n l ∙ cond-false (is_some (m.outline.kind n)) (v n) 0 e
      go (inr l) = get_or_past (as_row v) n 0 (omega (arith, length_as_state (λ k. cond (is_some (m.outline.kind k)) (v k) 0)))

  pub states_agree : StatesAgree m
  states_agree =
      record {
        states = states;
        initial = initial;
        successors = successors;
        follows = follows;
        leads = leads;
        trajectories = trajectories;
        told = λ v h. (
          as_row v,
          record { long = length_as_state _; zero = row_zero v },
          λ n x. let e = variable_there n x in sym (value_as_state (λ k. cond (is_some (m.outline.kind k)) (v k) 0) n (m.outline_laws.names n e) ∙ cond-true (is_some (m.outline.kind n)) (v n) 0 e),
        );
      }

pub states_are : StatesAreThePublishedOnes
states_are = states_agree
