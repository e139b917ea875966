-- Each trajectory of the module has one of rows that agrees with it, and each of rows is one of the module.
use Rattle.std.proofs.Common.{◌≡◌, ℕ, ◌≤◌, true, List, [], ◌∷◌, map, refl, subst}
use Rattle.model.specs.Meanings.{Meaning}
use Rattle.model.specs.States.{value, is_state, nothing, Continues, Trajectory, Ends}
use Rattle.model.specs.declared.Round.TheVariants.{Initial, Update}
use Rattle.model.proofs.States.{yields_parts}
use Rattle.theory.proofs.Runs.{map_ends}
use Rattle.reactive.specs.Modules.{Below, no_old, module_of, Row}
use Rattle.reactive.specs.Reactive.{Valuation, Agree, Variable, IsState, IsInitial, Follows, GoesOn, IsTrajectory, EndsIn}
use Rattle.reactive.specs.Runs.{AgreeAlong, TrajectoriesAgree, TrajectoriesAreThePublishedOnes}
use Rattle.reactive.proofs.Leading.{alike_initially, leading_concerned}
use Rattle.reactive.proofs.States.{variable_from, states_agree, row_of}

module _ (m : Meaning) where
  -- the same on the module's variables
  abbrev pub SameThere : Valuation → Valuation → Type 0
  SameThere = Agree (Variable (module_of m))

  pub state_same : (s t : Valuation) → SameThere s t → IsState (module_of m) s → IsState (module_of m) t
  state_same s t same h x k = subst (λ y. y ≤ m.outline.top x) (same x k) (h x k)

  module _ (s t : Valuation) (same : SameThere s t) (i : Below m.outline.atoms) where
    awaited_same : (n : ℕ) → m.outline.awaits i.number n ≡ true → s n ≡ t n
    awaited_same n e = same n (variable_from m n (m.outline_laws.awaits_known i.number n e).1)

    read_same : (n : ℕ) → m.outline.reads i.number n ≡ true → s n ≡ t n
    read_same n e = same n (variable_from m n (m.outline_laws.reads_known i.number n e).1)

    own_same : (n : ℕ) → m.outline.controls i.number n ≡ true → s n ≡ t n
    own_same n e = same n (variable_from m n (m.outline_laws.controls_known i.number n e).1)

  pub initial_same : (s t : Valuation) → SameThere s t → IsInitial (module_of m) s → IsInitial (module_of m) t
  initial_same s t same h =
      record {
        state = state_same s t same h.state;
        led = λ i. leading_concerned m Initial i.number no_old s s no_old t t (alike_initially m i.number no_old s no_old t (awaited_same s t same i)) (own_same s t same i) (h.led i);
      }

  pub follows_same : (s t s' t' : Valuation) → SameThere s s' → SameThere t t' → Follows (module_of m) s t → Follows (module_of m) s' t'
  follows_same s t s' t' before after h =
      record {
        before = state_same s s' before h.before;
        state = state_same t t' after h.state;
        led = λ i. leading_concerned m Update i.number s t t s' t' t' (record { awaited = awaited_same t t' after i; read = λ _. read_same s s' before i }) (own_same t t' after i) (h.led i);
      }

  -- rows that go on from the row t as the valuations go on from s
  rows_on : (s : Valuation) (later : List Valuation) (t : List ℕ) → Row m t → SameThere s (value t) → GoesOn (module_of m) s later →
      (told : List (List ℕ)) × Continues m t told × AgreeAlong (Variable (module_of m)) later (map value told)
  rows_on s [] t row same h = ([], tt, tt)
  rows_on s (u ∷ later) t row same h =
      let (v, full, alike) = (states_agree m).told u h.0.state in
      let step = follows_same s u (value t) (value v) same alike h.0 in
      let (told, on, along) = rows_on u later v full alike h.1 in
      (v ∷ told, ((((states_agree m).successors t v row full).1 step).1, on), (alike, along))

  pub rows : (run : List Valuation) → IsTrajectory (module_of m) run → (told : List (List ℕ)) × Trajectory m told × AgreeAlong (Variable (module_of m)) run (map value told)
  rows [] h = absurd h
  rows (s ∷ later) h =
      let (t, row, same) = (states_agree m).told s h.0.state in
      let start = initial_same s (value t) same h.0 in
      let (told, on, along) = rows_on s later t row same h.1 in
      (t ∷ told, (((states_agree m).initial t row).1 start, on), (same, along))

  valuations_on : (s : List ℕ) (later : List (List ℕ)) → is_state m.outline s ≡ true → Continues m s later → GoesOn (module_of m) (value s) (map value later)
  valuations_on s [] h c = tt
  valuations_on s (t ∷ later) h c =
      let state = (yields_parts m Update s t c.0.yielded).0 in
      (((states_agree m).successors s t (row_of m s h) (row_of m t state)).0 (h, c.0), valuations_on t later state c.1)

  pub published : (told : List (List ℕ)) → Trajectory m told → IsTrajectory (module_of m) (map value told)
  published [] h = h
  published (s ∷ later) h =
      let state = (yields_parts m Initial nothing s h.0.yielded).0 in
      (((states_agree m).initial s (row_of m s state)).0 h.0, valuations_on s later state h.1)

  -- where the valuations end, the rows end in the same
  pub same_end : (run : List Valuation) (told : List (List ℕ)) (v : Valuation) → AgreeAlong (Variable (module_of m)) run (map value told) → EndsIn run v →
      (t : List ℕ) × Ends told t × SameThere v (value t)
  same_end [] told v along e = absurd e
  same_end (s ∷ ss) [] v along e = absurd along
  same_end (s ∷ []) (t ∷ []) v along e = (t, refl, subst (λ (w : Valuation). SameThere w (value t)) e along.0)
  same_end (s ∷ []) (t ∷ (u ∷ us)) v along e = absurd along.1
  same_end (s ∷ (w ∷ ws)) (t ∷ []) v along e = absurd along.1
  same_end (s ∷ (w ∷ ws)) (t ∷ (u ∷ us)) v along e = same_end (w ∷ ws) (u ∷ us) v along.1 e

  pub trajectories_agree : TrajectoriesAgree m
  trajectories_agree =
      record {
        rows = rows;
        published = published;
        reached_row = λ v r.
            let (told, run, along) = rows r.run r.trajectory in
            let (t, ends, same) = same_end r.run told v along r.ends in
            (t, record { run = told; trajectory = run; ends = ends }, same);
        reached = λ t r. record { run = map value r.run; trajectory = published r.run r.trajectory; ends = map_ends value r.run t r.ends };
      }

pub trajectories_are : TrajectoriesAreThePublishedOnes
trajectories_are = trajectories_agree
