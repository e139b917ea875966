-- On a fit drawing each round can be gone through: some atom is always ready, has an open choice, and so every round
-- has an outcome.
use Rattle.std.proofs.Common.{◌≡◌, ℕ, zero, suc, ◌<◌, ◌≤◌, Bool, true, false, cond, not, ◌&&◌, ◌⊎◌, List, [], ◌∷◌, length, set, replicate, None, Option, sym, refl, subst, inl, inr, ⊎_elim, le_refl, arith}
use Rattle.std.proofs.lemmas.List.{length-replicate}
use Rattle.std.proofs.lemmas.Bool.{and_from, and_parts, or_left, or_right, both_ways, cases_Bool, le-ltb, not-true}
use Rattle.model.specs.Meanings.{OutlineFacts, Meaning}
use Rattle.model.specs.States.{value, yields, nothing, InitialState}
use Rattle.model.specs.Tests.{some, count}
use Rattle.model.proofs.Bounded.{some_decides, some_at}
use Rattle.model.proofs.Lowest.{clear_lowest}
use Rattle.theory.specs.Enumerations.{below}
use Rattle.theory.specs.Members.{Member, Distinct}
use Rattle.theory.specs.Runs.{Continues}
use Rattle.theory.proofs.Enumerations.{below_exact, length_below}
use Rattle.theory.proofs.Members.{pigeonhole}
use Rattle.units.specs.Sealing.{awaits_atom, awaits_through, is_external, verdict}
use Rattle.units.specs.Units.{wrong_value, kind_of_round, old_state, has_fired, must_wait, values_made}
use Rattle.units.proofs.Calls.{old_in_range, zeros}
use Rattle.units.proofs.Fitness.{InRange, Keeps, keeps}
use Rattle.units.proofs.Rounds.{Midway, begins, one_less, fires, all_fired}
use Rattle.model.proofs.Counted.{some_clear, none_counted}

-- chains of atoms, each of which awaits the next

abbrev Awaits : OutlineFacts → ℕ → ℕ → Type 0
Awaits o a b = awaits_atom o a b ≡ true

some_long : (x : ℕ) (xs : List ℕ) → Member x xs → 1 ≤ length xs
some_long x [] h = absurd h
some_long x (y ∷ ys) h = omega arith

module _ (m : Meaning) where
  abbrev o : OutlineFacts
  o = m.outline

  -- the two ends of a step are atoms
  awaited_there : (a b : ℕ) → Awaits o a b → b < o.atoms
  awaited_there a b h =
      let found = (some_decides (λ n. o.awaits a n && o.controls b n) 32).0 h in
      (m.outline_laws.controls_known b found.0 (and_parts (o.awaits a found.0) (o.controls b found.0) found.2).1).0

  -- an atom awaits each later one in a chain through those in between
  through : (s : ℕ) (ts : List ℕ) (t k : ℕ) → Continues (Awaits o) s ts → Member t ts → length ts ≤ suc k → awaits_through o k s t ≡ true
  unfolding awaits_through
  through s [] t k c h l = absurd h
  through s (u ∷ us) t k c (inl e) l = direct k (subst (Awaits o s) e c.0)
    where
      direct : (k : ℕ) → Awaits o s t → awaits_through o k s t ≡ true
      direct zero h = h
      direct (suc k) h = or_left (awaits_atom o s t) _ h
  through s (u ∷ us) t zero c (inr h) l = absurd (let some = some_long t us h in omega arith)
  through s (u ∷ us) t (suc k) c (inr h) l =
      or_right (awaits_atom o s t) _ (some_at (λ x. awaits_atom o s x && awaits_through o k x t) o.atoms u (awaited_there s u c.0) (and_from (awaits_atom o s u) (awaits_through o k u t) c.0 (through u us t k c.1 h (omega arith))))

  module _ (fit : Keeps m) where
    chain_distinct : (s : ℕ) (ts : List ℕ) → s < o.atoms → Continues (Awaits o) s ts → length ts ≤ suc o.atoms → Distinct (s ∷ ts)
    chain_distinct s [] l c short = (λ h. h, tt)
    chain_distinct s (t ∷ ts) l c short = (
      λ h. both_ways (awaits_through o o.atoms s s) (fit.acyclic s l) (through s (t ∷ ts) s o.atoms c h short),
      chain_distinct t ts (awaited_there s t c.0) c.1 (omega arith),
    )

    chain_there : (s : ℕ) (ts : List ℕ) (x : ℕ) → s < o.atoms → Continues (Awaits o) s ts → Member x (s ∷ ts) → x < o.atoms
    chain_there s ts x l c (inl e) = subst (λ y. y < o.atoms) e l
    chain_there s [] x l c (inr h) = absurd h
    chain_there s (t ∷ ts) x l c (inr h) = chain_there t ts x (awaited_there s t c.0) c.1 h

    -- a chain has no more members than there are atoms
    no_long_chain : (s : ℕ) (ts : List ℕ) → s < o.atoms → Continues (Awaits o) s ts → length ts ≡ o.atoms → ⊥
    no_long_chain s ts l c e =
        let few = pigeonhole (s ∷ ts) (below o.atoms) (chain_distinct s ts l c (omega arith)) (λ x h. (below_exact o.atoms).complete x (chain_there s ts x l c h)) in
        omega (arith, few, length_below o.atoms)

    -- an atom that has not fired, and need not wait
    pub record Ready (fired : List Bool) : Type 0 where
      pub atom : ℕ
      pub there : atom < o.atoms
      pub unfired : has_fired fired atom ≡ false
      pub ready : must_wait o fired atom ≡ false

    record Chain (a k : ℕ) : Type 0 where
      rest : List ℕ
      awaited : Continues (Awaits o) a rest
      long : length rest ≡ k

    walk : (fired : List Bool) (k a : ℕ) → a < o.atoms → has_fired fired a ≡ false → Ready fired ⊎ Chain a k
    walk fired zero a l h = inr (record { rest = []; awaited = tt; long = refl })
    walk fired (suc k) a l h = go (cases_Bool (must_wait o fired a)) (walk fired k)
      where
        go : (must_wait o fired a ≡ true) ⊎ (must_wait o fired a ≡ false) → ((b : ℕ) → b < o.atoms → has_fired fired b ≡ false → Ready fired ⊎ Chain b k) → Ready fired ⊎ Chain a (suc k)
        go (inr e) f = inl (record { atom = a; there = l; unfired = h; ready = e })
        go (inl e) f =
            let one = (some_decides (λ n. o.awaits a n && some (λ b. o.controls b n && not (has_fired fired b)) o.atoms) 32).0 e in
            let n = one.0 in
            let late = and_parts (o.awaits a n) (some (λ b. o.controls b n && not (has_fired fired b)) o.atoms) one.2 in
            let two = (some_decides (λ b. o.controls b n && not (has_fired fired b)) o.atoms).0 late.1 in
            let b = two.0 in
            let parts = and_parts (o.controls b n) (not (has_fired fired b)) two.2 in
            let step : Awaits o a b = some_at (λ n. o.awaits a n && o.controls b n) 32 n one.1 (and_from (o.awaits a n) (o.controls b n) late.0 parts.0) in
            ⊎_elim inl (λ c. inr (record { rest = b ∷ c.rest; awaited = (step, c.awaited); long = omega (arith, c.long) })) (f b two.1 (not-true (has_fired fired b) parts.1))

    -- where an atom has not fired, one is ready
    pub next : (fired : List Bool) (a : ℕ) → a < o.atoms → has_fired fired a ≡ false → Ready fired
    next fired a l h = ⊎_elim (λ r. r) (λ c. absurd (no_long_chain a c.rest l c.awaited c.long)) (walk fired o.atoms a l h)

    module _ (before : Option (List ℕ)) (in-old : InRange o (value (old_state before))) where
      abbrev left : List Bool → ℕ
      left fired = count (λ a. not (has_fired fired a)) o.atoms

      abbrev OutcomeOf : Type 0
      OutcomeOf = (t : List ℕ) × (yields m (kind_of_round before) (old_state before) t ≡ true)

      finish : (fuel : ℕ) (new : List ℕ) (fired : List Bool) → Midway m before new fired → left fired ≤ fuel → OutcomeOf
      finish zero new fired midway h = (new, all_fired m before new fired midway (λ a l. none_counted (λ a. not (has_fired fired a)) o.atoms a (omega arith) l))
      finish (suc fuel) new fired midway h = go (cases_Bool (some (λ a. not (has_fired fired a)) o.atoms)) (finish fuel)
        where
          go : (some (λ a. not (has_fired fired a)) o.atoms ≡ true) ⊎ (some (λ a. not (has_fired fired a)) o.atoms ≡ false) →
              ((new : List ℕ) (fired : List Bool) → Midway m before new fired → left fired ≤ fuel → OutcomeOf) → OutcomeOf
          go (inr e) f = (new, all_fired m before new fired midway (λ a l. some_clear (λ a. not (has_fired fired a)) o.atoms a e l))
          go (inl e) f =
              let late = (some_decides (λ a. not (has_fired fired a)) o.atoms).0 e in
              let r = next fired late.0 late.1 (not-true _ late.2) in
              let choice = fit.some_open (kind_of_round before) r.atom (value (old_state before)) (value new) r.there in-old midway.state.within in
              let less = one_less fired r.atom (omega (arith, r.there, m.outline_laws.few_atoms, midway.places)) o.atoms r.there r.unfired in
              f (values_made m before new r.atom choice.0) (set fired r.atom true) (fires m fit before in-old new fired midway r.atom choice.0 r.there r.unfired r.ready choice.2) (omega arith)

      -- every round from here has an outcome
      pub some_outcome : OutcomeOf
      some_outcome = finish (left (replicate 16 false)) nothing (replicate 16 false) start (le_refl _)
        where
          start : Midway m before nothing (replicate 16 false)
          start = begins m before nothing (length-replicate {A = ℕ} 32 0) (clear_lowest (wrong_value o nothing) 32 (λ n l. le-ltb (cond (is_external (o.kind n)) (o.top n) 0) (value nothing n) (subst (λ v. v ≤ cond (is_external (o.kind n)) (o.top n) 0) (sym (zeros 32 n)) (omega arith))))

pub some_initial_state : (m : Meaning) → verdict m ≡ None → (t : List ℕ) × InitialState m t
some_initial_state m fine = let found = some_outcome m (keeps m fine) None (old_in_range m None tt) in (found.0, record { yielded = found.1 })
