-- States of a module, read as facts.
use Rattle.std.proofs.Common.{◌≡◌, ℕ, ◌<◌, ◌≤◌, true, false, eqb, leb, ◌⊎◌, List, [], ◌∷◌, length, is_some, sym, subst, inl, inr, arith}
use Rattle.std.proofs.lemmas.List.{get_or_past}
use Rattle.std.proofs.lemmas.Bool.{and_from, and_parts, cases_lt, eq-eqb, eqb-true, le-leb, leb-true}
use Rattle.model.specs.Meanings.{OutlineFacts, Meaning}
use Rattle.model.specs.States.{value, is_state, takes, yields, nothing, Continues, Trajectory, Ends, Reachable}
use Rattle.model.specs.Tests.{every, some}
use Rattle.model.specs.declared.Round.{Round}
use Rattle.model.specs.declared.Round.TheVariants.{Initial, Update}
use Rattle.model.proofs.Bounded.{every_decides}
use Rattle.composition.specs.laws.Faults.{none_from}

module _ (o : OutlineFacts) (s : List ℕ) where
  pub is_state_from : length s ≡ 32 → ((n : ℕ) → n < 32 → value s n ≤ o.top n) → is_state o s ≡ true
  is_state_from long h =
      and_from (eqb (length s) 32) (every (λ n. leb (value s n) (o.top n)) 32) (eq-eqb (length s) 32 long)
      ((every_decides (λ n. leb (value s n) (o.top n)) 32).1 (λ n l. le-leb (value s n) (o.top n) (h n l)))

  pub state_length : is_state o s ≡ true → length s ≡ 32
  state_length e = eqb-true (length s) 32 (and_parts (eqb (length s) 32) (every (λ n. leb (value s n) (o.top n)) 32) e).0

  pub state_value : is_state o s ≡ true → (n : ℕ) → n < 32 → value s n ≤ o.top n
  state_value e n h =
      leb-true (value s n) (o.top n) ((every_decides (λ n. leb (value s n) (o.top n)) 32).0 (and_parts (eqb (length s) 32) (every (λ n. leb (value s n) (o.top n)) 32) e).1 n h)

-- a name that is no variable has the value 0
pub state_zero : (m : Meaning) (s : List ℕ) → is_state m.outline s ≡ true → (n : ℕ) → is_some (m.outline.kind n) ≡ false → value s n ≡ 0
state_zero m s e n h = go (cases_lt n 32)
  where
    go : (n < 32) ⊎ (32 ≤ n) → value s n ≡ 0
    go (inl l) = omega (arith, state_value m.outline s e n l, m.outline_laws.no_top n (none_from (m.outline.kind n) h))
    go (inr l) = get_or_past s n 0 (subst (λ k. k ≤ n) (sym (state_length m.outline s e)) l)

-- where a round leads is a state
pub yields_state : (m : Meaning) (r : Round) (s t : List ℕ) → yields m r s t ≡ true → is_state m.outline t ≡ true
yields_state m r s t h =
    (and_parts (is_state m.outline t) (every (λ a. some (λ k. takes m r a k (value s) (value t)) (m.acts.choices r a)) m.outline.atoms) h).0

-- each reachable state is a state
module _ (m : Meaning) where
  continued : (s : List ℕ) (ts : List (List ℕ)) (t : List ℕ) → is_state m.outline s ≡ true → Continues m s ts → Ends (s ∷ ts) t → is_state m.outline t ≡ true
  continued s [] t h c e = subst (λ u. is_state m.outline u ≡ true) e h
  continued s (u ∷ us) t h c e = continued u us t (yields_state m Update s u c.0.yielded) c.1 e

  started : (run : List (List ℕ)) (t : List ℕ) → Trajectory m run → Ends run t → is_state m.outline t ≡ true
  started [] t i e = absurd i
  started (s ∷ ts) t i e = continued s ts t (yields_state m Initial nothing s i.0.yielded) i.1 e

  pub reachable_state : (t : List ℕ) → Reachable m t → is_state m.outline t ≡ true
  reachable_state t h = started h.run t h.trajectory h.ends
