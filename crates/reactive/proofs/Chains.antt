-- Atoms that await each other, directly or through others.
use Rattle.std.proofs.Common.{◌≡◌, ℕ, zero, suc, ◌<◌, ◌≤◌, true, ◌&&◌, ◌⊎◌, List, [], ◌∷◌, length, subst, inl, inr, arith}
use native.Mathlib.Decide.{ℕ_discrete}
use Rattle.std.proofs.lemmas.Bool.{and_from, and_parts, or_left, or_right, or_cases}
use Rattle.model.specs.Meanings.{Meaning}
use Rattle.model.specs.Tests.{some}
use Rattle.model.proofs.Bounded.{some_decides, some_at}
use Rattle.theory.specs.Enumerations.{below}
use Rattle.theory.specs.Members.{Member, Distinct, Included}
use Rattle.theory.specs.Runs.{Continues, Trajectory, Ends, Reachable}
use Rattle.theory.proofs.Enumerations.{below_exact, length_below}
use Rattle.theory.proofs.Members.{pigeonhole}
use Rattle.theory.proofs.Runs.{initial_reachable, simple_run}
use Rattle.units.specs.Sealing.{awaits_atom, awaits_through}

module _ (m : Meaning) where
  -- atom a awaits a name that atom b controls
  abbrev pub Step : ℕ → ℕ → Type 0
  Step a b = awaits_atom m.outline a b ≡ true

  pub step_parts : (a b : ℕ) → Step a b → (n : ℕ) × (m.outline.awaits a n ≡ true) × (m.outline.controls b n ≡ true)
  step_parts a b h =
      let found = (some_decides (λ n. m.outline.awaits a n && m.outline.controls b n) 32).0 h in
      let both = and_parts (m.outline.awaits a found.0) (m.outline.controls b found.0) found.2 in
      (found.0, both.0, both.1)

  pub step_from : (a b n : ℕ) → m.outline.awaits a n ≡ true → m.outline.controls b n ≡ true → Step a b
  step_from a b n e f =
      some_at (λ k. m.outline.awaits a k && m.outline.controls b k) 32 n (m.outline_laws.names n (m.outline_laws.controls_known b n f).1) (and_from (m.outline.awaits a n) (m.outline.controls b n) e f)

  step_low : (a b : ℕ) → Step a b → b < m.outline.atoms
  step_low a b h = let n = step_parts a b h in (m.outline_laws.controls_known b n.0 n.2).0

  -- a chain of steps from a to b
  abbrev pub Chain : ℕ → ℕ → Type 0
  Chain a b = Reachable (Step a) Step b

  pub chain_first : (a b c : ℕ) → Step a b → Chain b c → Chain a c
  chain_first a b c h r = go r.run r.trajectory r.ends
    where
      go : (run : List ℕ) → Trajectory (Step b) Step run → Ends run c → Chain a c
      go [] i e = absurd i
      go (s ∷ ts) i e = record { run = b ∷ (s ∷ ts); trajectory = (h, (i.0, i.1)); ends = e }

  -- the first of a chain is an atom
  pub chain_low : (a b : ℕ) → Chain a b → a < m.outline.atoms
  chain_low a b r = go r.run r.trajectory
    where
      go : (run : List ℕ) → Trajectory (Step a) Step run → a < m.outline.atoms
      go [] i = absurd i
      go (s ∷ ts) i = let n = step_parts a s i.0 in (m.outline_laws.awaits_known a n.0 n.1).0

  visited_low : (a s : ℕ) (ts : List ℕ) → Step a s → Continues Step s ts → Included (s ∷ ts) (below m.outline.atoms)
  visited_low a s ts h c x (inl e) = subst (λ y. Member y (below m.outline.atoms)) e ((below_exact m.outline.atoms).complete s (step_low a s h))
  visited_low a s [] h c x (inr k) = absurd k
  visited_low a s (t ∷ ts) h c x (inr k) = visited_low s t ts c.0 c.1 x k

  through : (a s : ℕ) (ts : List ℕ) (b others : ℕ) → length ts ≤ others → Step a s → Continues Step s ts → Ends (s ∷ ts) b → awaits_through m.outline others a b ≡ true
  unfolding awaits_through
  through a s [] b zero l h c e = subst (λ x. Step a x) e h
  through a s [] b (suc others) l h c e = or_left (awaits_atom m.outline a b) _ (subst (λ x. Step a x) e h)
  through a s (t ∷ ts) b zero l h c e = absurd (omega arith)
  through a s (t ∷ ts) b (suc others) l h c e =
      or_right (awaits_atom m.outline a b) _ (some_at (λ k. awaits_atom m.outline a k && awaits_through m.outline others k b) m.outline.atoms s (step_low a s h)
      (and_from (awaits_atom m.outline a s) (awaits_through m.outline others s b) h (through s t ts b others (omega arith) c.0 c.1 e)))

  -- a chain without repeats goes through no more others than there are atoms
  pub chain_through : (a b : ℕ) → Chain a b → awaits_through m.outline m.outline.atoms a b ≡ true
  chain_through a b p = let r = simple_run ℕ_discrete p in go r.run r.trajectory r.ends r.distinct
    where
      go : (run : List ℕ) → Trajectory (Step a) Step run → Ends run b → Distinct run → awaits_through m.outline m.outline.atoms a b ≡ true
      go [] i e d = absurd i
      go (s ∷ ts) i e d = through a s ts b m.outline.atoms (omega (arith, pigeonhole (s ∷ ts) (below m.outline.atoms) d (visited_low a s ts i.0 i.1), length_below m.outline.atoms)) i.0 i.1 e

  pub through_chain : (others a b : ℕ) → awaits_through m.outline others a b ≡ true → Chain a b
  unfolding awaits_through
  through_chain zero a b h = initial_reachable b h
  through_chain (suc others) a b h = go (through_chain others) (or_cases (awaits_atom m.outline a b) _ h)
    where
      go : ((c d : ℕ) → awaits_through m.outline others c d ≡ true → Chain c d) →
          (Step a b) ⊎ (some (λ c. awaits_atom m.outline a c && awaits_through m.outline others c b) m.outline.atoms ≡ true) → Chain a b
      go before (inl k) = initial_reachable b k
      go before (inr k) =
          let found = (some_decides (λ c. awaits_atom m.outline a c && awaits_through m.outline others c b) m.outline.atoms).0 k in
          let both = and_parts (awaits_atom m.outline a found.0) (awaits_through m.outline others found.0 b) found.2 in
          chain_first a found.0 b both.0 (before found.0 b both.1)
