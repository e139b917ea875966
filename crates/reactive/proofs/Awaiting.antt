-- No atom awaits itself, directly or through others, exactly when awaiting among variables is acyclic.
use Rattle.std.proofs.Common.{◌≡◌, ℕ, ◌<◌, true, false, List, [], ◌∷◌, subst, ⊎_elim}
use Rattle.std.proofs.lemmas.Bool.{both_ways, cases_Bool}
use Rattle.model.specs.Meanings.{Meaning}
use Rattle.theory.specs.Runs.{Continues, Trajectory, Ends}
use Rattle.theory.proofs.Runs.{initial_reachable}
use Rattle.units.specs.Sealing.{circular}
use Rattle.reactive.specs.Modules.{module_of}
use Rattle.reactive.specs.Reactive.{Awaits, Plus, Plus.one, Plus.more}
use Rattle.reactive.proofs.Chains.{Step, step_parts, step_from, Chain, chain_first, chain_through, through_chain}

module _ (m : Meaning) where
  abbrev Follow : ℕ → ℕ → Type 0
  Follow = Plus (Awaits (module_of m))

  -- a chain between atoms, for one between variables
  between_atoms : (x y : ℕ) → Follow x y → (a : ℕ) × (m.outline.controls a x ≡ true) × ((b : ℕ) → m.outline.controls b y ≡ true → Chain m a b)
  between_atoms x y (one w) = (w.atom.number, w.controls, λ b c. initial_reachable b (step_from m w.atom.number b y w.awaits c))
  between_atoms x z (more {y = y} w p) =
      let rest = between_atoms y z p in
      (w.atom.number, w.controls, λ b c. chain_first m w.atom.number rest.0 b (step_from m w.atom.number rest.0 y w.awaits rest.1) (rest.2 b c))

  follow_on : (x y z : ℕ) → Follow x y → Follow y z → Follow x z
  follow_on x y z (one w) q = more w q
  follow_on x z u (more {y = y} w p) q = more w (follow_on y z u p q)

  -- no atom awaits itself
  abbrev pub NoCircle : Type 0
  NoCircle = (a : ℕ) → a < m.outline.atoms → circular m.outline a ≡ false

  pub acyclic_from : NoCircle → (x y : ℕ) → Follow x y → Follow y x → ⊥
  acyclic_from clear x y p q =
      let (a, c, chain) = between_atoms x x (follow_on x y x p q) in
      both_ways (circular m.outline a) (clear a (m.outline_laws.controls_known a x c).0) (chain_through m a a (chain a c))

  -- a chain from each variable that a controls to one that b controls
  Between : ℕ → ℕ → Type 0
  Between a b = (y : ℕ) × (m.outline.controls b y ≡ true) × ((x : ℕ) → m.outline.controls a x ≡ true → Follow x y)

  first : (a x n : ℕ) → m.outline.controls a x ≡ true → m.outline.awaits a n ≡ true → Awaits (module_of m) x n
  first a x n c w = record { atom = record { number = a; low = (m.outline_laws.controls_known a x c).0 }; controls = c; awaits = w }

  between : (a s : ℕ) (ts : List ℕ) (b : ℕ) → Step m a s → Continues (Step m) s ts → Ends (s ∷ ts) b → Between a b
  unfolding Between
  between a s [] b h k e =
      let (n, w, c) = step_parts m a s h in
      (n, subst (λ i. m.outline.controls i n ≡ true) e c, λ x d. one (first a x n d w))
  between a s (t ∷ ts) b h k e =
      let (n, w, c) = step_parts m a s h in
      let (y, d, f) = between s t ts b k.0 k.1 e in
      (y, d, λ x g. more (first a x n g w) (f n c))

  between_variables : (a b : ℕ) → Chain m a b → Between a b
  between_variables a b r = go r.run r.trajectory r.ends
    where
      go : (run : List ℕ) → Trajectory (Step m a) (Step m) run → Ends run b → Between a b
      go [] i e = absurd i
      go (s ∷ ts) i e = between a s ts b i.0 i.1 e

  pub no_circle : ((x y : ℕ) → Follow x y → Follow y x → ⊥) → NoCircle
  unfolding Between
  no_circle acyclic a h = ⊎_elim wrong (λ f. f) (cases_Bool (circular m.outline a))
    where
      wrong : circular m.outline a ≡ true → circular m.outline a ≡ false
      wrong t = let (y, c, f) = between_variables a a (through_chain m m.outline.atoms a a t) in absurd (acyclic y y (f y c) (f y c))
