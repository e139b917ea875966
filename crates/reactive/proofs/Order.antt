-- Where no atom awaits itself, the atoms can be put into an order in which each comes after those that it awaits.
use Rattle.std.proofs.Common.{◌≡◌, ℕ, ◌<◌, Bool, true, false, List, [], ◌∷◌, ⊎_elim}
use Rattle.std.proofs.lemmas.Bool.{both_ways, cases_Bool}
use Rattle.model.specs.Meanings.{Meaning}
use Rattle.theory.specs.Enumerations.{below}
use Rattle.theory.specs.Members.{Member, Distinct, Exactly}
use Rattle.theory.proofs.Enumerations.{below_exact, distinct_below}
use Rattle.theory.proofs.Runs.{initial_reachable}
use Rattle.units.specs.Sealing.{awaits_atom, circular}
use Rattle.reactive.specs.Reactive.{Plus, Plus.one, Plus.more, Acyclic}
use Rattle.reactive.proofs.Chains.{Chain, chain_first, chain_low, chain_through}
use Rattle.reactive.proofs.Deciding.{dec_true}
use Rattle.reactive.proofs.Ordering.{plus_on, Rising, ordered}

-- nothing in the list stands above a later element
abbrev pub Sorted : {A : Type 0} → (A → A → Bool) → List A → Type 0
Sorted above [] = Unit {0}
Sorted {A} above (x ∷ xs) = ((y : A) → Member y xs → above x y ≡ false) × Sorted above xs

-- each atom once, none before one that it awaits
pub record Order (m : Meaning) (order : List ℕ) : Type 0 where
  pub exact : Exactly (λ a. a < m.outline.atoms) order
  pub distinct : Distinct order
  pub after : Sorted (awaits_atom m.outline) order

module _ (m : Meaning) (clear : (a : ℕ) → a < m.outline.atoms → circular m.outline a ≡ false) where
  abbrev Waits : ℕ → ℕ → Type 0
  Waits a b = awaits_atom m.outline a b ≡ true

  chain : (a b : ℕ) → Plus Waits a b → Chain m a b
  chain a b (one w) = initial_reachable b w
  chain a c (more {y = b} w p) = chain_first m a b c w (chain b c p)

  waits_acyclic : Acyclic Waits
  waits_acyclic a b p q =
      let c = chain a a (plus_on Waits a b a p q) in
      both_ways (circular m.outline a) (clear a (chain_low m a a c)) (chain_through m a a c)

  sorted : (xs : List ℕ) → Rising Waits xs → Sorted (awaits_atom m.outline) xs
  sorted [] r = tt
  sorted (x ∷ xs) r = (λ y k. ⊎_elim (λ t. absurd (r.0 y k t)) (λ f. f) (cases_Bool (awaits_atom m.outline x y)), sorted xs r.1)

  pub atoms_in_order : (order : List ℕ) × Order m order
  atoms_in_order =
      let o = ordered Waits (λ a b. dec_true (awaits_atom m.outline a b)) waits_acyclic (below m.outline.atoms) (distinct_below m.outline.atoms) in (
        o.order,
        record {
          exact = record {
            complete = λ a l. o.there a ((below_exact m.outline.atoms).complete a l);
            sound = λ a k. (below_exact m.outline.atoms).sound a (o.back a k);
          };
          distinct = o.distinct;
          after = sorted o.order o.rising;
        },
      )
