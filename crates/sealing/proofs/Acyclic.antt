-- Where no atom awaits itself, placing them one after the other never gets stuck.
use Rattle.std.proofs.Common.{◌≡◌, ℕ, ◌<◌, min, Bool, true, false, not, ◌⊎◌, List, [], ◌∷◌, sym, refl, ap, ◌∙◌, subst, inl, inr, ⊎_elim, arith}
use Rattle.std.proofs.lemmas.Bool.{and_parts, and_from, both_ways, cases_Bool, not-true, not_from_false}
use Rattle.model.specs.Meanings.{Meaning, OutlineFacts}
use Rattle.model.specs.Tests.{some}
use Rattle.model.proofs.Bounded.{some_decides}
use Rattle.model.proofs.Lowest.{lowest_clear}
use Rattle.theory.specs.Members.{Member}
use Rattle.theory.proofs.Runs.{initial_reachable}
use Rattle.units.specs.Sealing.{awaits_atom, circular}
use Rattle.reactive.proofs.Chains.{chain_through}
use Rattle.reactive.proofs.Order.{Sorted, atoms_in_order}
use Rattle.sealing.specs.Orders.{InOrder, AtomsInOrder, NoneCircular, waits_for, ready, NeverStuck}

module _ (m : Meaning) (clear : NoneCircular m.outline) (awaits : ℕ → ℕ → Bool) (agree : (a b : ℕ) → a < m.outline.atoms → b < m.outline.atoms → awaits a b ≡ awaits_atom m.outline a b) where
  not_itself : (a : ℕ) → a < m.outline.atoms → awaits_atom m.outline a a ≡ true → ⊥
  not_itself a l h = both_ways (circular m.outline a) (clear a l) (chain_through m a a (initial_reachable a h))

  -- the first of an order that is not placed yet is ready
  first_ready : (placed : ℕ → Bool) (xs : List ℕ) → Sorted (awaits_atom m.outline) xs → ((b : ℕ) → Member b xs → b < m.outline.atoms) → ((b : ℕ) → b < m.outline.atoms → (placed b ≡ true) ⊎ Member b xs) →
      ((a : ℕ) → a < m.outline.atoms → placed a ≡ true) ⊎ ((a : ℕ) × (a < m.outline.atoms) × (ready awaits m.outline.atoms placed a ≡ true))
  first_ready placed [] s low rest = inl (λ a l. ⊎_elim (λ t. t) (λ k. absurd k) (rest a l))
  first_ready placed (x ∷ xs) s low rest = ⊎_elim (λ t. first_ready placed xs s.1 (λ b k. low b (inr k)) (others t)) left (cases_Bool (placed x))
    where
      others : placed x ≡ true → (b : ℕ) → b < m.outline.atoms → (placed b ≡ true) ⊎ Member b xs
      others t b l = ⊎_elim (λ p. inl p) (λ k. ⊎_elim (λ e. inl (subst (λ y. placed y ≡ true) e t)) (λ h. inr h) k) (rest b l)

      here : x < m.outline.atoms
      here = low x (inl refl)

      waiting : (b : ℕ) → b < m.outline.atoms → waits_for awaits placed x b ≡ true → ⊥
      waiting b l w =
          let (h, n) = and_parts (awaits x b) (not (placed b)) w in
          let step = sym (agree x b here l) ∙ h in
          ⊎_elim (λ t. both_ways (placed b) (not-true (placed b) n) t) (λ k. ⊎_elim (λ e. not_itself x here (subst (λ y. awaits_atom m.outline x y ≡ true) (sym e) step)) (λ i. both_ways (awaits_atom m.outline x b) (s.0 b i) step) k) (rest b l)

      free : some (waits_for awaits placed x) m.outline.atoms ≡ false
      free = ⊎_elim (λ t. let (b, l, w) = (some_decides (waits_for awaits placed x) m.outline.atoms).0 t in absurd (waiting b l w)) (λ f. f) (cases_Bool (some (waits_for awaits placed x) m.outline.atoms))

      left : placed x ≡ false → ((a : ℕ) → a < m.outline.atoms → placed a ≡ true) ⊎ ((a : ℕ) × (a < m.outline.atoms) × (ready awaits m.outline.atoms placed a ≡ true))
      left f = inr (x, here, and_from (not (placed x)) (not (some (waits_for awaits placed x) m.outline.atoms)) (not_from_false (placed x) f) (not_from_false (some (waits_for awaits placed x) m.outline.atoms) free))

  never_stuck : NeverStuck awaits m.outline.atoms
  never_stuck placed none =
      let (xs, order) = atoms_in_order m clear in
      ⊎_elim (λ all. all) (λ found. absurd (both_ways (ready awaits m.outline.atoms placed found.0) (lowest_clear (ready awaits m.outline.atoms placed) m.outline.atoms none found.0 found.1) found.2))
      (first_ready placed xs order.after order.exact.sound (λ b l. inr (order.exact.complete b l)))

  in_order : (order : List ℕ) → InOrder awaits m.outline.atoms order → AtomsInOrder m.outline order
  in_order order p = record { each = p.each; only = p.only; once = p.once; after = λ i j l k w. p.after i j l k (agree _ _ (p.only i l) (p.only j k) ∙ w) }

-- a table that is right on the atoms
pub ordered_by : (m : Meaning) (o : OutlineFacts) → m.outline ≡ o → (awaits : ℕ → ℕ → Bool) → ((a b : ℕ) → a < 16 → b < 16 → awaits a b ≡ awaits_atom o a b) →
    (n : ℕ) → n ≡ min o.atoms 16 → (order : List ℕ) → (NeverStuck awaits n → InOrder awaits n order) → NoneCircular m.outline → AtomsInOrder m.outline order
ordered_by m o e awaits right n count order made clear =
    let few = m.outline_laws.few_atoms in
    let agree : (a b : ℕ) → a < m.outline.atoms → b < m.outline.atoms → awaits a b ≡ awaits_atom m.outline a b =
    λ a b l k. right a b (omega arith) (omega arith) ∙ sym (ap (λ (p : OutlineFacts). awaits_atom p a b) e)
    in
    let same : m.outline.atoms ≡ o.atoms = ap (λ (p : OutlineFacts). p.atoms) e in
    let all : n ≡ m.outline.atoms = omega arith in
    in_order m clear awaits agree order (subst (λ k. NeverStuck awaits k → InOrder awaits k order) all made (never_stuck m clear awaits agree))
