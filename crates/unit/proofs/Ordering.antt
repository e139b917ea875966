-- That atoms are in order holds no more than that it merely is so.
use Rattle.std.proofs.Common.{◌≡◌, ℕ, ◌<◌, Bool, true, eqb, List, is_some, Some, None, Option, sym, refl, ap, ◌∙◌}
use Rattle.std.proofs.Math.Bool.{Bool-set}
use Rattle.std.proofs.Math.Bridge.{le_prop}
use Rattle.std.proofs.lemmas.Bool.{false≢true, eqb-true, eq-eqb}
use base.Stored.{Coded-set, coded_ℕ}
use mathlib.Core.Logic.{∥∥₁_elim}
use Rattle.model.proofs.Bounded.{lowest_there, some_at}
use Rattle.model.proofs.Lowest.{lowest_found}
use Rattle.model.specs.Tests.{lowest, some}
use Rattle.sealing.specs.Orders.{InOrder, atom_at}

found : (p : ℕ → Bool) (n : ℕ) → some p n ≡ true → (i : ℕ) × (i < n) × (p i ≡ true)
found p n h = go (lowest p n) refl
  where
    go : (o : Option ℕ) → lowest p n ≡ o → (i : ℕ) × (i < n) × (p i ≡ true)
    go None e = absurd (false≢true (sym (ap is_some e) ∙ lowest_there p n ∙ h))
    go (Some i) e = let f = lowest_found p n i e in (i, f.inside, f.passes)

module _ (awaits : ℕ → ℕ → Bool) (atoms : ℕ) (order : List ℕ) (merely : ∥ InOrder awaits atoms order ∥₁) where
  stands : (a : ℕ) → a < atoms → some (λ i. eqb (atom_at order i) a) atoms ≡ true
  stands a l = ∥∥₁_elim merely (Bool-set _ _) (λ h.
      let e = h.each a l in
      some_at (λ i. eqb (atom_at order i) a) atoms e.0 e.1 (eq-eqb (atom_at order e.0) a e.2))

  pub in_order : InOrder awaits atoms order
  in_order = record {
    each = λ a l. let f = found (λ i. eqb (atom_at order i) a) atoms (stands a l) in (f.0, f.1, eqb-true (atom_at order f.0) a f.2);
    only = λ i l. ∥∥₁_elim merely le_prop (λ h. h.only i l);
    once = λ i j k l e. ∥∥₁_elim merely (Coded-set coded_ℕ _ _) (λ h. h.once i j k l e);
    after = λ i j k l e. ∥∥₁_elim merely le_prop (λ h. h.after i j k l e);
  }
