-- The atoms of a module of which enough can be decided can be put into a consistent order.
use Rattle.std.proofs.Common.{ℕ, List, [], ◌∷◌, sym, refl, inl, inr, ⊎_elim, subst}
use Rattle.theory.specs.Members.{Member}
use Rattle.reactive.specs.Execution.{Consistent, IsOrder}
use Rattle.reactive.specs.Reactive.{Awaits, Plus, Plus.one, Plus.more, Acyclic, Module, IsModule}
use Rattle.reactive.proofs.Deciding.{Decided, dec_and}
use Rattle.reactive.proofs.Ordering.{plus_on, Rising, ordered}

module _ (P : Module) (fine : IsModule P) (known : Decided P) where
  -- atom i awaits a variable that atom j controls
  abbrev Waits : P.Index → P.Index → Type 0
  Waits i j = (x : ℕ) × (P.atom i).awaits x × (P.atom j).controls x

  -- a variable of the list does it
  abbrev Here : P.Index → P.Index → List ℕ → Type 0
  Here i j xs = (x : ℕ) × Member x xs × (P.atom i).awaits x × (P.atom j).controls x

  here_decided : (i j : P.Index) (xs : List ℕ) → Dec (Here i j xs)
  here_decided i j [] = no (λ h. h.1)
  here_decided i j (y ∷ ys) = more (dec_and (known.awaits i y) (known.controls j y)) (here_decided i j ys)
    where
      more : Dec ((P.atom i).awaits y × (P.atom j).controls y) → Dec (Here i j ys) → Dec (Here i j (y ∷ ys))
      more (yes h) d = yes (y, inl refl, h.0, h.1)
      more (no n) (yes h) = yes (h.0, inr h.1, h.2, h.3)
      more (no n) (no k) = no (λ h. ⊎_elim (λ e. n (subst (P.atom i).awaits (sym e) h.2, subst (P.atom j).controls (sym e) h.3)) (λ m. k (h.0, m, h.2, h.3)) h.1)

  waits_decided : (i j : P.Index) → Dec (Waits i j)
  waits_decided i j = go (here_decided i j fine.declaration.finite.0)
    where
      go : Dec (Here i j fine.declaration.finite.0) → Dec (Waits i j)
      go (yes h) = yes (h.0, h.2, h.3)
      go (no n) = no (λ h. n (h.0, fine.declaration.finite.1 h.0 ((fine.atoms i).awaits h.0 h.1), h.1, h.2))

  -- a chain from each variable that i controls to one that j controls
  between : (i j : P.Index) → Plus Waits i j → (y : ℕ) × (P.atom j).controls y × ((x : ℕ) → (P.atom i).controls x → Plus (Awaits P) x y)
  between i j (one (y, w, c)) = (y, c, λ x h. one (record { atom = i; controls = h; awaits = w }))
  between i k (more {y = j} (y, w, c) rest) =
      let (z, d, chain) = between j k rest in
      (z, d, λ x h. more (record { atom = i; controls = h; awaits = w }) (chain y c))

  waits_acyclic : Acyclic Waits
  waits_acyclic i j p q = let (y, c, chain) = between i i (plus_on Waits i j i p q) in fine.acyclic y y (chain y c) (chain y c)

  consistent : (order : List P.Index) → Rising Waits order → Consistent P order
  consistent [] r = tt
  consistent (i ∷ later) r = (λ j x k w c. r.0 j k (x, w, c), consistent later r.1)

  pub in_order : (order : List P.Index) × IsOrder P order
  in_order =
      let o = ordered Waits waits_decided waits_acyclic known.atoms known.once in
      (o.order, record { complete = λ i. o.there i (known.each i); distinct = o.distinct; consistent = consistent o.order o.rising })
