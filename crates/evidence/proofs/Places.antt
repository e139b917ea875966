-- Which atoms have their choices made at a place of the order, and what they await.
use Rattle.std.proofs.Common.{◌≡◌, ℕ, ◌+◌, ◌<◌, ◌≤◌, true, ◌&&◌, ◌⊎◌, List, sym, refl, ap, ◌∙◌, subst, inl, inr, ⊎_elim, arith}
use Rattle.std.proofs.lemmas.Bool.{and_from, cases_eq}
use Rattle.model.specs.Meanings.{Meaning}
use Rattle.model.proofs.Bounded.{some_at}
use Rattle.sealing.specs.Orders.{atom_at, AtomsInOrder}
use Rattle.units.specs.Sealing.{awaits_atom}

-- the atom stands before this place
abbrev pub Done : List ℕ → ℕ → ℕ → Type 0
Done order place a = (j : ℕ) × (j < place) × (atom_at order j ≡ a)

pub done_more : (order : List ℕ) (place next a : ℕ) → place ≤ next → Done order place a → Done order next a
done_more order place next a l (j, h, e) = (j, omega arith, e)

pub done_here : (order : List ℕ) (place : ℕ) → Done order (place + 1) (atom_at order place)
done_here order place = (place, omega arith, refl)

-- it is the one before, or one before that
pub done_cases : (order : List ℕ) (place a : ℕ) → Done order (place + 1) a → (a ≡ atom_at order place) ⊎ Done order place a
done_cases order place a (j, h, e) = ⊎_elim (λ same. inl (sym e ∙ ap (atom_at order) same)) (λ apart. inr (j, omega arith, e)) (cases_eq j place)

module _ (m : Meaning) (order : List ℕ) (ordered : AtomsInOrder m.outline order) where
  pub done_all : (a : ℕ) → a < m.outline.atoms → Done order m.outline.atoms a
  done_all a l = ordered.each a l

  module _ (place : ℕ) (l : place < m.outline.atoms) where
    pub there : atom_at order place < m.outline.atoms
    there = ordered.only place l

    pub not_yet : Done order place (atom_at order place) → ⊥
    not_yet (j, h, e) = let same : j ≡ place = ordered.once j place (omega arith) l e in omega arith

    -- what the atom at the place awaits is done
    pub waits : (b n : ℕ) → m.outline.awaits (atom_at order place) n ≡ true → m.outline.controls b n ≡ true → Done order place b
    waits b n w c =
        let known = m.outline_laws.controls_known b n c in
        let (j, h, e) = ordered.each b known.0 in
        let awaited : awaits_atom m.outline (atom_at order place) b ≡ true = some_at (λ n. m.outline.awaits (atom_at order place) n && m.outline.controls b n) 32 n (m.outline_laws.names n known.1) (and_from (m.outline.awaits (atom_at order place) n) (m.outline.controls b n) w c) in
        (j, ordered.after place j l h (subst (λ x. awaits_atom m.outline (atom_at order place) x ≡ true) (sym e) awaited), e)

  -- so is what one that is done awaits
  pub settled : (place b c n : ℕ) → place ≤ m.outline.atoms → Done order place b → m.outline.awaits b n ≡ true → m.outline.controls c n ≡ true → Done order place c
  settled place b c n l (j, h, e) w d = done_more order j place c (omega arith) (waits j (omega arith) c n (subst (λ x. m.outline.awaits x n ≡ true) (sym e) w) d)
