-- Placing atoms one after the other.
use Rattle.std.proofs.Common.{◌≡◌, ℕ, ◌+◌, ◌<◌, ◌≤◌, Bool, true, false, not, ◌||◌, eqb, ltb, ◌≢◌, List, ◌∷◌, map, length, set, sym, refl, ◌∙◌, subst, inl, inr, ⊎_elim, not-suc-le-zero, arith, get_or-set_other, get_or-set_same}
use native.Mathlib.Decide.{ℕ_discrete}
use lib.ListN.{length-map}
use Rattle.std.proofs.lemmas.Bool.{and_parts, and_from, or_cases, or_left, or_right, both_ways, cases_Bool, cases_eq, not-true, not_from_false, eqb-true, eq-eqb, lt-ltb}
use Rattle.model.specs.Sets.{is_number}
use Rattle.model.specs.Tests.{some}
use Rattle.model.proofs.Bounded.{some_at}
use Rattle.theory.specs.Enumerations.{below}
use Rattle.theory.specs.Members.{Member, Distinct, Included}
use Rattle.theory.proofs.Enumerations.{below_exact, distinct_below, length_below}
use Rattle.theory.proofs.Members.{member_decided, pigeonhole, member_map, map_from, distinct_map}
use Rattle.sealing.specs.Orders.{atom_at, InOrder, waits_for, ready}

-- what stands after some places are filled
pub record Placed (awaits : ℕ → ℕ → Bool) (atoms : ℕ) (order : List ℕ) (placed : ℕ → Bool) (filled : ℕ) : Type 0 where
  pub there : (a : ℕ) → placed a ≡ true → (i : ℕ) × (i < filled) × (atom_at order i ≡ a)
  pub marked : (i : ℕ) → i < filled → placed (atom_at order i) ≡ true
  pub only : (i : ℕ) → i < filled → atom_at order i < atoms
  pub once : (i j : ℕ) → i < filled → j < filled → atom_at order i ≡ atom_at order j → i ≡ j
  pub after : (i : ℕ) → i < filled → (b : ℕ) → b < atoms → awaits (atom_at order i) b ≡ true → (j : ℕ) × (j < i) × (atom_at order j ≡ b)

module _ (awaits : ℕ → ℕ → Bool) (atoms : ℕ) where
  -- what an atom awaits is placed if it is ready
  pub ready_awaits : (placed : ℕ → Bool) (a : ℕ) → ready awaits atoms placed a ≡ true → (b : ℕ) → b < atoms → awaits a b ≡ true → placed b ≡ true
  ready_awaits placed a h b l w =
      let clear = not-true (some (waits_for awaits placed a) atoms) (and_parts (not (placed a)) (not (some (waits_for awaits placed a) atoms)) h).1 in
      ⊎_elim (λ t. t) (λ f. absurd (both_ways (some (waits_for awaits placed a) atoms) clear (some_at (waits_for awaits placed a) atoms b l (and_from (awaits a b) (not (placed b)) w (not_from_false (placed b) f))))) (cases_Bool (placed b))

  pub ready_new : (placed : ℕ → Bool) (a : ℕ) → ready awaits atoms placed a ≡ true → placed a ≡ false
  ready_new placed a h = not-true (placed a) (and_parts (not (placed a)) (not (some (waits_for awaits placed a) atoms)) h).0

  pub placed_none : (order : List ℕ) (none : ℕ → Bool) → ((a : ℕ) → none a ≡ false) → Placed awaits atoms order none 0
  placed_none order none h = record {
    there = λ a t. absurd (both_ways (none a) (h a) t);
    marked = λ i l. absurd (not-suc-le-zero l);
    only = λ i l. absurd (not-suc-le-zero l);
    once = λ i j l. absurd (not-suc-le-zero l);
    after = λ i l. absurd (not-suc-le-zero l);
  }

  module _ (order : List ℕ) (placed placed' : ℕ → Bool) (filled a : ℕ) (few : atoms ≤ 16) (inside : filled < length order) (before : Placed awaits atoms order placed filled)
      (low : a < atoms) (is-ready : ready awaits atoms placed a ≡ true) (more : (n : ℕ) → placed' n ≡ (placed n || is_number 16 a n)) where
    here : atom_at (set order filled a) filled ≡ a
    here = get_or-set_same order filled a 0 inside

    same : (i : ℕ) → i < filled → atom_at (set order filled a) i ≡ atom_at order i
    same i l = let ne : i ≢ filled = omega arith in get_or-set_other order filled i a 0 ne

    named : is_number 16 a a ≡ true
    named = and_from (eqb a a) (ltb a 16) (eq-eqb a a refl) (lt-ltb a 16 (omega arith))

    -- at a place that is filled now: an earlier one, or the new one
    at_each : (P : ℕ → ℕ → Type 0) → ((i : ℕ) → i < filled → P i (atom_at order i)) → P filled a → (i : ℕ) → i < filled + 1 → P i (atom_at (set order filled a) i)
    at_each P f e i l =
        ⊎_elim (λ (q : i ≡ filled). subst (λ k. P k (atom_at (set order filled a) k)) (sym q) (subst (P filled) (sym here) e)) (λ q. let h : i < filled = omega arith in subst (P i) (sym (same i h)) (f i h)) (cases_eq i filled)

    earlier : (i : ℕ) → i < filled → atom_at order i ≡ a → ⊥
    earlier i l e = both_ways (placed a) (ready_new placed a is-ready) (subst (λ b. placed b ≡ true) e (before.marked i l))

    -- one that is placed stands at an earlier place
    found : (b : ℕ) → placed b ≡ true → (i : ℕ) × (i < filled) × (atom_at (set order filled a) i ≡ b)
    found b t = let (i, l, e) = before.there b t in (i, l, same i l ∙ e)

    awaited : (i : ℕ) → i < filled + 1 → (b : ℕ) → b < atoms → awaits (atom_at (set order filled a) i) b ≡ true → (j : ℕ) × (j < i) × (atom_at (set order filled a) j ≡ b)
    awaited =
        at_each (λ i x. (b : ℕ) → b < atoms → awaits x b ≡ true → (j : ℕ) × (j < i) × (atom_at (set order filled a) j ≡ b))
        (λ i l b k w. let (j, h, e) = before.after i l b k w in (j, h, same j (omega arith) ∙ e))
        (λ b k w. found b (ready_awaits placed a is-ready b k w))

    apart : (i : ℕ) → i < filled + 1 → (j : ℕ) → j < filled + 1 → atom_at (set order filled a) i ≡ atom_at (set order filled a) j → i ≡ j
    apart =
        at_each (λ i x. (j : ℕ) → j < filled + 1 → x ≡ atom_at (set order filled a) j → i ≡ j)
        (λ i l. at_each (λ j y. atom_at order i ≡ y → i ≡ j) (λ j k. before.once i j l k) (λ e. absurd (earlier i l e)))
        (at_each (λ j y. a ≡ y → filled ≡ j) (λ j k e. absurd (earlier j k (sym e))) (λ _. refl))

    pub placed_more : Placed awaits atoms (set order filled a) placed' (filled + 1)
    placed_more = record {
      there = λ b t. ⊎_elim
          (λ p. let (i, l, e) = found b p in (i, omega arith, e))
          (λ n. (filled, omega arith, here ∙ sym (eqb-true b a (and_parts (eqb b a) (ltb a 16) n).0)))
          (or_cases (placed b) (is_number 16 a b) (sym (more b) ∙ t));
      marked = at_each (λ _ x. placed' x ≡ true) (λ i l. more (atom_at order i) ∙ or_left (placed (atom_at order i)) (is_number 16 a (atom_at order i)) (before.marked i l)) (more a ∙ or_right (placed a) (is_number 16 a a) named);
      only = at_each (λ _ x. x < atoms) before.only low;
      once = λ i j l k. apart i l j k;
      after = awaited;
    }

  -- as many places as there are atoms hold them all
  pub all_placed : (order : List ℕ) (placed : ℕ → Bool) → Placed awaits atoms order placed atoms → InOrder awaits atoms order
  all_placed order placed p = record {
    each = each;
    only = p.only;
    once = p.once;
    after = λ i j l k w. let (e, h, q) = p.after i l (atom_at order j) (p.only j k) w in let at : e ≡ j = p.once e j (omega arith) k q in omega arith;
  }
    where
      rows : List ℕ
      rows = map (atom_at order) (below atoms)

      long : length rows ≡ atoms
      long = length-map (below atoms) (atom_at order) ∙ length_below atoms

      inside : Included rows (below atoms)
      inside x k = let (i, l, e) = map_from (atom_at order) (below atoms) x k in (below_exact atoms).complete x (subst (λ y. y < atoms) e (p.only i ((below_exact atoms).sound i l)))

      distinct : Distinct rows
      distinct = distinct_map (atom_at order) (below atoms) (λ i j k l e. p.once i j ((below_exact atoms).sound i k) ((below_exact atoms).sound j l) e) (distinct_below atoms)

      included : (a : ℕ) → a < atoms → Included (a ∷ rows) (below atoms)
      included a l x (inl e) = (below_exact atoms).complete x (subst (λ y. y < atoms) e l)
      included a l x (inr k) = inside x k

      each : (a : ℕ) → a < atoms → (i : ℕ) × (i < atoms) × (atom_at order i ≡ a)
      each a l = go (member_decided ℕ_discrete a rows)
        where
          go : Dec (Member a rows) → (i : ℕ) × (i < atoms) × (atom_at order i ≡ a)
          go (yes k) = let (i, h, e) = map_from (atom_at order) (below atoms) a k in (i, (below_exact atoms).sound i h, e)
          go (no k) = absurd (omega (arith, long, length_below atoms, pigeonhole (a ∷ rows) (below atoms) (k, distinct) (included a l)))

  -- fewer places than there are atoms do not hold them all
  pub not_all : (order : List ℕ) (placed : ℕ → Bool) (filled : ℕ) → filled < atoms → Placed awaits atoms order placed filled → ((a : ℕ) → a < atoms → placed a ≡ true) → ⊥
  not_all order placed filled few p all =
      omega (arith, length-map (below filled) (atom_at order), length_below filled, length_below atoms, pigeonhole (below atoms) (map (atom_at order) (below filled)) (distinct_below atoms) included)
    where
      included : Included (below atoms) (map (atom_at order) (below filled))
      included a k =
          let (i, l, e) = p.there a (all a ((below_exact atoms).sound a k)) in
          subst (λ x. Member x (map (atom_at order) (below filled))) e (member_map (atom_at order) (below filled) i ((below_exact filled).complete i l))
