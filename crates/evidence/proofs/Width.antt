-- A round has no more outcomes than the width of the module.
use Rattle.std.proofs.Common.{◌≡◌, ℕ, zero, suc, ◌+◌, ◌-◌, ◌*◌, ◌<◌, ◌≤◌, max, Bool, true, false, cond, List, map, length, Option, sym, ap, ◌∙◌, subst, ap₂, le_refl, arith}
use Rattle.std.proofs.Math.Nat.{mul-le-mul, mul_assoc, mul-one, one-mul, le_trans}
use Rattle.std.proofs.lemmas.Bool.{cond-true}
use Rattle.std.proofs.lemmas.List.{length-map}
use Rattle.std.specs.List.{range_with_len}
use Rattle.model.specs.Meanings.{Meaning}
use Rattle.model.specs.States.{value}
use Rattle.model.specs.declared.Round.{Round}
use Rattle.model.specs.declared.Round.TheVariants.{Initial, Update}
use Rattle.model.proofs.States.{state_parts}
use Rattle.sealing.specs.Orders.{AtomsInOrder}
use Rattle.theory.specs.Enumerations.{below, pairs, room}
use Rattle.theory.specs.Members.{Member, Included}
use Rattle.theory.proofs.Enumerations.{ranges_exact, pairs_exact, length_pairs, length_ranges}
use Rattle.theory.proofs.Members.{pigeonhole, map_from, distinct_map}
use Rattle.units.specs.Counting.{product}
use Rattle.units.specs.Evidence.{choice_rows}
use Rattle.units.specs.Sealing.{is_external, times_if, values_at, width}
use Rattle.units.specs.Units.{kind_of_round, old_state}
use Rattle.units.proofs.Fitness.{InRange, Keeps, length_row, row_at}
use Rattle.evidence.proofs.Once.{visited_once, determined}
use Rattle.evidence.proofs.Sound.{sound}
use Rattle.evidence.proofs.Visits.{visits, is_outer}

product_front : (h : ℕ → ℕ) (n : ℕ) → product h (suc n) ≡ h 0 * product (λ k. h (k + 1)) n
unfolding product
product_front h zero = omega (arith, mul-one (h 0), one-mul (h 0))
product_front h (suc n) =
    ap (λ x. x * h (suc n)) (product_front h n)
    ∙ mul_assoc (h 0) (product (λ k. h (k + 1)) n) (h (suc n))
    ∙ ap (λ k. h 0 * (product (λ k. h (k + 1)) n * h k)) (omega arith)

-- rows under tops are no more than the product of these factors
room_within : (f h : ℕ → ℕ) (n a : ℕ) → ((k : ℕ) → k < n → f (a + k) + 1 ≤ h k) → room (map f (range_with_len a n)) ≤ product h n
unfolding product
room_within f h zero a each = le_refl 1
room_within f h (suc n) a each =
    let first : f a + 1 ≤ h 0 = subst (λ k. f k + 1 ≤ h 0) (omega arith) (each 0 (omega arith)) in
    let rest = room_within f (λ k. h (k + 1)) n (a + 1) (λ k l. subst (λ i. f i + 1 ≤ h (k + 1)) (omega arith) (each (k + 1) (omega arith))) in
    subst (λ x. (f a + 1) * room (map f (range_with_len (a + 1) n)) ≤ x) (sym (product_front h n)) (mul-le-mul first rest)

module _ (m : Meaning) (r : Round) where
  outer_room : room (map (λ n. cond (is_outer m.outline n) (m.outline.top n) 0) (below 32)) ≤ product (λ n. times_if (is_external (m.outline.kind n)) (m.outline.top n)) 32
  unfolding below
  outer_room = room_within (λ n. cond (is_outer m.outline n) (m.outline.top n) 0) (λ n. times_if (is_external (m.outline.kind n)) (m.outline.top n)) 32 0 (λ k _. subst (λ i. cond (is_outer m.outline i) (m.outline.top i) 0 + 1 ≤ times_if (is_external (m.outline.kind k)) (m.outline.top k)) (omega arith) (go k (is_external (m.outline.kind k))))
    where
      go : (k : ℕ) (b : Bool) → cond b (m.outline.top k) 0 + 1 ≤ times_if b (m.outline.top k)
      go k true = le_refl (m.outline.top k + 1)
      go k false = le_refl 1

  larger : (r : Round) (a : ℕ) → m.acts.choices r a ≤ max (m.acts.choices Initial a) (m.acts.choices Update a)
  larger Initial a = omega arith
  larger Update a = omega arith

  choice_room : room (map (λ a. m.acts.choices r a - 1) (below m.outline.atoms)) ≤ product (λ a. max (m.acts.choices Initial a) (m.acts.choices Update a)) m.outline.atoms
  unfolding below
  choice_room = room_within (λ a. m.acts.choices r a - 1) (λ a. max (m.acts.choices Initial a) (m.acts.choices Update a)) m.outline.atoms 0 (λ k l. subst (λ i. m.acts.choices r i - 1 + 1 ≤ max (m.acts.choices Initial k) (m.acts.choices Update k)) (omega arith) (go k l))
    where
      go : (k : ℕ) → k < m.outline.atoms → m.acts.choices r k - 1 + 1 ≤ max (m.acts.choices Initial k) (m.acts.choices Update k)
      go k l = let some = m.choice_laws.some_choice r k l in let least = larger r k in omega (arith, some, least)

module _ (m : Meaning) (keeps : Keeps m) (before : Option (List ℕ)) (in-old : InRange m.outline (value (old_state before))) (order : List ℕ) (ordered : AtomsInOrder m.outline order) where
  abbrev kind : Round
  kind = kind_of_round before

  outer_of : List ℕ → ℕ → ℕ
  outer_of s n = cond (is_outer m.outline n) (value s n) 0

  -- external values and choices
  key : List ℕ × List ℕ → List ℕ × List ℕ
  key p = (map (outer_of p.0) (below 32), p.1)

  apart : (p q : List ℕ × List ℕ) → Member p (visits m before order) → Member q (visits m before order) → key p ≡ key q → p ≡ q
  unfolding key outer_of
  apart p q h k e = determined m before order ordered p q h k agree (ap (λ (x : List ℕ × List ℕ). x.1) e)
    where
      agree : (n : ℕ) → n < 32 → is_outer m.outline n ≡ true → value p.0 n ≡ value q.0 n
      agree n l o =
          sym (cond-true (is_outer m.outline n) (value p.0 n) 0 o)
          ∙ sym (row_at (outer_of p.0) n l)
          ∙ ap (λ (x : List ℕ × List ℕ). value x.0 n) e
          ∙ row_at (outer_of q.0) n l
          ∙ cond-true (is_outer m.outline n) (value q.0 n) 0 o

  top : ℕ → ℕ
  top n = cond (is_outer m.outline n) (m.outline.top n) 0

  keys_listed : Included (map key (visits m before order)) (pairs (values_at m.outline (is_outer m.outline)) (choice_rows m kind))
  unfolding key outer_of top
  keys_listed z h =
      let (p, member, e) = map_from key (visits m before order) z h in
      let y = sound m keeps before in-old order ordered p member in
      let within = (state_parts m.outline p.0 y.state).within in
      subst (λ w. Member w (pairs (values_at m.outline (is_outer m.outline)) (choice_rows m kind))) e
      ((pairs_exact (values_at m.outline (is_outer m.outline)) (choice_rows m kind)).complete (key p) (
        (ranges_exact (map top (below 32))).complete (map (outer_of p.0) (below 32)) (record {
          long = length_row (outer_of p.0) ∙ sym (length_row top);
          under = λ n l. let low : n < 32 = subst (λ k. n < k) (length_row top) l in omega (arith, row_at (outer_of p.0) n low, row_at top n low, less p.0 within n);
        }),
        y.row,
      ))
    where
      less : (s : List ℕ) → ((n : ℕ) → value s n ≤ m.outline.top n) → (n : ℕ) → cond (is_outer m.outline n) (value s n) 0 ≤ cond (is_outer m.outline n) (m.outline.top n) 0
      less s within n = go (is_outer m.outline n)
        where
          go : (b : Bool) → cond b (value s n) 0 ≤ cond b (m.outline.top n) 0
          go true = within n
          go false = le_refl 0

  pub few_visits : length (visits m before order) ≤ width m
  few_visits =
      let most = pigeonhole (map key (visits m before order)) (pairs (values_at m.outline (is_outer m.outline)) (choice_rows m kind)) (distinct_map key (visits m before order) apart (visited_once m before order ordered)) keys_listed in
      let many = length_pairs (values_at m.outline (is_outer m.outline)) (choice_rows m kind) ∙ ap₂ ◌*◌ (length_ranges _) (length_ranges _) in
      let wide = mul-le-mul (outer_room m kind) (choice_room m kind) in
      let same = length-map (visits m before order) key in
      le_trans (subst (λ n. n ≤ length (pairs (values_at m.outline (is_outer m.outline)) (choice_rows m kind))) same most) (subst (λ n. n ≤ width m) (sym many) wide)
