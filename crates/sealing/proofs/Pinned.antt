-- The order of atoms, place by place.
use Rattle.std.proofs.Common.{◌≡◌, ℕ, zero, suc, ◌+◌, ◌-◌, ◌<◌, ◌≤◌, min, Bool, cond, false, not, ◌&&◌, ◌||◌, eqb, List, [], ◌∷◌, ◌++◌, length, set, replicate, None, Some, sym, refl, ap, ◌∙◌, ap₂, add-one, arith, append_assoc, length-append}
use Rattle.std.proofs.Math.Seq.{set-append_seam}
use Rattle.std.proofs.Math.Bool.{or-false, or_assoc, and-true}
use Rattle.std.proofs.lemmas.Bool.{lt-ltb}
use Rattle.std.specs.Option.{option_or}
use Rattle.model.specs.Meanings.{OutlineFacts}
use Rattle.model.specs.Sets.{is_number}
use Rattle.model.specs.Tests.{lowest}
use Rattle.composition.proofs.Tests.{some_same}
use Rattle.units.specs.Sealing.{awaits_atom}
use Rattle.sealing.specs.Orders.{waits_for, ready, stands_in, next_atom, with_next, first_atoms, in_sixteen, atom_order}

-- tests that agree below the bound pass at the same lowest number
lowest_same : (p q : ℕ → Bool) (n : ℕ) → ((k : ℕ) → k < n → p k ≡ q k) → lowest p n ≡ lowest q n
unfolding lowest
lowest_same p q zero h = refl
lowest_same p q (suc n) h = ap₂ (λ o b. option_or o (cond b (Some n) None)) (lowest_same p q n (λ k l. h k (omega arith))) (h n (omega arith))

-- which atom is ready depends on what the atoms await and on which of them are placed
ready_same : (awaits awaits' : ℕ → ℕ → Bool) (atoms : ℕ) (placed placed' : ℕ → Bool) → ((a b : ℕ) → a < atoms → b < atoms → awaits a b ≡ awaits' a b) → ((a : ℕ) → a < atoms → placed a ≡ placed' a) →
    (a : ℕ) → a < atoms → ready awaits atoms placed a ≡ ready awaits' atoms placed' a
ready_same awaits awaits' atoms placed placed' h k a l =
    ap₂ (λ x y. not x && not y) (k a l) (some_same (waits_for awaits placed a) (waits_for awaits' placed' a) atoms (λ b m. ap₂ (λ x y. x && not y) (h a b l m) (k b m)))

pub next_same : (awaits awaits' : ℕ → ℕ → Bool) (atoms : ℕ) (placed placed' : ℕ → Bool) → ((a b : ℕ) → a < atoms → b < atoms → awaits a b ≡ awaits' a b) → ((a : ℕ) → a < atoms → placed a ≡ placed' a) →
    lowest (ready awaits atoms placed) atoms ≡ lowest (ready awaits' atoms placed') atoms
next_same awaits awaits' atoms placed placed' h k = lowest_same _ _ atoms (ready_same awaits awaits' atoms placed placed' h k)

-- so the order depends only on what the atoms await
pub first_atoms_same : (awaits awaits' : ℕ → ℕ → Bool) (atoms : ℕ) → ((a b : ℕ) → a < atoms → b < atoms → awaits a b ≡ awaits' a b) → (places : ℕ) → first_atoms awaits atoms places ≡ first_atoms awaits' atoms places
unfolding first_atoms
first_atoms_same awaits awaits' atoms h zero = refl
first_atoms_same awaits awaits' atoms h (suc places) =
    let before = first_atoms_same awaits awaits' atoms h places in
    ap₂ with_next before (next_same awaits awaits' atoms (stands_in (first_atoms awaits atoms places)) (stands_in (first_atoms awaits' atoms places)) h (λ a _. ap (λ xs. stands_in xs a) before))

stands_more : (xs : List ℕ) (a b : ℕ) → stands_in (xs ++ a ∷ []) b ≡ (stands_in xs b || eqb b a)
stands_more [] a b = or-false (eqb b a)
stands_more (x ∷ xs) a b = ap (λ v. eqb b x || v) (stands_more xs a b) ∙ sym (or_assoc (eqb b x) (stands_in xs b) (eqb b a))

module _ (awaits : ℕ → ℕ → Bool) (atoms : ℕ) where
  -- what stands after some places are filled, if none was left empty
  pub record Pinned (order : List ℕ) (placed : ℕ → Bool) (place : ℕ) : Type 0 where
    pub count : length (first_atoms awaits atoms place) ≡ place
    pub row : order ≡ first_atoms awaits atoms place ++ replicate (16 - place) 0
    pub marks : (a : ℕ) → placed a ≡ stands_in (first_atoms awaits atoms place) a

  pub pinned_none : (placed : ℕ → Bool) → ((a : ℕ) → placed a ≡ false) → Pinned (replicate 16 0) placed 0
  unfolding first_atoms
  pinned_none placed h = record { count = refl; row = refl; marks = h }

  -- the next atom by the marks is that of the definition
  pinned_next : (order : List ℕ) (placed : ℕ → Bool) (place : ℕ) → Pinned order placed place → lowest (ready awaits atoms placed) atoms ≡ next_atom awaits atoms (first_atoms awaits atoms place)
  pinned_next order placed place p = next_same awaits awaits atoms placed (stands_in (first_atoms awaits atoms place)) (λ a b _ _. refl) (λ a _. p.marks a)

  first_more : (place : ℕ) → first_atoms awaits atoms (place + 1) ≡ with_next (first_atoms awaits atoms place) (next_atom awaits atoms (first_atoms awaits atoms place))
  unfolding first_atoms
  first_more place = ap (first_atoms awaits atoms) (add-one place)

  pub pinned_more : (order : List ℕ) (placed placed' : ℕ → Bool) (place a : ℕ) → place < 16 → a < 16 → Pinned order placed place → lowest (ready awaits atoms placed) atoms ≡ Some a →
      ((n : ℕ) → placed' n ≡ (placed n || is_number 16 a n)) → Pinned (set order place a) placed' (place + 1)
  pinned_more order placed placed' place a few low p next more = record {
    count = ap length more_atoms ∙ length-append xs (a ∷ []) ∙ ap (λ n. n + 1) p.count;
    row =
        ap (λ r. set r place a) p.row
        ∙ ap₂ (λ n r. set (xs ++ r) n a) (sym p.count) room
        ∙ set-append_seam xs 0 (replicate (16 - (place + 1)) 0) a
        ∙ sym (ap (λ r. r ++ replicate (16 - (place + 1)) 0) more_atoms ∙ append_assoc xs (a ∷ []) (replicate (16 - (place + 1)) 0));
    marks = λ n. more n ∙ ap₂ ◌||◌ (p.marks n) (ap (λ b. eqb n a && b) (lt-ltb a 16 low) ∙ and-true (eqb n a)) ∙ sym (ap (λ ys. stands_in ys n) more_atoms ∙ stands_more xs a n);
  }
    where
      xs : List ℕ
      xs = first_atoms awaits atoms place

      more_atoms : first_atoms awaits atoms (place + 1) ≡ xs ++ a ∷ []
      more_atoms = first_more place ∙ ap (with_next xs) (sym (pinned_next order placed place p) ∙ next)

      room : replicate {A = ℕ} (16 - place) 0 ≡ 0 ∷ replicate {A = ℕ} (16 - (place + 1)) 0
      room = let e : 16 - place ≡ suc (16 - (place + 1)) = omega arith in ap (λ n. replicate {A = ℕ} n 0) e

  -- where none is ready any more, no place more is filled
  stays : (place : ℕ) → next_atom awaits atoms (first_atoms awaits atoms place) ≡ None → (more : ℕ) → first_atoms awaits atoms (more + place) ≡ first_atoms awaits atoms place
  stays place none zero = let e : 0 + place ≡ place = omega arith in ap (first_atoms awaits atoms) e
  stays place none (suc more) =
      let e : suc more + place ≡ more + place + 1 = omega arith in
      let before = stays place none more in
      ap (first_atoms awaits atoms) e ∙ first_more (more + place) ∙ ap (λ xs. with_next xs (next_atom awaits atoms xs)) before ∙ ap (with_next (first_atoms awaits atoms place)) none

  -- the whole order
  pub pinned_all : (order : List ℕ) (placed : ℕ → Bool) (place : ℕ) → place ≡ atoms → Pinned order placed place → order ≡ in_sixteen (first_atoms awaits atoms atoms)
  pinned_all order placed place e p =
      p.row ∙ ap₂ (λ xs n. xs ++ replicate (16 - n) 0) (ap (first_atoms awaits atoms) e) (sym p.count ∙ ap (λ n. length (first_atoms awaits atoms n)) e)

  pub pinned_stuck : (order : List ℕ) (placed : ℕ → Bool) (place : ℕ) → place ≤ atoms → Pinned order placed place → lowest (ready awaits atoms placed) atoms ≡ None → order ≡ in_sixteen (first_atoms awaits atoms atoms)
  pinned_stuck order placed place l p none =
      let e : atoms - place + place ≡ atoms = omega arith in
      let same : first_atoms awaits atoms place ≡ first_atoms awaits atoms atoms = sym (stays place (sym (pinned_next order placed place p) ∙ none) (atoms - place)) ∙ ap (first_atoms awaits atoms) e in
      p.row ∙ ap₂ (λ xs n. xs ++ replicate (16 - n) 0) same (sym p.count ∙ ap length same)

-- a table that is right on the atoms
pub pinned_by : (o : OutlineFacts) → o.atoms ≤ 16 → (awaits : ℕ → ℕ → Bool) → ((a b : ℕ) → a < 16 → b < 16 → awaits a b ≡ awaits_atom o a b) → (n : ℕ) → n ≡ min o.atoms 16 → (order : List ℕ) → order ≡ in_sixteen (first_atoms awaits n n) → order ≡ atom_order o
pinned_by o few awaits right n count order e =
    let all : n ≡ o.atoms = omega arith in
    e ∙ ap (λ k. in_sixteen (first_atoms awaits k k)) all ∙ ap in_sixteen (first_atoms_same awaits (awaits_atom o) o.atoms (λ a b l m. right a b (omega arith) (omega arith)) o.atoms)
