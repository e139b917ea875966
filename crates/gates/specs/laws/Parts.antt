-- Lemmas on the atoms of a list, and on finding one among them.
use Rattle.std.specs.Prelude.{◌≡◌, ℕ, zero, suc, ◌<◌, Bool, true, false, ◌&&◌, ◌||◌, ◌⊎◌, List, [], ◌∷◌, length, Some, None, Option, ◌==◌, nat_lt, refl}
use Rattle.std.proofs.Common.{inl, inr, ⊎_elim, sym, subst, le_of_suc-le-suc, not-suc-le-zero, arith}
use Rattle.std.proofs.lemmas.Bool.Decides.{nat_tests}
use Rattle.std.proofs.lemmas.Bool.{and_from, and_parts, or_left, or_right, or_cases, eq-eqb, both_ways}
use Rattle.std.specs.List.{list_all, slice_get}
use Rattle.model.specs.Sets.{is_name}
use Rattle.gates.specs.Facts.{of_part}
use Rattle.gates.specs.Gates.{small, all_small, uses, used, target, controls_of, reads_of, awaits_of}
use Rattle.gates.specs.declared.gate.Field.{Field}
use Rattle.gates.specs.declared.gate.Field.TheVariants.{Input, Out, Own}
use Rattle.gates.specs.declared.gate.Part.{Part}
use Rattle.gates.specs.declared.gate.Part.TheVariants.{Inverter, Conjunction, LatchOutput, LatchStore}

-- names

pub is_same : (k : ℕ) → nat_lt k 32 ≡ true → is_name k k ≡ true
is_same k s = and_from (k == k) (nat_lt k 32) (eq-eqb k k refl) s

same : (k n : ℕ) → is_name k n ≡ true → (n == k) ≡ true
same k n h = (and_parts (n == k) (nat_lt k 32) h).0

same_either : (j k n : ℕ) → (is_name j n || is_name k n) ≡ true → (n == j || n == k) ≡ true
same_either j k n h =
    ⊎_elim (λ e. or_left (n == j) (n == k) (same j n e)) (λ e. or_right (n == j) (n == k) (same k n e)) (or_cases (is_name j n) (is_name k n) h)

-- what is used in a part

uses_small : (f : Field) (p : Part) (n : ℕ) → small p ≡ true → uses f p n ≡ true → n < 32
uses_small Input (Inverter a out) n s u = grind (arith, nat_tests)
uses_small Input (Conjunction a b out) n s u = grind (arith, nat_tests)
uses_small Input (LatchOutput out own) n s u = grind (arith, nat_tests)
uses_small Input (LatchStore set reset own) n s u = grind (arith, nat_tests)
uses_small Out (Inverter a out) n s u = grind (arith, nat_tests)
uses_small Out (Conjunction a b out) n s u = grind (arith, nat_tests)
uses_small Out (LatchOutput out own) n s u = grind (arith, nat_tests)
uses_small Out (LatchStore set reset own) n s u = grind (arith, nat_tests)
uses_small Own (Inverter a out) n s u = grind (arith, nat_tests)
uses_small Own (Conjunction a b out) n s u = grind (arith, nat_tests)
uses_small Own (LatchOutput out own) n s u = grind (arith, nat_tests)
uses_small Own (LatchStore set reset own) n s u = grind (arith, nat_tests)

-- what a part controls it uses as its out or its own
abbrev pub Owned : Part → ℕ → Type 0
Owned p n = (uses Out p n ≡ true) ⊎ (uses Own p n ≡ true)

pub controls_owned : (p : Part) (n : ℕ) → controls_of p n ≡ true → Owned p n
controls_owned (Inverter a out) n h = inl (same out n h)
controls_owned (Conjunction a b out) n h = inl (same out n h)
controls_owned (LatchOutput out own) n h = inl (same out n h)
controls_owned (LatchStore set reset own) n h = inr (same own n h)

pub reads_uses : (p : Part) (n : ℕ) → reads_of p n ≡ true → uses Own p n ≡ true
reads_uses (Inverter a out) n h = h
reads_uses (Conjunction a b out) n h = h
reads_uses (LatchOutput out own) n h = same own n h
reads_uses (LatchStore set reset own) n h = same own n h

pub awaits_uses : (p : Part) (n : ℕ) → awaits_of p n ≡ true → uses Input p n ≡ true
awaits_uses (Inverter a out) n h = same a n h
awaits_uses (Conjunction a b out) n h = same_either a b n h
awaits_uses (LatchOutput out own) n h = h
awaits_uses (LatchStore set reset own) n h = same_either set reset n h

pub controls_target : (p : Part) → small p ≡ true → controls_of p (target p) ≡ true
controls_target (Inverter a out) s = is_same out (and_parts (nat_lt a 32) (nat_lt out 32) s).1
controls_target (Conjunction a b out) s = is_same out (and_parts (nat_lt a 32 && nat_lt b 32) (nat_lt out 32) s).1
controls_target (LatchOutput out own) s = is_same out (and_parts (nat_lt out 32) (nat_lt own 32) s).0
controls_target (LatchStore set reset own) s = is_same own (and_parts (nat_lt set 32 && nat_lt reset 32) (nat_lt own 32) s).1

pub target_small : (p : Part) → small p ≡ true → target p < 32
target_small (Inverter a out) s = grind (arith, nat_tests)
target_small (Conjunction a b out) s = grind (arith, nat_tests)
target_small (LatchOutput out own) s = grind (arith, nat_tests)
target_small (LatchStore set reset own) s = grind (arith, nat_tests)

-- what is used in a list

pub used_small : (f : Field) (ps : List Part) (n : ℕ) → all_small ps ≡ true → used f ps n ≡ true → n < 32
used_small f [] n s u = absurd (both_ways false refl u)
used_small f (p ∷ ps) n s u =
    let both = and_parts (small p) (all_small ps) s in
    let rest : used f ps n ≡ true → n < 32 = used_small f ps n both.1 in
    ⊎_elim (uses_small f p n both.0) rest (or_cases (uses f p n) (used f ps n) u)

-- the part that a set was asked of
pub record Asked (ps : List Part) (a : ℕ) (Q : Part → Bool) : Type 0 where
  pub part : Part
  pub there : slice_get ps a ≡ Some part
  pub inside : a < length ps
  pub holds : Q part ≡ true

pub asked : (ps : List Part) (a : ℕ) (Q : Part → Bool) → of_part Q false (slice_get ps a) ≡ true → Asked ps a Q
asked [] a Q h = absurd (both_ways false refl h)
asked (p ∷ ps) zero Q h = record { part = p; there = refl; inside = omega arith; holds = h }
asked (p ∷ ps) (suc a) Q h =
    let k = asked ps a Q h in
    record { part = k.part; there = k.there; inside = omega (arith, k.inside); holds = k.holds }

pub used_nth : (f : Field) (ps : List Part) (a n : ℕ) (p : Part) → slice_get ps a ≡ Some p → uses f p n ≡ true → used f ps n ≡ true
used_nth f [] a n p e u = let z : ◌≡◌ {A = ℕ} 0 1 = cc in absurd (omega arith)
used_nth f (q ∷ ps) zero n p e u = let is : q ≡ p = cc in or_left (uses f q n) (used f ps n) (subst (λ o. uses f o n ≡ true) (sym is) u)
used_nth f (q ∷ ps) (suc a) n p e u = or_right (uses f q n) (used f ps n) (used_nth f ps a n p e u)

-- what passes for all items passes for the one found
pub all_nth : {A : Type 0} (q : A → Bool) (xs : List A) (k : ℕ) (x : A) → list_all q xs ≡ true → slice_get xs k ≡ Some x → q x ≡ true
all_nth q [] k x h e = let z : ◌≡◌ {A = ℕ} 0 1 = cc in absurd (omega arith)
all_nth q (y ∷ ys) zero x h e = let is : y ≡ x = cc in subst (λ o. q o ≡ true) is (and_parts (q y) (list_all q ys) h).0
all_nth q (y ∷ ys) (suc k) x h e = all_nth q ys k x (and_parts (q y) (list_all q ys) h).1 e

pub small_nth : (ps : List Part) (a : ℕ) (p : Part) → all_small ps ≡ true → slice_get ps a ≡ Some p → small p ≡ true
small_nth ps a p h e = all_nth small ps a p h e

pub nth_some : (ps : List Part) (a : ℕ) → a < length ps → (p : Part) × (slice_get ps a ≡ Some p)
nth_some [] a h = absurd (not-suc-le-zero h)
nth_some (p ∷ ps) zero h = (p, refl)
nth_some (p ∷ ps) (suc a) h = nth_some ps a (le_of_suc-le-suc h)

-- a fact about each part that is there, and about none
pub by_part : (ps : List Part) (a : ℕ) (Q : Option Part → Type 0) → Q None → ((p : Part) → slice_get ps a ≡ Some p → Q (Some p)) → Q (slice_get ps a)
by_part ps a Q none some = go (slice_get ps a) refl
  where
    go : (o : Option Part) → slice_get ps a ≡ o → Q o
    go None e = none
    go (Some p) e = some p e
