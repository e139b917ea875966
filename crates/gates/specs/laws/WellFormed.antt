-- What any bytes say as a gate list is well formed.
use Rattle.std.specs.Prelude.{◌≡◌, ℕ, zero, suc, ◌+◌, ◌*◌, ◌/◌, ◌%◌, ◌≤◌, Bool, true, false, cond, not, ◌&&◌, List, [], ◌++◌, length, is_some, Some, None, Option, ◌==◌, nat_lt, refl}
use Rattle.std.proofs.Common.{sym, ap, subst, ◌∙◌, arith}
use Rattle.std.proofs.lemmas.Grind.{flat_map-append}
use Rattle.std.proofs.lemmas.List.{append-nil}
use Rattle.std.proofs.lemmas.List.Folds.{list_all-append}
use Rattle.std.proofs.lemmas.Bool.Decides.{nat_tests}
use Rattle.std.proofs.lemmas.Bool.{and_from, or_parts, ltb-false, both_ways}
use Rattle.std.specs.Option.{option_to_list}
use Rattle.std.specs.List.{flat_map}
use Rattle.model.specs.Tests.{lowest}
use Rattle.model.proofs.Lowest.{Clear, lowest_clear}
use Rattle.gates.specs.Netlists.{byte, gate_at, gates_upto, parts_upto, breaks, first_record, fault_place, netlist_from, netlist_at}
use Rattle.gates.specs.Gates.{gate_of, parts_of, small, all_small}
use Rattle.gates.specs.WellFormed.{WellFormed}
use Rattle.gates.specs.declared.gate.Gate.{Gate}
use Rattle.gates.specs.declared.gate.Gate.TheVariants.{Not, And, Latch}

pub parts_none : (bs : List ℕ) → parts_upto bs 0 ≡ []
unfolding gates_upto
parts_none bs = refl

pub parts_more : (bs : List ℕ) (i : ℕ) (g : Gate) → gate_at bs i ≡ Some g → parts_upto bs (suc i) ≡ parts_upto bs i ++ parts_of g
unfolding gates_upto
parts_more bs i g e =
    flat_map-append parts_of (gates_upto bs i) (option_to_list (gate_at bs i)) ∙ ap (λ o. parts_upto bs i ++ flat_map parts_of (option_to_list o)) e ∙ ap (λ l. parts_upto bs i ++ l) (append-nil (parts_of g))

-- a gate that was read has only names
pub gate_small : (kind a b out own : ℕ) (g : Gate) → gate_of kind a b out own ≡ Some g → all_small (parts_of g) ≡ true
gate_small kind a b out own g e =
    go (kind == 0 && nat_lt a 32 && b == 255 && nat_lt out 32 && own == 255) (kind == 1 && nat_lt a 32 && nat_lt b 32 && nat_lt out 32 && own == 255) (kind == 2 && nat_lt a 32 && nat_lt b 32 && nat_lt out 32 && nat_lt own 32) refl refl refl e
  where
    go : (s t u : Bool) → (kind == 0 && nat_lt a 32 && b == 255 && nat_lt out 32 && own == 255) ≡ s → (kind == 1 && nat_lt a 32 && nat_lt b 32 && nat_lt out 32 && own == 255) ≡ t → (kind == 2 && nat_lt a 32 && nat_lt b 32 && nat_lt out 32 && nat_lt own 32) ≡ u → cond s (Some (Not a out)) (cond t (Some (And a b out)) (cond u (Some (Latch a b out own)) None)) ≡ Some g → all_small (parts_of g) ≡ true
    go true t u p q r is =
        let same : Not a out ≡ g = cc in
        subst (λ h. all_small (parts_of h) ≡ true) same (grind (arith, nat_tests, p))
    go false true u p q r is =
        let same : And a b out ≡ g = cc in
        subst (λ h. all_small (parts_of h) ≡ true) same (grind (arith, nat_tests, q))
    go false false true p q r is =
        let same : Latch a b out own ≡ g = cc in
        subst (λ h. all_small (parts_of h) ≡ true) same (grind (arith, nat_tests, r))
    go false false false p q r is = let z : ◌≡◌ {A = ℕ} 0 1 = cc in absurd (omega arith)

pub gate_small_at : (bs : List ℕ) (i : ℕ) (g : Gate) → gate_at bs i ≡ Some g → all_small (parts_of g) ≡ true
gate_small_at bs i g e = gate_small (byte bs (5 * i)) (byte bs (5 * i + 1)) (byte bs (5 * i + 2)) (byte bs (5 * i + 3)) (byte bs (5 * i + 4)) g e

-- a record that breaks no rule is well formed, and leaves at most 16 atoms
pub record KeepsRules (bs : List ℕ) (i : ℕ) : Type 0 where
  pub gate : Gate
  pub described : gate_at bs i ≡ Some gate
  pub room : length (parts_upto bs (suc i)) ≤ 16

pub keeps_rules : (bs : List ℕ) (i : ℕ) → breaks bs i ≡ false → KeepsRules bs i
keeps_rules bs i fine = go (gate_at bs i) refl
  where
    go : (o : Option Gate) → gate_at bs i ≡ o → KeepsRules bs i
    go None e = absurd (both_ways (not (is_some (gate_at bs i))) (or_parts _ _ (or_parts _ _ (or_parts _ _ fine).0).0).0 (ap (λ o. not (is_some o)) e))
    go (Some g) e = record { gate = g; described = e; room = ltb-false 16 (length (parts_upto bs (suc i))) (or_parts _ _ fine).1 }

pub few_upto : (bs : List ℕ) (n : ℕ) → Clear (breaks bs) n → length (parts_upto bs n) ≤ 16
few_upto bs zero c = subst (λ ps. length ps ≤ 16) (sym (parts_none bs)) (omega arith)
few_upto bs (suc n) c = (keeps_rules bs n (c n (omega arith))).room

pub small_upto : (bs : List ℕ) (n : ℕ) → Clear (breaks bs) n → all_small (parts_upto bs n) ≡ true
small_upto bs zero c = ap all_small (parts_none bs)
small_upto bs (suc n) c =
    let k = keeps_rules bs n (c n (omega arith)) in
    ap all_small (parts_more bs n k.gate k.described) ∙ list_all-append small (parts_upto bs n) (parts_of k.gate) ∙ and_from _ _ (small_upto bs n (λ i l. c i (omega arith))) (gate_small_at bs n k.gate k.described)

no_break : (bs : List ℕ) → fault_place bs ≡ None → Clear (breaks bs) (length bs / 5)
no_break bs e = go (length bs % 5 == 0) e
  where
    from : (o : Option ℕ) → first_record o ≡ None → o ≡ None
    from None h = refl
    from (Some i) h = let z : ◌≡◌ {A = ℕ} 0 1 = cc in absurd (omega arith)

    go : (b : Bool) → cond b (first_record (lowest (breaks bs) (length bs / 5))) (Some 0) ≡ None → Clear (breaks bs) (length bs / 5)
    go true h = lowest_clear (breaks bs) (length bs / 5) (from _ h)
    go false h = let z : ◌≡◌ {A = ℕ} 0 1 = cc in absurd (omega arith)

pub well_formed : (bs : List ℕ) → WellFormed (netlist_from bs)
well_formed bs = go (fault_place bs) refl
  where
    go : (o : Option ℕ) → fault_place bs ≡ o → WellFormed (netlist_at o bs)
    go None e = record {
      few = few_upto bs (length bs / 5) (no_break bs e);
      named = small_upto bs (length bs / 5) (no_break bs e);
      empty_if_faulty = λ h. absurd (both_ways false refl h);
    }
    go (Some place) e = record { few = omega arith; named = refl; empty_if_faulty = λ h. refl }
