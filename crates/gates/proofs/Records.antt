-- A gate list is read record by record.
use Rattle.std.proofs.Common.{◌≡◌, ℕ, suc, ◌+◌, ◌*◌, ◌/◌, ◌%◌, ◌<◌, ◌≤◌, Bool, true, false, not, ◌&&◌, ◌||◌, ◌⊎◌, inl, inr, ⊎_elim, ltb, List, ◌++◌, length, get_or, drop, is_some, Some, None, Result, Ok, Err, Decides, sym, refl, ap, ◌∙◌, subst, add-zero, add-one, arith}
use Rattle.std.proofs.lemmas.List.{length-append, get_or-drop}
use Rattle.std.proofs.lemmas.Bool.{cond-true, eq-eqb, both_ways}
use Rattle.std.proofs.lemmas.Bool.Decides.{Decides-at, Decides-or, Decides-and, Decides-ltb}
use Rattle.std.specs.Result.{is_err}
use Rattle.model.specs.Rows.{row_items}
use Rattle.model.specs.Tests.{some, lowest}
use Rattle.model.specs.declared.row.Full.{Full}
use Rattle.model.specs.declared.row.Row.{Row}
use Rattle.model.proofs.Bounded.{lowest_at, lowest_more, some_decides}
use Rattle.gates.specs.Gates.{gate_of, parts_of}
use Rattle.gates.specs.Netlists.{gate_at, parts_upto, breaks, same_out, same_own, is_latch, fault_place, first_record, faulty, netlist_from, netlist_at}
use Rattle.gates.specs.Rows.{Grown, Clashes}
use Rattle.gates.specs.declared.gate.Part.{Part}
use Rattle.gates.specs.declared.gate.Gate.{Gate}
use Rattle.gates.specs.declared.gate.Gate.TheVariants.{Not, And, Latch}
use Rattle.gates.specs.laws.Kept.{listed_few}
use Rattle.gates.specs.laws.WellFormed.{parts_more}

-- the record at the front of what is left is the next one
pub gate_dropped : (bs rest : List ℕ) (i : ℕ) → rest ≡ drop (5 * i) bs → gate_of (get_or rest 0 0) (get_or rest 1 0) (get_or rest 2 0) (get_or rest 3 0) (get_or rest 4 0) ≡ gate_at bs i
gate_dropped bs rest i e = rw (e, get_or-drop (5 * i) bs 0 0, get_or-drop (5 * i) bs 1 0, get_or-drop (5 * i) bs 2 0, get_or-drop (5 * i) bs 3 0, get_or-drop (5 * i) bs 4 0, add-zero) refl

parts_some : (g : Gate) → 1 ≤ length (parts_of g)
parts_some (Not a out) = omega arith
parts_some (And a b out) = omega arith
parts_some (Latch set reset out own) = omega arith

-- where no record breaks a rule, all atoms are there
pub no_fault : (bs : List ℕ) (i : ℕ) → length bs % 5 ≡ 0 → i ≡ length bs / 5 → lowest (breaks bs) i ≡ None → record { fault_place = None; parts = parts_upto bs i } ≡ netlist_from bs
no_fault bs i whole all before =
    let place : fault_place bs ≡ None = cond-true _ _ _ (eq-eqb _ _ whole) ∙ ap first_record (subst (λ n. lowest (breaks bs) n ≡ None) all before) in
    ap (λ n. record { fault_place = None; parts = parts_upto bs n }) all ∙ sym (ap (λ o. netlist_at o bs) place)

-- where no earlier record breaks a rule, the fault is found at this one, or this one is read too
module _ (bs : List ℕ) (i : ℕ) (whole : length bs % 5 ≡ 0) (inside : 5 * i + 5 ≤ length bs) (before : lowest (breaks bs) i ≡ None) where
  found_here : breaks bs i ≡ true → faulty (5 * i) ≡ netlist_from bs
  found_here here =
      let place : fault_place bs ≡ Some (5 * i) = cond-true _ _ _ (eq-eqb _ _ whole) ∙ ap first_record (lowest_at (breaks bs) (length bs / 5) i (omega arith) before here) in
      sym (ap (λ o. netlist_at o bs) place)

  pub found_malformed : gate_at bs i ≡ None → faulty (5 * i) ≡ netlist_from bs
  found_malformed none =
      found_here (ap (λ o. not (is_some o) || some (same_out bs i) (5 * i) || is_latch (gate_at bs i) && some (same_own bs i) (length bs) || ltb 16 (length (parts_upto bs (suc i)))) none)

  -- where a gate is read, the record breaks a rule exactly where it clashes or leaves no room
  module _ (g : Gate) (read : gate_at bs i ≡ Some g) where
    breaks_is : breaks bs i ≡ (some (same_out bs i) (5 * i) || is_latch (Some g) && some (same_own bs i) (length bs) || ltb 16 (length (parts_upto bs i ++ parts_of g)))
    breaks_is =
        ap (λ o. not (is_some o) || some (same_out bs i) (5 * i) || is_latch o && some (same_own bs i) (length bs) || ltb 16 (length (parts_upto bs (suc i)))) read
        ∙ ap (λ ps. some (same_out bs i) (5 * i) || is_latch (Some g) && some (same_own bs i) (length bs) || ltb 16 (length ps)) (parts_more bs i g read)

    breaks_decides : Decides (breaks bs i) (Clashes bs i g ⊎ (16 < length (parts_upto bs i ++ parts_of g)))
    breaks_decides =
        Decides-at _ _ breaks_is (Decides-or _ _ (Decides-or _ _ (some_decides (same_out bs i) (5 * i)) (Decides-and _ _ (λ e. e, λ e. e) (some_decides (same_own bs i) (length bs)))) (Decides-ltb 16 (length (parts_upto bs i ++ parts_of g))))

    pub found_clash : Clashes bs i g → faulty (5 * i) ≡ netlist_from bs
    found_clash c = found_here (breaks_decides.1 (inl c))

    no_break : (Clashes bs i g → ⊥) → length (parts_upto bs i ++ parts_of g) ≤ 16 → breaks bs i ≡ false
    no_break apart room = go (breaks bs i) refl
      where
        go : (b : Bool) → breaks bs i ≡ b → b ≡ false
        go false e = refl
        go true e = absurd (⊎_elim apart (λ h. omega arith) (breaks_decides.0 e))

    module _ (old new : Row Part 16) (r : Result (Unit {0}) Full) (read_before : row_items old ≡ parts_upto bs i) (added : Grown old (parts_of g) new r) where
      pub found_full : is_err r ≡ true → faulty (5 * i) ≡ netlist_from bs
      found_full e = found_here (breaks_decides.1 (inr (go r added e)))
        where
          go : (q : Result (Unit {0}) Full) → Grown old (parts_of g) new q → is_err q ≡ true → 16 < length (parts_upto bs i ++ parts_of g)
          go (Ok u) h k = absurd (both_ways false refl k)
          go (Err f) h k = subst (λ ps. 16 < length (ps ++ parts_of g)) read_before h

      pub read_more : (Clashes bs i g → ⊥) → is_err r ≡ false → i ≤ length (row_items old) → (row_items new ≡ parts_upto bs (i + 1)) × (lowest (breaks bs) (i + 1) ≡ None) × (i + 1 ≤ length (row_items new))
      read_more apart e few = (rw add-one (grown ∙ sym more), lowest_more (breaks bs) i before fine, omega (arith, ap length grown, length-append (parts_upto bs i) (parts_of g), parts_some g, ap length read_before))
        where
          go : (q : Result (Unit {0}) Full) → Grown old (parts_of g) new q → is_err q ≡ false → row_items new ≡ row_items old ++ parts_of g
          go (Ok u) h k = h
          go (Err f) h k = absurd (both_ways true k refl)

          grown : row_items new ≡ parts_upto bs i ++ parts_of g
          grown = go r added e ∙ ap (λ ps. ps ++ parts_of g) read_before

          more : parts_upto bs (suc i) ≡ parts_upto bs i ++ parts_of g
          more = parts_more bs i g read

          fine : breaks bs i ≡ false
          fine = no_break apart (omega (arith, ap length grown, listed_few new))
