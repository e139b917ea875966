-- A gate list's initial states and successors are those in which its gates have worked.
use Rattle.std.proofs.Common.{◌≡◌, ℕ, zero, suc, ◌/◌, ◌<◌, ◌≤◌, true, false, cond, eqb, ltb, ◌↔◌, List, [], ◌∷◌, length, pos, is_some, Some, None, Option, sym, refl, ap, ◌∙◌, subst, arith}
use Rattle.std.proofs.lemmas.Bool.{and_parts, eqb-true, cond-true}
use Rattle.std.proofs.lemmas.Option.{slice_get_within}
use Rattle.std.specs.List.{AllByRecursion as All, slice_get}
use Rattle.model.specs.Meanings.{Valuation, Meaning}
use Rattle.model.specs.States.{value, is_state, yields, nothing, InitialState, Successor}
use Rattle.model.specs.declared.Kind.{Kind}
use Rattle.model.specs.declared.Round.{Round}
use Rattle.model.specs.declared.Round.TheVariants.{Initial, Update}
use Rattle.model.proofs.Meanings.{meanings_equal}
use Rattle.model.proofs.States.{state_parts, Taken, takes_parts, takes_from, yields_parts, yields_from}
use Rattle.gates.specs.Behaviour.{Works, GatesWork, gates_of}
use Rattle.gates.specs.Choices.{choice_count, opens_of, gives_of}
use Rattle.gates.specs.Netlists.{Netlist, netlist_from, netlist_at, fault_place, parts_upto}
use Rattle.gates.specs.Gates.{all_small, target, controls_of}
use Rattle.gates.specs.laws.Parts.{small_nth, nth_some, controls_target, target_small}
use Rattle.gates.specs.Facts.{kind_in, list_outline, list_choices, of_part, given_to}
use Rattle.gates.specs.Meanings.{list_meaning}
use Rattle.gates.specs.WellFormed.{WellFormed}
use Rattle.gates.specs.laws.WellFormed.{well_formed}
use Rattle.gates.specs.declared.gate.Part.{Part}
use Rattle.gates.proofs.Behaviour.{Chosen, Bits, all_work, all_worked}

all_nth : (P : Part → Type 0) (ps : List Part) → ((a : ℕ) (p : Part) → slice_get ps a ≡ Some p → P p) → All P ps
all_nth P [] f = tt
all_nth P (p ∷ ps) f = (f 0 p refl, all_nth P ps (λ a q e. f (suc a) q e))

nth_all : (P : Part → Type 0) (ps : List Part) (a : ℕ) (p : Part) → All P ps → slice_get ps a ≡ Some p → P p
nth_all P [] a p h e = let z : ◌≡◌ {A = ℕ} 0 1 = cc in absurd (omega arith)
nth_all P (q ∷ ps) zero p h e = let is : q ≡ p = cc in subst P is h.0
nth_all P (q ∷ ps) (suc a) p h e = nth_all P ps a p h.1 e

at_most_one : (o : Option Kind) → cond (is_some o) 1 0 ≤ 1
at_most_one None = omega arith
at_most_one (Some k) = omega arith

controlled_is : (p : Part) (n : ℕ) → controls_of p n ≡ true → n ≡ target p
controlled_is p n h = eqb-true n (target p) (and_parts (eqb n (target p)) (ltb (target p) 32) h).0

module _ (l : Netlist) (w : WellFormed l) where
  abbrev m : Meaning
  m = list_meaning l w

  bits : (t : List ℕ) → is_state (list_outline l) t ≡ true → Bits (value t)
  bits t h n = omega (arith, (state_parts (list_outline l) t h).within n, at_most_one (kind_in l.parts n))

  module _ (r : Round) (old new : Valuation) (a : ℕ) (p : Part) (there : slice_get l.parts a ≡ Some p) where
    to_chosen : (k : ℕ) → k < of_part (choice_count r) 0 (slice_get l.parts a) → Taken m r a k old new → Chosen r old new p
    to_chosen k inside taken =
        let s = small_nth l.parts a p w.named there in
        let controls : of_part (λ q. controls_of q (target p)) false (slice_get l.parts a) ≡ true = ap (of_part (λ q. controls_of q (target p)) false) there ∙ controls_target p s in
        let gave : given_to r k (target p) old p ≡ pos (new (target p)) = subst (λ o. of_part (given_to r k (target p) old) (pos 0) o ≡ pos (new (target p))) there (taken.given (target p) (target_small p s) controls) in
        let whole : cond (controls_of p (target p)) (gives_of r p k old) 0 ≡ new (target p) = cc in
        record {
          choice = k;
          there = subst (λ o. k < of_part (choice_count r) 0 o) there inside;
          opens = subst (λ o. of_part (λ q. opens_of r q k new) false o ≡ true) there taken.opened;
          gives = sym (cond-true (controls_of p (target p)) (gives_of r p k old) 0 (controls_target p s)) ∙ whole;
        }

    from_chosen : (c : Chosen r old new p) → Taken m r a c.choice old new
    from_chosen c = record {
      opened = subst (λ o. of_part (λ q. opens_of r q c.choice new) false o ≡ true) (sym there) c.opens;
      given = λ n b h.
          let here = subst (λ o. of_part (λ q. controls_of q n) false o ≡ true) there h in
          ap (of_part (given_to r c.choice n old) (pos 0)) there ∙ ap pos (cond-true (controls_of p n) (gives_of r p c.choice old) 0 here ∙ c.gives ∙ ap new (sym (controlled_is p n here)));
    }

  to_parts : (r : Round) (s t : List ℕ) → yields m r s t ≡ true → All (Chosen r (value s) (value t)) l.parts
  to_parts r s t h =
      all_nth (Chosen r (value s) (value t)) l.parts
      (λ a p e. let k = (yields_parts m r s t h).1 a (slice_get_within l.parts a p e) in to_chosen r (value s) (value t) a p e k.0 k.1 (takes_parts m r a k.0 (value s) (value t) k.2))

  from_parts : (r : Round) (s t : List ℕ) → is_state (list_outline l) t ≡ true → All (Chosen r (value s) (value t)) l.parts → yields m r s t ≡ true
  from_parts r s t h all =
      yields_from m r s t h
      (λ a b.
      let found = nth_some l.parts a b in
      let c = nth_all (Chosen r (value s) (value t)) l.parts a found.0 all found.1 in
      (c.choice, subst (λ o. c.choice < of_part (choice_count r) 0 o) (sym found.1) c.there, takes_from m r a c.choice (value s) (value t) (from_chosen r (value s) (value t) a found.0 found.1 c)))

  -- beside no fault, both kinds of round lead where the gates have worked
  yields_works : (bs : List ℕ) → l ≡ netlist_from bs → fault_place bs ≡ None → (r : Round) (s t : List ℕ) → (yields m r s t ≡ true) ↔ ((is_state (list_outline l) t ≡ true) × All (Works r (value s) (value t)) (gates_of bs))
  yields_works bs e fine r s t =
      let same : l.parts ≡ parts_upto bs (length bs / 5) = ap (λ (o : Netlist). o.parts) (e ∙ ap (λ o. netlist_at o bs) fine) in (
        λ h.
            let state = (yields_parts m r s t h).0 in
            (state, all_work (value s) (value t) (bits t state) r (gates_of bs) (subst (All (Chosen r (value s) (value t))) same (to_parts r s t h))),
        λ h. from_parts r s t h.0 (subst (All (Chosen r (value s) (value t))) (sym same) (all_worked (value s) (value t) (bits t h.0) r (gates_of bs) h.1)),
      )

-- gates work in any list that says what the bytes do
pub gates_work : (bs : List ℕ) (l : Netlist) (w : WellFormed l) → l ≡ netlist_from bs → GatesWork bs (list_meaning l w)
gates_work bs l w e = record {
  initially = λ fine t.
      let both = yields_works l w bs e fine Initial nothing t in
      (λ (h : InitialState (list_meaning l w) t). both.0 h.yielded, λ h. record { yielded = both.1 h });
  later = λ fine s t.
      let both = yields_works l w bs e fine Update s t in
      (λ (h : Successor (list_meaning l w) s t). both.0 h.yielded, λ h. record { yielded = both.1 h });
}

-- what is said alone makes the meaning
pub same_meaning : (l m : Netlist) (v : WellFormed l) (w : WellFormed m) → l ≡ m → list_meaning l v ≡ list_meaning m w
same_meaning l m v w e = meanings_equal (list_meaning l v) (list_meaning m w) (ap list_outline e) (ap list_choices e)

pub named_from : (l : Netlist) (bs : List ℕ) → l ≡ netlist_from bs → all_small l.parts ≡ true
named_from l bs e = ap (λ (m : Netlist). all_small m.parts) e ∙ (well_formed bs).named
