-- What the count of a round says.
use Rattle.std.proofs.Common.{◌≡◌, ℕ, ◌-◌, ◌<◌, ◌≤◌, min, Bool, true, false, cond, not, ◌&&◌, ◌⊎◌, List, map, length, Some, None, Option, sym, refl, ap, ◌∙◌, subst, ap₂, inl, inr, arith}
use Rattle.std.proofs.lemmas.List.{length-map, get_or-map}
use Rattle.std.proofs.lemmas.Bool.{and_from, and_parts, both_ways, cases_Bool}
use Rattle.std.specs.Option.{unwrap_or}
use Rattle.model.specs.Meanings.{Meaning}
use Rattle.model.specs.States.{value, takes, yields}
use Rattle.model.specs.Tests.{lowest}
use Rattle.model.specs.declared.Round.{Round}
use Rattle.model.proofs.Bounded.{every_decides}
use Rattle.model.proofs.Lowest.{lowest_found, lowest_clear}
use Rattle.model.proofs.States.{takes_parts, yields_parts, yields_from}
use Rattle.sealing.specs.Orders.{AtomsInOrder}
use Rattle.theory.specs.Enumerations.{below}
use Rattle.theory.specs.Members.{Member, Exactly}
use Rattle.theory.proofs.Enumerations.{ranges_exact, length_below}
use Rattle.reactive.proofs.Fit.{passed}
use Rattle.units.specs.Counting.{any}
use Rattle.units.specs.Evidence.{all_states, outcomes}
use Rattle.units.specs.Promises.{Yielding}
use Rattle.units.specs.Sealing.{verdict}
use Rattle.units.specs.Units.{kind_of_round, old_state}
use Rattle.units.proofs.Fitness.{InRange, Keeps, keeps}
use Rattle.units.proofs.Listed.{any_from, any_parts, all_fail, all_states_exact, below_at}
use Rattle.units.proofs.Theory.{count_is_unique}
use Rattle.evidence.specs.Counts.{round_count}
use Rattle.evidence.proofs.Complete.{complete}
use Rattle.evidence.proofs.Once.{visited_once}
use Rattle.evidence.proofs.Sound.{sound, open_there}
use Rattle.evidence.proofs.Visits.{visits, round_summed}
use Rattle.evidence.proofs.Width.{few_visits}

module _ (m : Meaning) (fit : verdict m ≡ None) (before : Option (List ℕ)) (in-old : InRange m.outline (value (old_state before))) (order : List ℕ) (ordered : AtomsInOrder m.outline order) where
  abbrev kind : Round
  kind = kind_of_round before

  abbrev s : List ℕ
  s = old_state before

  kept : Keeps m
  kept = keeps m fit

  exact : Exactly (Yielding m kind s) (visits m before order)
  exact = record { complete = λ p y. complete m kept before order ordered p.0 p.1 y; sound = λ p h. sound m kept before in-old order ordered p h }

  -- as many visits as outcomes
  many : length (visits m before order) ≡ length (outcomes m kind s)
  many = count_is_unique m kind s (visits m before order) (visited_once m before order ordered) exact

  pub few : length (outcomes m kind s) ≤ 1048576
  few = omega (arith, many, few_visits m kept before in-old order ordered, (passed m fit).ways)

  -- what is visited follows
  follows : (p : List ℕ × List ℕ) → Yielding m kind s p → yields m kind s p.0 ≡ true
  follows p y = yields_from m kind s p.0 y.state (λ a l. (value p.1 a, open_there m kind a (value p.1 a) (value s) (value p.0) (takes_parts m kind a (value p.1 a) (value s) (value p.0) (took a l)).opened, took a l))
    where
      took : (a : ℕ) → a < m.outline.atoms → takes m kind a (value p.1 a) (value s) (value p.0) ≡ true
      took a l = (every_decides (λ a. takes m kind a (value p.1 a) (value s) (value p.0)) m.outline.atoms).0 y.led a l

  -- and what follows is visited, with the first choices that lead there
  module _ (t : List ℕ) (h : yields m kind s t ≡ true) where
    leads : ℕ → ℕ → Bool
    leads a k = takes m kind a k (value s) (value t)

    pick : ℕ → ℕ
    pick a = unwrap_or (lowest (leads a) (m.acts.choices kind a)) 0

    record Picked (a k : ℕ) : Type 0 where
      low : k < m.acts.choices kind a
      takes_it : takes m kind a k (value s) (value t) ≡ true

    picked : (a : ℕ) → a < m.outline.atoms → Picked a (pick a)
    unfolding pick leads
    picked a l = go (lowest (leads a) (m.acts.choices kind a)) refl
      where
        go : (o : Option ℕ) → lowest (leads a) (m.acts.choices kind a) ≡ o → Picked a (unwrap_or o 0)
        go (Some k) e = let f = lowest_found (leads a) (m.acts.choices kind a) k e in record { low = f.inside; takes_it = f.passes }
        go None e =
            let one = (yields_parts m kind s t h).1 a l in
            absurd (both_ways (leads a one.0) (lowest_clear (leads a) (m.acts.choices kind a) e one.0 one.1) one.2)

    pub row : List ℕ
    row = map pick (below m.outline.atoms)

    row_long : length row ≡ m.outline.atoms
    unfolding row
    row_long = length-map (below m.outline.atoms) pick ∙ length_below m.outline.atoms

    row_pick : (a : ℕ) → a < m.outline.atoms → value row a ≡ pick a
    unfolding row
    row_pick a l = get_or-map pick (below m.outline.atoms) a 0 0 (subst (λ n. a < n) (sym (length_below m.outline.atoms)) l) ∙ ap pick (below_at m.outline.atoms a l)

    most : ℕ → ℕ
    most a = m.acts.choices kind a - 1

    tops_long : length (map most (below m.outline.atoms)) ≡ m.outline.atoms
    tops_long = length-map (below m.outline.atoms) most ∙ length_below m.outline.atoms

    most_at : (a : ℕ) → a < m.outline.atoms → value (map most (below m.outline.atoms)) a ≡ most a
    most_at a l = get_or-map most (below m.outline.atoms) a 0 0 (subst (λ n. a < n) (sym (length_below m.outline.atoms)) l) ∙ ap most (below_at m.outline.atoms a l)

    yielding : Yielding m kind s (t, row)
    unfolding most
    yielding = record {
      state = (yields_parts m kind s t h).0;
      row = (ranges_exact (map most (below m.outline.atoms))).complete row (record {
        long = row_long ∙ sym tops_long;
        under = λ a l. let low : a < m.outline.atoms = subst (λ n. a < n) tops_long l in
            let fits = (picked a low).low in let is = row_pick a low in let top = most_at a low in omega arith;
      });
      led = (every_decides (λ a. takes m kind a (value row a) (value s) (value t)) m.outline.atoms).1 (λ a l. subst (λ k. takes m kind a k (value s) (value t) ≡ true) (sym (row_pick a l)) (picked a l).takes_it);
    }

    pub visited : Member (t, row) (visits m before order)
    visited = exact.complete (t, row) yielding

  module _ (listed : List ℕ → Bool) where
    -- a visit that is not listed is a state that is missed
    same_missed : any (λ p. not (listed p.0)) (visits m before order) ≡ any (λ t. yields m kind s t && not (listed t)) (all_states m.outline)
    same_missed = go (any (λ p. not (listed p.0)) (visits m before order)) refl
      where
        go : (b : Bool) → any (λ p. not (listed p.0)) (visits m before order) ≡ b → b ≡ any (λ t. yields m kind s t && not (listed t)) (all_states m.outline)
        go true e =
            let (p, member, out) = any_parts (λ (p : List ℕ × List ℕ). not (listed p.0)) (visits m before order) e in
            let y = exact.sound p member in
            sym (any_from (λ t. yields m kind s t && not (listed t)) (all_states m.outline) p.0 ((all_states_exact m.outline).complete p.0 y.state) (and_from (yields m kind s p.0) (not (listed p.0)) (follows p y) out))
        go false e = sym (all_fail (λ t. yields m kind s t && not (listed t)) (all_states m.outline) (λ t _. each t (cases_Bool (yields m kind s t && not (listed t)))))
          where
            each : (t : List ℕ) → (yields m kind s t && not (listed t) ≡ true) ⊎ (yields m kind s t && not (listed t) ≡ false) → (yields m kind s t && not (listed t)) ≡ false
            each t (inr f) = f
            each t (inl g) =
                let both = and_parts (yields m kind s t) (not (listed t)) g in
                absurd (both_ways (any (λ p. not (listed p.0)) (visits m before order)) e (any_from (λ (p : List ℕ × List ℕ). not (listed p.0)) (visits m before order) (t, row t both.0) (visited t both.0) both.1))

    -- The count of a round is that of its outcomes, and there is none where one of them is not listed.
    pub round_counted : round_count m before listed order ≡ cond (any (λ t. yields m kind s t && not (listed t)) (all_states m.outline)) None (Some (length (outcomes m kind s)))
    round_counted =
        round_summed m before listed order
        ∙ ap₂ (λ b n. cond b None (Some n)) same_missed (let least : min (length (visits m before order)) 4294967295 ≡ length (visits m before order) = omega (arith, many, few) in least ∙ many)
