-- The count is how many outcomes there are.
use Rattle.std.proofs.Common.{◌≡◌, ℕ, ◌+◌, ◌<◌, Bool, true, List, [], ◌∷◌, length, refl, ◌∙◌, ap₂}
use Rattle.model.specs.Meanings.{Meaning}
use Rattle.model.specs.States.{value, takes, nothing}
use Rattle.model.specs.declared.Round.{Round}
use Rattle.model.specs.declared.Round.TheVariants.{Initial, Update}
use Rattle.model.proofs.Bounded.{every_decides}
use Rattle.model.proofs.States.{Taken, takes_parts, takes_from}
use Rattle.theory.specs.Enumerations.{pairs}
use Rattle.theory.specs.Members.{Member, Exactly}
use Rattle.theory.proofs.Enumerations.{pairs_exact, distinct_pairs, distinct_ranges}
use Rattle.theory.proofs.Members.{kept_exact, distinct_kept}
use Rattle.units.specs.Counting.{total}
use Rattle.units.specs.Evidence.{all_states, choice_rows, row_leads, outcomes}
use Rattle.units.proofs.Listed.{all_states_exact}
use Rattle.reactive.specs.Counts.{Many}
use Rattle.reactive.specs.Outcomes.{Outcome, OutcomesFrom}
use Rattle.reactive.specs.Statements.{TheCountIsOfOutcomes}
use Rattle.reactive.proofs.Counting.{many_unique}
use Rattle.reactive.proofs.Limits.{NumbersBelow, numbers_exact}
use Rattle.reactive.proofs.States.{states_agree, row_of}

module _ (m : Meaning) where
  module _ (r : Round) (s : List ℕ) where
    abbrev listed : List (List ℕ × List ℕ)
    listed = pairs (all_states m.outline) (choice_rows m r)

    abbrev leads : List ℕ × List ℕ → ℕ → Bool
    leads pair a = takes m r a (value pair.1 a) (value s) (value pair.0)

    rows : Exactly (NumbersBelow m.outline.atoms (m.acts.choices r)) (choice_rows m r)
    rows = numbers_exact m.outline.atoms (m.acts.choices r) (λ a l. m.choice_laws.some_choice r a l)

    outcome_listed : (pair : List ℕ × List ℕ) → Outcome m r s pair → Member pair listed × (row_leads m r s pair ≡ true)
    outcome_listed pair o = (
      (pairs_exact (all_states m.outline) (choice_rows m r)).complete pair (
        (all_states_exact m.outline).complete pair.0 (((states_agree m).states pair.0 o.row).1 o.state),
        rows.complete pair.1 (record { long = o.long; low = o.there }),
      ),
      (every_decides (leads pair) m.outline.atoms).1 (λ a l.
          takes_from m r a (value pair.1 a) (value s) (value pair.0) (record { opened = o.opened a l; given = λ n _. o.given a n })),
    )

    listed_outcome : (pair : List ℕ × List ℕ) → Member pair listed → row_leads m r s pair ≡ true → Outcome m r s pair
    listed_outcome pair k led =
        let both = (pairs_exact (all_states m.outline) (choice_rows m r)).sound pair k in
        let state = (all_states_exact m.outline).sound pair.0 both.0 in
        let row = row_of m pair.0 state in
        let numbers = rows.sound pair.1 both.1 in
        let taken : (a : ℕ) → a < m.outline.atoms → Taken m r a (value pair.1 a) (value s) (value pair.0) =
        λ a l. takes_parts m r a (value pair.1 a) (value s) (value pair.0) ((every_decides (leads pair) m.outline.atoms).0 led a l) in
        record {
          row = row;
          state = ((states_agree m).states pair.0 row).0 state;
          long = numbers.long;
          there = numbers.low;
          opened = λ a l. (taken a l).opened;
          given = λ a n c. let known = m.outline_laws.controls_known a n c in (taken a known.0).given n (m.outline_laws.names n known.1) c;
        }

    pub outcomes_many : Many (Outcome m r s) (length (outcomes m r s))
    outcomes_many =
        let kept = kept_exact (row_leads m r s) listed in
        record {
          all = outcomes m r s;
          distinct = distinct_kept (row_leads m r s) listed (distinct_pairs (all_states m.outline) (choice_rows m r) (distinct_ranges _) (distinct_ranges _));
          exactly = record {
            complete = λ pair o. kept.complete pair (outcome_listed pair o);
            sound = λ pair k. let h = kept.sound pair k in listed_outcome pair h.0 h.1;
          };
          count = refl;
        }

  abbrev from : List ℕ → ℕ
  from s = length (outcomes m Update s)

  total_there : (ss : List (List ℕ)) → OutcomesFrom m ss (total from ss)
  total_there [] = refl
  total_there (s ∷ ss) = (from s, total from ss, outcomes_many Update s, total_there ss, refl)

  total_only : (ss : List (List ℕ)) (n : ℕ) → OutcomesFrom m ss n → n ≡ total from ss
  total_only [] n e = e
  total_only (s ∷ ss) n (here, others, many, rest, e) = e ∙ ap₂ (λ x y. x + y) (many_unique (outcomes_many Update s) here many) (total_only ss others rest)

pub count_of_outcomes : TheCountIsOfOutcomes
count_of_outcomes m ss n = (
  λ c. c.together ∙ ap₂ (λ x y. x + y) (many_unique (outcomes_many m Initial nothing) c.first c.of_first) (total_only m ss c.later c.of_later),
  λ e. record { first = length (outcomes m Initial nothing); later = total (from m) ss; of_first = outcomes_many m Initial nothing; of_later = total_there m ss; together = e },
)
