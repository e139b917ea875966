-- The limits that sealing sets are judged rightly: its products count what the limits speak of.
use Rattle.std.proofs.Common.{◌≡◌, ℕ, ◌+◌, ◌-◌, ◌*◌, ◌<◌, ◌≤◌, max, Bool, true, false, cond, ◌⊎◌, ◌↔◌, List, map, length, get_or, sym, ap, ◌∙◌, subst, ap₂, inl, inr, ⊎_elim, arith}
use Rattle.std.proofs.lemmas.Bool.{both_ways, cases_Bool, cases_lt, cond-true, cond-false, le-ltb, ltb-false}
use Rattle.std.proofs.lemmas.List.{get_or_past, length-map, get_or-map}
use Rattle.model.specs.Meanings.{OutlineFacts, Meaning}
use Rattle.model.specs.States.{value}
use Rattle.model.specs.declared.Round.TheVariants.{Initial, Update}
use Rattle.theory.specs.Enumerations.{below, pairs, ranges, Within}
use Rattle.theory.specs.Members.{Member, Exactly}
use Rattle.theory.proofs.Enumerations.{ranges_exact, distinct_ranges, length_ranges, pairs_exact, distinct_pairs, length_pairs, length_below}
use Rattle.units.specs.Counting.{product}
use Rattle.units.specs.Sealing.{times_if, sight, values_at, is_external, width}
use Rattle.units.proofs.Listed.{below_at}
use Rattle.reactive.specs.Counts.{Many}
use Rattle.reactive.specs.Limits.{ValuesAt, Sees, Way}
use Rattle.reactive.specs.Statements.{LimitsOf, LimitsAreJudgedRightly}
use Rattle.reactive.proofs.Acting.{tops_length, tops_at}
use Rattle.reactive.proofs.Counting.{at_most, at_most_back, many_same}
use Rattle.reactive.proofs.Operations.{external_iff}
use Rattle.reactive.proofs.Products.{product_same, product_times, room_below}

module _ (o : OutlineFacts) (set : ℕ → Bool) where
  abbrev top_there : ℕ → ℕ
  top_there n = cond (set n) (o.top n) 0

  -- the rows that are listed for a set of names
  rows_exact : Exactly (ValuesAt o (λ n. set n ≡ true)) (values_at o set)
  rows_exact = record { complete = complete; sound = sound }
    where
      complete : (s : List ℕ) → ValuesAt o (λ n. set n ≡ true) s → Member s (values_at o set)
      complete s v = (ranges_exact (map top_there (below 32))).complete s (record {
        long = v.long ∙ sym (tops_length top_there);
        under = λ i l. subst (λ t. value s i ≤ t) (sym (tops_at top_there i (subst (λ n. i < n) (tops_length top_there) l))) (low i (cases_Bool (set i)));
      })
        where
          low : (i : ℕ) → (set i ≡ true) ⊎ (set i ≡ false) → value s i ≤ top_there i
          low i (inl t) = subst (λ x. value s i ≤ x) (sym (cond-true (set i) (o.top i) 0 t)) (v.inside i t)
          low i (inr f) = omega (arith, v.zero i (both_ways (set i) f))

      sound : (s : List ℕ) → Member s (values_at o set) → ValuesAt o (λ n. set n ≡ true) s
      sound s k =
          record {
            long = w.long ∙ tops_length top_there;
            inside = λ n e. subst (λ x. value s n ≤ x) (cond-true (set n) (o.top n) 0 e) (under n (cases_lt n 32));
            zero = λ n h. let f : set n ≡ false = ⊎_elim (λ t. absurd (h t)) (λ f. f) (cases_Bool (set n)) in
                omega (arith, under n (cases_lt n 32), cond-false (set n) (o.top n) 0 f);
          }
        where
          w : Within (map top_there (below 32)) s
          w = (ranges_exact (map top_there (below 32))).sound s k

          under : (n : ℕ) → (n < 32) ⊎ (32 ≤ n) → value s n ≤ top_there n
          under n (inl l) = subst (λ t. value s n ≤ t) (tops_at top_there n l) (w.under n (subst (λ i. n < i) (sym (tops_length top_there)) l))
          under n (inr l) = omega (arith, get_or_past s n 0 (omega (arith, w.long, tops_length top_there)))

  rows_many : Many (ValuesAt o (λ n. set n ≡ true)) (product (λ n. times_if (set n) (o.top n)) 32)
  rows_many =
      record {
        all = values_at o set;
        distinct = distinct_ranges _;
        exactly = rows_exact;
        count = length_ranges (map top_there (below 32)) ∙ room_below top_there 32 ∙ product_same (λ n. top_there n + 1) (λ n. times_if (set n) (o.top n)) 32 (λ n l. factor n (cases_Bool (set n)));
      }
    where
      factor : (n : ℕ) → (set n ≡ true) ⊎ (set n ≡ false) → top_there n + 1 ≡ times_if (set n) (o.top n)
      factor n (inl t) = ap (λ x. x + 1) (cond-true (set n) (o.top n) 0 t) ∙ sym (cond-true (set n) (o.top n + 1) 1 t)
      factor n (inr f) = ap (λ x. x + 1) (cond-false (set n) (o.top n) 0 f) ∙ sym (cond-false (set n) (o.top n + 1) 1 f)

-- pairs of things of two kinds
both_many : {A B : Type 0} {P : A → Type 0} {Q : B → Type 0} (m n : ℕ) → Many P m → Many Q n → Many {A = A × B} (λ p. P p.0 × Q p.1) (m * n)
both_many m n p q =
    record {
      all = pairs p.all q.all;
      distinct = distinct_pairs p.all q.all p.distinct q.distinct;
      exactly = record {
        complete = λ x h. (pairs_exact p.all q.all).complete x (p.exactly.complete x.0 h.0, q.exactly.complete x.1 h.1);
        sound = λ x k. let h = (pairs_exact p.all q.all).sound x k in (p.exactly.sound x.0 h.0, q.exactly.sound x.1 h.1);
      };
      count = length_pairs p.all q.all ∙ ap₂ (λ x y. x * y) p.count q.count;
    }

-- rows of a number below n a for each a below a bound, which is at least 1
pub record NumbersBelow (many : ℕ) (n : ℕ → ℕ) (xs : List ℕ) : Type 0 where
  pub long : length xs ≡ many
  pub low : (a : ℕ) → a < many → value xs a < n a

module _ (many : ℕ) (n : ℕ → ℕ) (some : (a : ℕ) → a < many → 1 ≤ n a) where
  abbrev pub tops_below : List ℕ
  tops_below = map (λ a. n a - 1) (below many)

  length_tops : length tops_below ≡ many
  length_tops = length-map (below many) (λ a. n a - 1) ∙ length_below many

  top_at : (a : ℕ) → a < many → get_or tops_below a 0 ≡ n a - 1
  top_at a l = get_or-map (λ k. n k - 1) (below many) a 0 0 (subst (λ x. a < x) (sym (length_below many)) l) ∙ ap (λ k. n k - 1) (below_at many a l)

  pub numbers_exact : Exactly (NumbersBelow many n) (ranges tops_below)
  numbers_exact =
      record {
        complete = λ xs h. (ranges_exact tops_below).complete xs (record {
          long = h.long ∙ sym length_tops;
          under = λ a l. let k : a < many = subst (λ x. a < x) length_tops l in omega (arith, top_at a k, h.low a k);
        });
        sound = λ xs m. let w = (ranges_exact tops_below).sound xs m in record {
          long = w.long ∙ length_tops;
          low = λ a l. omega (arith, top_at a l, some a l, w.under a (subst (λ x. a < x) (sym length_tops) l));
        };
      }

  numbers_many : Many (NumbersBelow many n) (product n many)
  numbers_many =
      record {
        all = ranges tops_below;
        distinct = distinct_ranges tops_below;
        exactly = numbers_exact;
        count = length_ranges tops_below ∙ room_below (λ a. n a - 1) many ∙ product_same (λ a. n a - 1 + 1) n many (λ a l. omega (arith, some a l));
      }

-- the same rows for the same names
same_values : (o : OutlineFacts) (X Y : ℕ → Type 0) → ((n : ℕ) → X n ↔ Y n) → (s : List ℕ) → ValuesAt o X s → ValuesAt o Y s
same_values o X Y same s v = record { long = v.long; inside = λ n y. v.inside n ((same n).1 y); zero = λ n no. v.zero n (λ x. no ((same n).0 x)) }

module _ (m : Meaning) where
  abbrev larger : ℕ → ℕ
  larger a = max (m.acts.choices Initial a) (m.acts.choices Update a)

  sights_many : (a : ℕ) → Many (Sees m.outline a) (sight m.outline a)
  sights_many a =
      let old = rows_many m.outline (m.outline.reads a) in
      let new = rows_many m.outline (m.outline.awaits a) in
      let both = both_many _ _ old new in
      subst (Many (Sees m.outline a)) (sym (product_times (λ n. times_if (m.outline.reads a n) (m.outline.top n)) (λ n. times_if (m.outline.awaits a n) (m.outline.top n)) 32))
      (many_same both (λ p. (λ h. record { old = h.0; new = h.1 }, λ s. (s.old, s.new))))

  ways_many : Many (Way m) (width m)
  ways_many =
      let given = rows_many m.outline (λ n. is_external (m.outline.kind n)) in
      let chosen = numbers_many m.outline.atoms larger (λ a l. omega (arith, m.choice_laws.some_choice Initial a l)) in
      many_same (both_many _ _ given chosen) (λ p. (
        λ h. record { given = same_values m.outline _ _ (λ n. (λ e. (external_iff (m.outline.kind n)).1 e, λ e. (external_iff (m.outline.kind n)).0 e)) p.0 h.0; long = h.1.long; chosen = h.1.low },
        λ w. (same_values m.outline _ _ (λ n. external_iff (m.outline.kind n)) p.0 w.given, record { long = w.long; low = w.chosen }),
      ))

  pub limits_of : LimitsOf m
  limits_of =
      record {
        sight_counts = sights_many;
        width_counts = ways_many;
        sights_judged = λ a. (λ h. at_most (sights_many a) 65536 (ltb-false 65536 (sight m.outline a) h), λ h. le-ltb 65536 (sight m.outline a) (at_most_back (sights_many a) 65536 h));
        ways_judged = (λ h. at_most ways_many 1048576 (ltb-false 1048576 (width m) h), λ h. le-ltb 1048576 (width m) (at_most_back ways_many 1048576 h));
      }

pub limits_judged : LimitsAreJudgedRightly
limits_judged = limits_of
