-- An atom has an open choice and stays in range wherever it looks exactly when its actions are executable.
use Rattle.std.proofs.Common.{◌≡◌, ℕ, ◌<◌, ◌≤◌, Bool, true, false, cond, not, ◌&&◌, ◌⊎◌, List, map, length, get_or, ℤ, pos, negsuc, sym, refl, ap, ◌∙◌, subst, inl, inr, ⊎_elim, arith}
use Rattle.std.proofs.lemmas.List.{length-map, get_or-map}
use Rattle.std.proofs.lemmas.Bool.{false≢true, both_ways, and_from, and_parts, cases_Bool, cases_lt, cond-true, leb-true, le-leb, not-false, not-true, not_from_false, not_from_true, or_from, or_parts}
use Rattle.composition.specs.Views.{as_state}
use Rattle.composition.proofs.Views.{length_as_state, value_as_state}
use Rattle.model.specs.Meanings.{Valuation, OutlineFacts, Alike, Meaning}
use Rattle.model.specs.States.{value}
use Rattle.model.specs.Tests.{some}
use Rattle.model.specs.declared.Round.{Round}
use Rattle.model.specs.declared.Round.TheVariants.{Initial, Update}
use Rattle.model.proofs.Bounded.{some_decides, some_at}
use Rattle.theory.specs.Enumerations.{below}
use Rattle.theory.specs.Members.{Member}
use Rattle.theory.proofs.Enumerations.{ranges_exact, pairs_exact, below_exact, length_below}
use Rattle.theory.proofs.Members.{member_map}
use Rattle.units.specs.Counting.{any}
use Rattle.units.specs.Sealing.{values_at, old_names, sights, nothing_open, in_some_round, gets_stuck, within, gives_outside, leaves_range}
use Rattle.units.proofs.Listed.{none_passes, all_fail, below_at}
use Rattle.reactive.specs.Modules.{as_value, no_old}
use Rattle.reactive.specs.Reactive.{Variables, Agree, Typed, Empty, Executable}
use Rattle.reactive.proofs.Leading.{Leading, alike_initially, leading_concerned}

-- the rows that are listed for a set of names

pub tops_length : (f : ℕ → ℕ) → length (map f (below 32)) ≡ 32
tops_length f = length-map (below 32) f ∙ length_below 32

pub tops_at : (f : ℕ → ℕ) (i : ℕ) → i < 32 → get_or (map f (below 32)) i 0 ≡ f i
tops_at f i h = get_or-map f (below 32) i 0 0 (subst (λ n. i < n) (sym (length_below 32)) h) ∙ ap f (below_at 32 i h)

module _ (o : OutlineFacts) (set : ℕ → Bool) where
  -- the values at the names of the set, 0 elsewhere
  abbrev shown : Valuation → List ℕ
  shown v = as_state (λ n. cond (set n) (v n) 0)

  shown_at : (v : Valuation) (n : ℕ) → n < 32 → set n ≡ true → value (shown v) n ≡ v n
  shown_at v n h e = value_as_state (λ k. cond (set k) (v k) 0) n h ∙ cond-true (set n) (v n) 0 e

  abbrev tops : List ℕ
  tops = map (λ n. cond (set n) (o.top n) 0) (below 32)

  shown_listed : (v : Valuation) → ((n : ℕ) → set n ≡ true → v n ≤ o.top n) → Member (shown v) (values_at o set)
  shown_listed v h = (ranges_exact tops).complete (shown v) (record {
    long = length_as_state _ ∙ sym (tops_length (λ n. cond (set n) (o.top n) 0));
    under = λ i l. under i (subst (λ n. i < n) (tops_length (λ n. cond (set n) (o.top n) 0)) l);
  })
    where
      under : (i : ℕ) → i < 32 → value (shown v) i ≤ get_or tops i 0
      under i l = subst (λ t. value (shown v) i ≤ t) (sym (tops_at (λ n. cond (set n) (o.top n) 0) i l))
          (subst (λ x. x ≤ cond (set i) (o.top i) 0) (sym (value_as_state (λ k. cond (set k) (v k) 0) i l)) (low i (cases_Bool (set i))))
        where
          low : (i : ℕ) → (set i ≡ true) ⊎ (set i ≡ false) → cond (set i) (v i) 0 ≤ cond (set i) (o.top i) 0
          low i (inl e) = subst (λ b. cond b (v i) 0 ≤ cond b (o.top i) 0) (sym e) (h i e)
          low i (inr e) = subst (λ b. cond b (v i) 0 ≤ cond b (o.top i) 0) (sym e) (omega arith)

  listed_low : (s : List ℕ) → Member s (values_at o set) → (n : ℕ) → n < 32 → set n ≡ true → value s n ≤ o.top n
  listed_low s k n l e =
      let w = (ranges_exact tops).sound s k in
      subst (λ t. value s n ≤ t) (tops_at (λ i. cond (set i) (o.top i) 0) n l ∙ cond-true (set n) (o.top n) 0 e) (w.under n (subst (λ i. n < i) (sym (tops_length (λ i. cond (set i) (o.top i) 0))) l))

-- the old values that are seen
abbrev before : Round → Valuation → Valuation
before Initial v = no_old
before Update v = v

module _ (m : Meaning) (a : ℕ) where
  -- the names whose old values are seen
  abbrev Looked : Round → Variables
  Looked Initial = Empty
  Looked Update = λ n. m.outline.reads a n ≡ true

  abbrev Awaited : Variables
  Awaited n = m.outline.awaits a n ≡ true

  abbrev Own : Variables
  Own n = m.outline.controls a n ≡ true

  abbrev types : ℕ → ℕ → Type 0
  types n v = v ≤ m.outline.top n

  alike : (r : Round) (old new old' new' : Valuation) → Agree (Looked r) old old' → Agree Awaited new new' → Alike m.outline r a (before r old) new (before r old') new'
  alike Initial old new old' new' h k = alike_initially m a no_old new no_old new' k
  alike Update old new old' new' h k = record { awaited = k; read = λ _. h }

  -- old values that are not seen do not matter
  alike_before : (r : Round) (old new : Valuation) → Alike m.outline r a (before r old) new old new
  alike_before Initial old new = alike_initially m a no_old new old new (λ n _. refl)
  alike_before Update old new = record { awaited = λ n _. refl; read = λ _ n _. refl }

  awaited_name : (n : ℕ) → Awaited n → n < 32
  awaited_name n e = m.outline_laws.names n (m.outline_laws.awaits_known a n e).1

  read_name : (n : ℕ) → m.outline.reads a n ≡ true → n < 32
  read_name n e = m.outline_laws.names n (m.outline_laws.reads_known a n e).1

  own_name : (n : ℕ) → Own n → n < 32
  own_name n e = m.outline_laws.names n (m.outline_laws.controls_known a n e).1

  -- rows and valuations

  abbrev seen_row : Round → Valuation → Valuation → List ℕ × List ℕ
  seen_row r old new = (shown m.outline (old_names m.outline r a) old, shown m.outline (m.outline.awaits a) new)

  seen_listed : (r : Round) (old new : Valuation) → Typed types (Looked r) old → Typed types Awaited new → Member (seen_row r old new) (sights m.outline r a)
  seen_listed r old new h k =
      (pairs_exact (values_at m.outline (old_names m.outline r a)) (values_at m.outline (m.outline.awaits a))).complete (seen_row r old new)
      (shown_listed m.outline (old_names m.outline r a) old (olds r h), shown_listed m.outline (m.outline.awaits a) new k)
    where
      olds : (r : Round) → Typed types (Looked r) old → (n : ℕ) → old_names m.outline r a n ≡ true → old n ≤ m.outline.top n
      olds Initial h n e = absurd (false≢true e)
      olds Update h n e = h n e

  seen_alike : (r : Round) (old new : Valuation) → Alike m.outline r a (value (seen_row r old new).0) (value (seen_row r old new).1) (before r old) new
  seen_alike Initial old new = alike_initially m a _ _ no_old new (λ n e. shown_at m.outline (m.outline.awaits a) new n (awaited_name n e) e)
  seen_alike Update old new =
      record {
        awaited = λ n e. shown_at m.outline (m.outline.awaits a) new n (awaited_name n e) e;
        read = λ _ n e. shown_at m.outline (m.outline.reads a) old n (read_name n e) e;
      }

  listed_typed : (r : Round) (seen : List ℕ × List ℕ) → Member seen (sights m.outline r a) → Typed types (Looked r) (value seen.0) × Typed types Awaited (value seen.1)
  listed_typed r seen k =
      let both = (pairs_exact (values_at m.outline (old_names m.outline r a)) (values_at m.outline (m.outline.awaits a))).sound seen k in
      (olds r both.0, λ n e. listed_low m.outline (m.outline.awaits a) seen.1 both.1 n (awaited_name n e) e)
    where
      olds : (r : Round) → Member seen.0 (values_at m.outline (old_names m.outline r a)) → Typed types (Looked r) (value seen.0)
      olds Initial k n e = absurd e
      olds Update k n e = listed_low m.outline (m.outline.reads a) seen.0 k n (read_name n e) e

  -- at each row an open choice, and each open one in range
  record ActsWell (r : Round) : Type 0 where
    open_one : (seen : List ℕ × List ℕ) → Member seen (sights m.outline r a) → (k : ℕ) × (k < m.acts.choices r a) × (m.acts.opens r a k (value seen.0) (value seen.1) ≡ true)
    in_range : (seen : List ℕ × List ℕ) → Member seen (sights m.outline r a) → (k : ℕ) → m.acts.opens r a k (value seen.0) (value seen.1) ≡ true →
        (n : ℕ) → Own n → as_value (m.acts.gives r a k n (value seen.0) (value seen.1)) ≤ m.outline.top n

  abbrev Action : Round → Valuation → Valuation → Valuation → Type 0
  Action r old = Leading m r a (before r old)

  abbrev pub Runs : Round → Type 0
  Runs r = Executable types (Looked r) Awaited Own (Action r)

  -- what a choice gives
  abbrev gift : Round → ℕ → Valuation → Valuation → Valuation
  gift r k old new n = as_value (m.acts.gives r a k n (before r old) new)

  gift_led : (r : Round) (k : ℕ) (old new : Valuation) → k < m.acts.choices r a → m.acts.opens r a k (before r old) new ≡ true → Action r old new (gift r k old new)
  gift_led r k old new h e = record { choice = k; there = h; opened = e; given = λ n _. refl }

  runs_from : (r : Round) → ActsWell r → Runs r
  runs_from r well =
      record {
        concerned = λ old new t old' new' t' h k same. leading_concerned m r a (before r old) new t (before r old') new' t' (alike r old new old' new' h k) same;
        result = λ old new h k.
            let one = well.open_one (seen_row r old new) (seen_listed r old new h k) in
            (gift r one.0 old new, gift_led r one.0 old new one.1 (sym (m.choice_laws.opens_by_sight r a one.0 _ _ _ _ (seen_alike r old new)) ∙ one.2));
        typed = λ old new t h k l n c.
            subst (λ v. v ≤ m.outline.top n) (ap as_value (m.choice_laws.gives_by_sight r a l.choice n _ _ _ _ (seen_alike r old new)) ∙ l.given n c)
            (well.in_range (seen_row r old new) (seen_listed r old new h k) l.choice (m.choice_laws.opens_by_sight r a l.choice _ _ _ _ (seen_alike r old new) ∙ l.opened) n c);
        finite = λ old new h k. (
          map (λ i. gift r i old new) (below (m.acts.choices r a)),
          λ t l. (gift r l.choice old new, member_map (λ i. gift r i old new) (below (m.acts.choices r a)) l.choice ((below_exact (m.acts.choices r a)).complete l.choice l.there), λ n c. sym (l.given n c)),
        );
      }

  open_there : (r : Round) (k : ℕ) (old new : Valuation) → m.acts.opens r a k old new ≡ true → k < m.acts.choices r a
  open_there r k old new e = ⊎_elim (λ h. h) (λ h. absurd (both_ways (m.acts.opens r a k old new) (m.choice_laws.absent_closed r a k old new h) e)) (cases_lt k (m.acts.choices r a))

  acts_from : (r : Round) → Runs r → ActsWell r
  acts_from r runs =
      record {
        open_one = λ seen listed.
            let typed = listed_typed r seen listed in
            let found = runs.result (value seen.0) (value seen.1) typed.0 typed.1 in
            (found.1.choice, found.1.there, sym (m.choice_laws.opens_by_sight r a found.1.choice _ _ _ _ (alike_before r (value seen.0) (value seen.1))) ∙ found.1.opened);
        in_range = λ seen listed k e n c.
            let typed = listed_typed r seen listed in
            let same = alike_before r (value seen.0) (value seen.1) in
            let led = gift_led r k (value seen.0) (value seen.1) (open_there r k (value seen.0) (value seen.1) e) (m.choice_laws.opens_by_sight r a k _ _ _ _ same ∙ e) in
            subst (λ z. as_value z ≤ m.outline.top n) (m.choice_laws.gives_by_sight r a k n _ _ _ _ same) (runs.typed (value seen.0) (value seen.1) _ typed.0 typed.1 led n c);
      }

  -- nothing wrong at any row

  in_round : (test : Meaning → Round → ℕ → List ℕ × List ℕ → Bool) → in_some_round m test a ≡ false → (r : Round) → any (test m r a) (sights m.outline r a) ≡ false
  in_round test h Initial = (or_parts (any (test m Initial a) (sights m.outline Initial a)) (any (test m Update a) (sights m.outline Update a)) h).0
  in_round test h Update = (or_parts (any (test m Initial a) (sights m.outline Initial a)) (any (test m Update a) (sights m.outline Update a)) h).1

  in_rounds : (test : Meaning → Round → ℕ → List ℕ × List ℕ → Bool) → ((r : Round) (seen : List ℕ × List ℕ) → Member seen (sights m.outline r a) → test m r a seen ≡ false) → in_some_round m test a ≡ false
  in_rounds test h =
      or_from (any (test m Initial a) (sights m.outline Initial a)) (any (test m Update a) (sights m.outline Update a))
      (all_fail (test m Initial a) (sights m.outline Initial a) (h Initial)) (all_fail (test m Update a) (sights m.outline Update a) (h Update))

  within_value : (top : ℕ) (z : ℤ) → within top z ≡ true → as_value z ≤ top
  within_value top (pos x) e = leb-true x top e
  within_value top (negsuc x) e = absurd (false≢true e)

  value_within : (top : ℕ) (z : ℤ) → top ≤ 255 → as_value z ≤ top → within top z ≡ true
  value_within top (pos x) l h = le-leb x top h
  value_within top (negsuc x) l h = absurd (omega arith)

  module _ (r : Round) (seen : List ℕ × List ℕ) where
    abbrev opened : ℕ → Bool
    opened k = m.acts.opens r a k (value seen.0) (value seen.1)

    abbrev given : ℕ → ℕ → ℤ
    given k n = m.acts.gives r a k n (value seen.0) (value seen.1)

    abbrev outside : ℕ → ℕ → Bool
    outside k n = m.outline.controls a n && not (within (m.outline.top n) (given k n))

    open_found : nothing_open m r a seen ≡ false → (k : ℕ) × (k < m.acts.choices r a) × (opened k ≡ true)
    open_found h = (some_decides opened (m.acts.choices r a)).0 (not-false _ h)

    found_open : (k : ℕ) × (k < m.acts.choices r a) × (opened k ≡ true) → nothing_open m r a seen ≡ false
    found_open h = not_from_true _ ((some_decides opened (m.acts.choices r a)).1 h)

    none_outside : gives_outside m r a seen ≡ false → (k : ℕ) → opened k ≡ true → (n : ℕ) → Own n → as_value (given k n) ≤ m.outline.top n
    none_outside h k e n c = within_value (m.outline.top n) (given k n) (⊎_elim (λ t. t) (λ f. absurd (both_ways (gives_outside m r a seen) h
        (some_at (λ i. opened i && some (outside i) 32) (m.acts.choices r a) k (open_there r k (value seen.0) (value seen.1) e)
        (and_from (opened k) (some (outside k) 32) e (some_at (outside k) 32 n (own_name n c) (and_from (m.outline.controls a n) _ c (not_from_false _ f)))))))
        (cases_Bool (within (m.outline.top n) (given k n))))

    outside_none : ((k : ℕ) → opened k ≡ true → (n : ℕ) → Own n → as_value (given k n) ≤ m.outline.top n) → gives_outside m r a seen ≡ false
    outside_none h = ⊎_elim wrong (λ f. f) (cases_Bool (gives_outside m r a seen))
      where
        wrong : gives_outside m r a seen ≡ true → gives_outside m r a seen ≡ false
        wrong t =
            let (k, there, found) = (some_decides (λ i. opened i && some (outside i) 32) (m.acts.choices r a)).0 t in
            let (open-here, some-name) = and_parts (opened k) (some (outside k) 32) found in
            let (n, low, out) = (some_decides (outside k) 32).0 some-name in
            let (own, not_in) = and_parts (m.outline.controls a n) (not (within (m.outline.top n) (given k n))) out in
            absurd (both_ways (within (m.outline.top n) (given k n)) (not-true _ not_in) (value_within (m.outline.top n) (given k n) (m.outline_laws.top_to_255 n) (h k open-here n own)))

  -- with an open choice everywhere, and none that gives a value outside, its actions are executable
  pub runs_where : gets_stuck m a ≡ false → leaves_range m a ≡ false → (r : Round) → Runs r
  runs_where stuck range r =
      runs_from r (record {
        open_one = λ seen k. open_found r seen (none_passes (nothing_open m r a) (sights m.outline r a) seen (in_round nothing_open stuck r) k);
        in_range = λ seen k. none_outside r seen (none_passes (gives_outside m r a) (sights m.outline r a) seen (in_round gives_outside range r) k);
      })

  module _ (runs : (r : Round) → Runs r) where
    pub never_stuck : gets_stuck m a ≡ false
    never_stuck = in_rounds nothing_open (λ r seen k. found_open r seen ((acts_from r (runs r)).open_one seen k))

    pub never_outside : leaves_range m a ≡ false
    never_outside = in_rounds gives_outside (λ r seen k. outside_none r seen ((acts_from r (runs r)).in_range seen k))
