-- What holds in the middle of a round, whichever atoms have fired.
use Rattle.std.proofs.Common.{◌≡◌, ℕ, ◌<◌, ◌≤◌, Bool, true, false, cond, not, ◌&&◌, List, length, set, replicate, pos, None, Option, sym, refl, ap, ◌∙◌, subst, ⊎_elim, arith}
use Rattle.std.proofs.lemmas.List.{length-set, length-replicate, get_or-set_same, get_or-set_other}
use Rattle.std.proofs.lemmas.Bool.{and_cases, both_ways, cases_Bool, cases_eq, cases_lt, cond-true, cond-false, cond_both, ltb-false, not-true, not-false, not_from_true, not_from_false}
use Rattle.model.specs.Meanings.{Valuation, Alike, Meaning}
use Rattle.model.specs.States.{value, takes, yields}
use Rattle.model.specs.Tests.{some, lowest, count}
use Rattle.model.specs.declared.Round.{Round}
use Rattle.model.proofs.Lowest.{lowest_clear}
use Rattle.model.proofs.Unmarked.{unmarked}
use Rattle.model.proofs.States.{StateOf, state_parts, state_from, takes_parts, takes_from, yields_from}
use Rattle.units.specs.Sealing.{is_external}
use Rattle.units.specs.Units.{wrong_value, kind_of_round, old_state, has_fired, must_wait, as_value, values_made}
use Rattle.units.proofs.Fitness.{InRange, Keeps, length_row, row_at}
use Rattle.model.proofs.Counted.{some_clear, none_counted, fewer}

-- The values given and made are a state of the module, each atom that has fired took a choice that leads there, and
-- every atom that it awaits has fired too.
pub record Midway (m : Meaning) (before : Option (List ℕ)) (new : List ℕ) (fired : List Bool) : Type 0 where
  pub state : StateOf m.outline new
  pub places : length fired ≡ 16
  pub took : (a : ℕ) → has_fired fired a ≡ true → (k : ℕ) × (k < m.acts.choices (kind_of_round before) a) × (takes m (kind_of_round before) a k (value (old_state before)) (value new) ≡ true)
  pub settled : (a b n : ℕ) → has_fired fired a ≡ true → m.outline.awaits a n ≡ true → m.outline.controls b n ≡ true → has_fired fired b ≡ true

-- a round begins with values in range at external names, and 0 elsewhere
pub begins : (m : Meaning) (before : Option (List ℕ)) (given : List ℕ) → length given ≡ 32 → lowest (wrong_value m.outline given) 32 ≡ None → Midway m before given (replicate 16 false)
begins m before given long h = record {
  state = state_parts m.outline given (state_from m.outline given long (λ n l. in_range n (lowest_clear (wrong_value m.outline given) 32 h n l)));
  places = length-replicate 16 false;
  took = λ a e. absurd (both_ways (has_fired (replicate 16 false) a) (unmarked 16 a) e);
  settled = λ a b n e. absurd (both_ways (has_fired (replicate 16 false) a) (unmarked 16 a) e);
}
  where
    in_range : (n : ℕ) → wrong_value m.outline given n ≡ false → value given n ≤ m.outline.top n
    in_range n e =
        let most = ltb-false (cond (is_external (m.outline.kind n)) (m.outline.top n) 0) (value given n) e in
        cond_both (is_external (m.outline.kind n)) (m.outline.top n) 0 (λ x. value given n ≤ x → value given n ≤ m.outline.top n) (λ _ le. le) (λ _ le. omega arith) most

-- an atom that need not wait awaits only atoms that have fired
pub waited : (m : Meaning) (fired : List Bool) (a : ℕ) → must_wait m.outline fired a ≡ false → (b n : ℕ) → m.outline.awaits a n ≡ true → m.outline.controls b n ≡ true → has_fired fired b ≡ true
waited m fired a ready b n h c =
    let late : ℕ → Bool = λ b. m.outline.controls b n && not (has_fired fired b) in
    let known = m.outline_laws.controls_known b n c in
    let one = some_clear (λ n. m.outline.awaits a n && some (λ b. m.outline.controls b n && not (has_fired fired b)) m.outline.atoms) 32 n ready (m.outline_laws.names n known.1) in
    let none : some late m.outline.atoms ≡ false = ⊎_elim (λ e. absurd (both_ways _ e h)) (λ e. e) (and_cases (m.outline.awaits a n) (some late m.outline.atoms) one) in
    let two = some_clear late m.outline.atoms b none known.0 in
    not-false (has_fired fired b) (⊎_elim (λ e. absurd (both_ways _ e c)) (λ e. e) (and_cases (m.outline.controls b n) (not (has_fired fired b)) two))

-- one more atom has fired
module _ (fired : List Bool) (a : ℕ) (in_place : a < length fired) where
  pub fired_now : has_fired (set fired a true) a ≡ true
  fired_now = get_or-set_same fired a true false in_place

  pub fired_other : (b : ℕ) → (b ≡ a → ⊥) → has_fired (set fired a true) b ≡ has_fired fired b
  fired_other b apart = get_or-set_other fired a b true false apart

  pub still_fired : (b : ℕ) → has_fired fired b ≡ true → has_fired (set fired a true) b ≡ true
  still_fired b h = ⊎_elim (λ e. subst (λ c. has_fired (set fired a true) c ≡ true) (sym e) fired_now) (λ e. fired_other b e ∙ h) (cases_eq b a)

  -- so one fewer is yet to fire
  pub one_less : (atoms : ℕ) → a < atoms → has_fired fired a ≡ false → count (λ x. not (has_fired (set fired a true) x)) atoms < count (λ x. not (has_fired fired x)) atoms
  one_less atoms there unfired =
      fewer (λ x. not (has_fired fired x)) (λ x. not (has_fired (set fired a true) x))
      (λ i e. ⊎_elim (λ f. absurd (both_ways (has_fired (set fired a true) i) (not-true _ e) (still_fired i f))) (λ f. not_from_false (has_fired fired i) f) (cases_Bool (has_fired fired i)))
      atoms a there (not_from_false _ unfired) (not_from_true _ fired_now)

-- an atom fires
module _ (m : Meaning) (keeps : Keeps m) (before : Option (List ℕ)) (in-old : InRange m.outline (value (old_state before))) (new : List ℕ) (fired : List Bool) (midway : Midway m before new fired)
    (a k : ℕ) (there : a < m.outline.atoms) (unfired : has_fired fired a ≡ false) (ready : must_wait m.outline fired a ≡ false)
    (opened : m.acts.opens (kind_of_round before) a k (value (old_state before)) (value new) ≡ true) where
  abbrev kind : Round
  kind = kind_of_round before

  abbrev old : Valuation
  old = value (old_state before)

  abbrev gift : ℕ → ℕ
  gift n = as_value (m.acts.gives kind a k n old (value new))

  abbrev made : ℕ → ℕ
  made n = cond (m.outline.controls a n) (gift n) (value new n)

  abbrev after : List ℕ
  after = values_made m before new a k

  -- names that it does not control keep their values
  kept : (n : ℕ) → n < 32 → m.outline.controls a n ≡ false → value new n ≡ value after n
  kept n l e = sym (row_at made n l ∙ cond-false (m.outline.controls a n) (gift n) (value new n) e)

  name : (b n : ℕ) → m.outline.awaits b n ≡ true → n < 32
  name b n h = m.outline_laws.names n (m.outline_laws.awaits_known b n h).1

  -- an atom whose awaited atoms have all fired sees what it saw
  same_sight : (b : ℕ) → ((c n : ℕ) → m.outline.awaits b n ≡ true → m.outline.controls c n ≡ true → has_fired fired c ≡ true) → Alike m.outline kind b old (value after) old (value new)
  same_sight b all = record {
    awaited = λ n h. sym (kept n (name b n h) (⊎_elim (λ c. absurd (both_ways (has_fired fired a) unfired (all a n h c))) (λ e. e) (cases_Bool (m.outline.controls a n))));
    read = λ e n h. refl;
  }

  given : (n : ℕ) → m.outline.controls a n ≡ true → (m.acts.gives kind a k n old (value new) ≡ pos (gift n)) × (gift n ≤ m.outline.top n)
  given n c =
      let x = keeps.given_in_range kind a k n old (value new) there in-old midway.state.within opened c in
      let same : gift n ≡ x.0 = ap as_value x.1 in
      (x.1 ∙ ap pos (sym same), subst (λ v. v ≤ m.outline.top n) (sym same) x.2)

  took_now : (j : ℕ) × (j < m.acts.choices kind a) × (takes m kind a j old (value after) ≡ true)
  took_now =
      let alike = same_sight a (waited m fired a ready) in
      let there' = ⊎_elim (λ l. l) (λ l. absurd (both_ways (m.acts.opens kind a k old (value new)) (m.choice_laws.absent_closed kind a k old (value new) l) opened)) (cases_lt k (m.acts.choices kind a)) in (
        k,
        there',
        takes_from m kind a k old (value after) (record {
          opened = m.choice_laws.opens_by_sight kind a k old (value after) old (value new) alike ∙ opened;
          given = λ n l c. m.choice_laws.gives_by_sight kind a k n old (value after) old (value new) alike ∙ (given n c).0 ∙ ap pos (sym (row_at made n l ∙ cond-true (m.outline.controls a n) (gift n) (value new n) c));
        }),
      )

  took_before : (b : ℕ) → (b ≡ a → ⊥) → has_fired fired b ≡ true → (j : ℕ) × (j < m.acts.choices kind b) × (takes m kind b j old (value after) ≡ true)
  took_before b apart h =
      let alike = same_sight b (λ c n. midway.settled b c n h) in
      let took = midway.took b h in
      let parts = takes_parts m kind b took.0 old (value new) took.2 in (
        took.0,
        took.1,
        takes_from m kind b took.0 old (value after) (record {
          opened = m.choice_laws.opens_by_sight kind b took.0 old (value after) old (value new) alike ∙ parts.opened;
          given = λ n l c. m.choice_laws.gives_by_sight kind b took.0 n old (value after) old (value new) alike ∙ parts.given n l c ∙
              ap pos (kept n l (⊎_elim (λ d. absurd (apart (keeps.one_controller b a n c d))) (λ e. e) (cases_Bool (m.outline.controls a n))));
        }),
      )

  abbrev now : List Bool
  now = set fired a true

  in_place : a < length fired
  in_place = omega (arith, there, m.outline_laws.few_atoms, midway.places)

  pub fires : Midway m before after now
  fires = record {
    state = state_parts m.outline after (state_from m.outline after (length_row made) (λ n l. subst (λ v. v ≤ m.outline.top n) (sym (row_at made n l)) (in_range n)));
    places = length-set fired a true ∙ midway.places;
    took = λ b h. ⊎_elim (λ e. subst (λ c. (j : ℕ) × (j < m.acts.choices kind c) × (takes m kind c j old (value after) ≡ true)) (sym e) took_now) (λ e. took_before b e (sym (fired_other fired a in_place b e) ∙ h)) (cases_eq b a);
    settled = λ b c n h w d. still_fired fired a in_place c (⊎_elim (λ e. waited m fired a ready c n (subst (λ x. m.outline.awaits x n ≡ true) e w) d) (λ e. midway.settled b c n (sym (fired_other fired a in_place b e) ∙ h) w d) (cases_eq b a));
  }
    where
      in_range : (n : ℕ) → made n ≤ m.outline.top n
      in_range n = cond_both (m.outline.controls a n) (gift n) (value new n) (λ v. v ≤ m.outline.top n) (λ c. (given n c).1) (λ _. midway.state.within n)

-- when all have fired, the values are an outcome of the round
module _ (m : Meaning) (before : Option (List ℕ)) (new : List ℕ) (fired : List Bool) (midway : Midway m before new fired) where
  pub all_fired : ((a : ℕ) → a < m.outline.atoms → not (has_fired fired a) ≡ false) → yields m (kind_of_round before) (old_state before) new ≡ true
  all_fired h =
      yields_from m (kind_of_round before) (old_state before) new (state_from m.outline new midway.state.long (λ n _. midway.state.within n))
      (λ a l. midway.took a (not-false (has_fired fired a) (h a l)))

  pub outcome : count (λ a. not (has_fired fired a)) m.outline.atoms ≡ 0 → yields m (kind_of_round before) (old_state before) new ≡ true
  outcome none = all_fired (λ a l. none_counted (λ a. not (has_fired fired a)) m.outline.atoms a none l)
