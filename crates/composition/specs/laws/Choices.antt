-- The choices of renamed, hidden and joined drawings keep the laws of choices.
use Rattle.std.specs.Prelude.{◌≡◌, ℕ, ◌-◌, ◌<◌, ◌≤◌, Bool, true, false, cond, pos, negsuc, ◌≤ℤ◌, Some, None, Option, nat_lt, refl}
use Rattle.std.proofs.Common.{sym, ap, ◌∙◌, not-suc-le-zero, arith}
use Rattle.std.specs.Int.Signed.{le_z_yes}
use Rattle.model.specs.Meanings.{Valuation, OutlineFacts, ChoiceFacts, Alike, ChoiceLaws, Meaning, most_choices}
use Rattle.model.specs.declared.Fault.{Fault}
use Rattle.model.specs.declared.Round.{Round}
use Rattle.composition.specs.Acts.{acts_with, seen_below, renamed_choices, renamed_acts, hidden_acts, joined_choices, joined_acts}
use Rattle.model.specs.Exchange.{exchange}
use Rattle.composition.specs.laws.Exchange.{exchange_twice}
use Rattle.composition.specs.Faults.{fault_of_renamed, fault_of_hidden, fault_of_joined}
use Rattle.composition.specs.laws.Outlines.{by_atom_both, by_atom_left, by_atom_right}
use Rattle.composition.specs.Outlines.{outline_with, by_atom, renamed_tables, renamed_outline, hidden_tables, hidden_outline, joined_tables, joined_outline}

by_atom_same : {A : Type 0} (count : ℕ) (left left' right right' : ℕ → A) (a : ℕ) → (a < count → left a ≡ left' a) → (count ≤ a → right (a - count) ≡ right' (a - count)) → by_atom count left right a ≡ by_atom count left' right' a
by_atom_same count left left' right right' a h k =
    by_atom_both count left right a (λ x. x ≡ by_atom count left' right' a) (λ lt. h lt ∙ sym (by_atom_left count left' right' a lt)) (λ le. k le ∙ sym (by_atom_right count left' right' a le))

-- where there is a fault, nothing is there to choose
choice_laws : (f : Option Fault) (o : OutlineFacts) (c : ChoiceFacts) → ChoiceLaws (outline_with None o) c → ChoiceLaws (outline_with f o) (acts_with f c)
choice_laws None o c laws = laws
choice_laws (Some f) o c laws =
    record {
      some_choice = λ r a h. absurd (not-suc-le-zero h);
      few_choices = λ r a. omega arith;
      no_choice = λ r a h. refl;
      absent_closed = λ r a k old new h. refl;
      absent_gives = λ r a k n old new h. refl;
      other_gives = λ r a k n old new h. refl;
      gives_low = λ r a k n old new p q. le_z_yes tt;
      gives_high = λ r a k n old new p q. le_z_yes tt;
      opens_by_sight = λ r a k old new old' new' h. refl;
      gives_by_sight = λ r a k n old new old' new' h. refl;
    }

module _ (m : Meaning) (a b : ℕ) where
  -- what looks alike under the new names looks alike below under the old ones
  alike_below : (r : Round) (x : ℕ) (old new old' new' : Valuation) → Alike (outline_with None (renamed_tables m.outline a b)) r x old new old' new' →
      Alike m.outline r x (seen_below a b old) (seen_below a b new) (seen_below a b old') (seen_below a b new')
  alike_below r x old new old' new' h =
      record {
        awaited = λ n e. h.awaited (exchange a b n) (back (m.outline.awaits x) n e);
        read = λ u n e. h.read u (exchange a b n) (back (m.outline.reads x) n e);
      }
    where
      back : (s : ℕ → Bool) (n : ℕ) → s n ≡ true → s (exchange a b (exchange a b n)) ≡ true
      back s n e = ap s (exchange_twice a b n) ∙ e

  pub renamed_choice_laws : ChoiceLaws (renamed_outline m.outline a b) (renamed_acts m a b)
  renamed_choice_laws =
      choice_laws (fault_of_renamed m.outline a b) (renamed_tables m.outline a b) (renamed_choices m.acts a b)
      record {
        some_choice = m.choice_laws.some_choice;
        few_choices = m.choice_laws.few_choices;
        no_choice = m.choice_laws.no_choice;
        absent_closed = λ r x k old new. m.choice_laws.absent_closed r x k (seen_below a b old) (seen_below a b new);
        absent_gives = λ r x k n old new. m.choice_laws.absent_gives r x k (exchange a b n) (seen_below a b old) (seen_below a b new);
        other_gives = λ r x k n old new. m.choice_laws.other_gives r x k (exchange a b n) (seen_below a b old) (seen_below a b new);
        gives_low = λ r x k n old new p q. m.choice_laws.gives_low r x k (exchange a b n) (seen_below a b old) (seen_below a b new) (λ i. p (exchange a b i)) (λ i. q (exchange a b i));
        gives_high = λ r x k n old new p q. m.choice_laws.gives_high r x k (exchange a b n) (seen_below a b old) (seen_below a b new) (λ i. p (exchange a b i)) (λ i. q (exchange a b i));
        opens_by_sight = λ r x k old new old' new' h.
            m.choice_laws.opens_by_sight r x k (seen_below a b old) (seen_below a b new) (seen_below a b old') (seen_below a b new') (alike_below r x old new old' new' h);
        gives_by_sight = λ r x k n old new old' new' h.
            m.choice_laws.gives_by_sight r x k (exchange a b n) (seen_below a b old) (seen_below a b new) (seen_below a b old') (seen_below a b new') (alike_below r x old new old' new' h);
      }

pub hidden_choice_laws : (m : Meaning) (n : ℕ) → ChoiceLaws (hidden_outline m.outline n) (hidden_acts m n)
hidden_choice_laws m n =
    choice_laws (fault_of_hidden m.outline n) (hidden_tables m.outline n) m.acts
    record {
      some_choice = m.choice_laws.some_choice;
      few_choices = m.choice_laws.few_choices;
      no_choice = m.choice_laws.no_choice;
      absent_closed = m.choice_laws.absent_closed;
      absent_gives = m.choice_laws.absent_gives;
      other_gives = m.choice_laws.other_gives;
      gives_low = m.choice_laws.gives_low;
      gives_high = m.choice_laws.gives_high;
      opens_by_sight = λ r a k old new old' new' h. m.choice_laws.opens_by_sight r a k old new old' new' (record { awaited = h.awaited; read = h.read });
      gives_by_sight = λ r a k n old new old' new' h. m.choice_laws.gives_by_sight r a k n old new old' new' (record { awaited = h.awaited; read = h.read });
    }

module _ (l r : Meaning) where
  abbrev count : ℕ
  count = l.outline.atoms

  abbrev whole : OutlineFacts
  whole = outline_with None (joined_tables l.outline r.outline)

  -- what looks alike to an atom of the whole looks alike to it in its part
  alike_left : (k : Round) (a : ℕ) (old new old' new' : Valuation) → a < count → Alike whole k a old new old' new' → Alike l.outline k a old new old' new'
  alike_left k a old new old' new' lt h =
      record {
        awaited = λ n e. h.awaited n (by_atom_left count (λ x. l.outline.awaits x n) (λ x. r.outline.awaits x n) a lt ∙ e);
        read = λ u n e. h.read u n (by_atom_left count (λ x. l.outline.reads x n) (λ x. r.outline.reads x n) a lt ∙ e);
      }

  alike_right : (k : Round) (a : ℕ) (old new old' new' : Valuation) → count ≤ a → Alike whole k a old new old' new' → Alike r.outline k (a - count) old new old' new'
  alike_right k a old new old' new' le h =
      record {
        awaited = λ n e. h.awaited n (by_atom_right count (λ x. l.outline.awaits x n) (λ x. r.outline.awaits x n) a le ∙ e);
        read = λ u n e. h.read u n (by_atom_right count (λ x. l.outline.reads x n) (λ x. r.outline.reads x n) a le ∙ e);
      }

  joined_sound : ChoiceLaws whole (joined_choices count l.acts r.acts)
  joined_sound =
      record {
        some_choice = λ k a h. by_atom_both count (l.acts.choices k) (r.acts.choices k) a (λ c. 1 ≤ c) (l.choice_laws.some_choice k a) (λ le. r.choice_laws.some_choice k (a - count) (omega arith));
        few_choices = λ k a. by_atom_both count (l.acts.choices k) (r.acts.choices k) a (λ c. c ≤ most_choices k) (λ _. l.choice_laws.few_choices k a) (λ _. r.choice_laws.few_choices k (a - count));
        no_choice = λ k a h. by_atom_both count (l.acts.choices k) (r.acts.choices k) a (λ c. c ≡ 0) (λ lt. absurd (omega arith)) (λ le. r.choice_laws.no_choice k (a - count) (omega arith));
        absent_closed = λ k a i old new.
            elim (nat_lt a count) as (λ t. cond t (l.acts.choices k a) (r.acts.choices k (a - count)) ≤ i → cond t (l.acts.opens k a i old new) (r.acts.opens k (a - count) i old new) ≡ false)
            [ true ↦ l.choice_laws.absent_closed k a i old new | false ↦ r.choice_laws.absent_closed k (a - count) i old new ];
        absent_gives = λ k a i n old new.
            elim (nat_lt a count) as (λ t. cond t (l.acts.choices k a) (r.acts.choices k (a - count)) ≤ i → cond t (l.acts.gives k a i n old new) (r.acts.gives k (a - count) i n old new) ≡ pos 0)
            [ true ↦ l.choice_laws.absent_gives k a i n old new | false ↦ r.choice_laws.absent_gives k (a - count) i n old new ];
        other_gives = λ k a i n old new.
            elim (nat_lt a count) as (λ t. cond t (l.outline.controls a n) (r.outline.controls (a - count) n) ≡ false → cond t (l.acts.gives k a i n old new) (r.acts.gives k (a - count) i n old new) ≡ pos 0)
            [ true ↦ l.choice_laws.other_gives k a i n old new | false ↦ r.choice_laws.other_gives k (a - count) i n old new ];
        gives_low = λ k a i n old new p q.
            by_atom_both count (λ x. l.acts.gives k x i n old new) (λ x. r.acts.gives k x i n old new) a (λ z. negsuc 32767 ≤ℤ z)
            (λ _. l.choice_laws.gives_low k a i n old new p q) (λ _. r.choice_laws.gives_low k (a - count) i n old new p q);
        gives_high = λ k a i n old new p q.
            by_atom_both count (λ x. l.acts.gives k x i n old new) (λ x. r.acts.gives k x i n old new) a (λ z. z ≤ℤ pos 32767)
            (λ _. l.choice_laws.gives_high k a i n old new p q) (λ _. r.choice_laws.gives_high k (a - count) i n old new p q);
        opens_by_sight = λ k a i old new old' new' h.
            by_atom_same count (λ x. l.acts.opens k x i old new) (λ x. l.acts.opens k x i old' new') (λ x. r.acts.opens k x i old new) (λ x. r.acts.opens k x i old' new') a
            (λ lt. l.choice_laws.opens_by_sight k a i old new old' new' (alike_left k a old new old' new' lt h))
            (λ le. r.choice_laws.opens_by_sight k (a - count) i old new old' new' (alike_right k a old new old' new' le h));
        gives_by_sight = λ k a i n old new old' new' h.
            by_atom_same count (λ x. l.acts.gives k x i n old new) (λ x. l.acts.gives k x i n old' new') (λ x. r.acts.gives k x i n old new) (λ x. r.acts.gives k x i n old' new') a
            (λ lt. l.choice_laws.gives_by_sight k a i n old new old' new' (alike_left k a old new old' new' lt h))
            (λ le. r.choice_laws.gives_by_sight k (a - count) i n old new old' new' (alike_right k a old new old' new' le h));
      }

  pub joined_choice_laws : ChoiceLaws (joined_outline l.outline r.outline) (joined_acts l r)
  joined_choice_laws = choice_laws (fault_of_joined l.outline r.outline) (joined_tables l.outline r.outline) (joined_choices count l.acts r.acts) joined_sound
