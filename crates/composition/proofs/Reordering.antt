-- Joins in another order or grouping.
use Rattle.std.proofs.Common.{◌≡◌, ℕ, ◌+◌, ◌-◌, ◌<◌, ◌≤◌, true, false, cond, ◌⊎◌, is_some, Some, None, Option, sym, refl, ap, ◌∙◌, subst, inl, inr, arith}
use Rattle.std.proofs.lemmas.Bool.{cases_Bool, cases_lt, cond_both, cond-false}
use Rattle.std.proofs.lemmas.Bool.Decides.{same_from_decides, Decides-like}
use Rattle.model.specs.Meanings.{OutlineFacts, ChoiceFacts, Meaning}
use Rattle.model.specs.States.{yields}
use Rattle.model.specs.declared.Kind.{Kind}
use Rattle.composition.proofs.Clashes.{joined_kind_flip, joined_kind_regroup}
use Rattle.composition.proofs.Fitting.{fits, join_sound, fits_flip, fits_regroup, fits_regroup_back, top_left, top_right}
use Rattle.composition.proofs.Joining.{left_part, right_part, yields_joined}
use Rattle.composition.proofs.Parts.{state_same, yields_same}
use Rattle.composition.specs.Acts.{acts_with, joined_choices}
use Rattle.composition.specs.Same.{SameAtom, SameAnswers}
use Rattle.composition.specs.Allowed.{Fits}
use Rattle.composition.specs.laws.Faults.{none_from, Joins, joins}
use Rattle.composition.specs.Faults.{fault_of_joined}
use Rattle.composition.specs.Meanings.{joined}
use Rattle.composition.specs.laws.Outlines.{by_atom_left, by_atom_right}
use Rattle.composition.specs.Outlines.{sound_or, by_atom, outline_with, joined_kind, joined_tables, joined_outline}
use Rattle.composition.specs.Statements.{Swaps, Regroups}

-- two atoms that answer as a third answer alike
same_atoms : {m : Meaning} {a : ℕ} {m' : Meaning} {a' : ℕ} {p : Meaning} {x : ℕ} → SameAtom m a p x → SameAtom m' a' p x → SameAtom m a m' a'
same_atoms f g =
    record {
      controls = λ n. f.controls n ∙ sym (g.controls n);
      reads = λ n. f.reads n ∙ sym (g.reads n);
      awaits = λ n. f.awaits n ∙ sym (g.awaits n);
      choices = λ r. f.choices r ∙ sym (g.choices r);
      opens = λ r k old new. f.opens r k old new ∙ sym (g.opens r k old new);
      gives = λ r k n old new. f.gives r k n old new ∙ sym (g.gives r k n old new);
    }

-- without a fault the join tells its tables
tables : (l r : OutlineFacts) → fault_of_joined l r ≡ None → joined_outline l r ≡ joined_tables l r
tables l r e = ap (λ f. outline_with f (joined_tables l r)) e

module _ (l r : Meaning) (sound : fault_of_joined l.outline r.outline ≡ None) where
  flat : Joins l.outline r.outline
  flat = joins l.outline r.outline sound

  fit : Fits l.outline r.outline
  fit = fits l r flat

  other : fault_of_joined r.outline l.outline ≡ None
  other = join_sound r.outline l.outline flat.sound_right flat.sound_left (fits_flip l.outline r.outline fit)

  tops : (n : ℕ) → (joined l r).outline.top n ≡ (joined r l).outline.top n
  tops n =
      ap (λ o. o.top n) (tables l.outline r.outline sound) ∙ go (cases_Bool (is_some (l.outline.kind n))) ∙ sym (ap (λ o. o.top n) (tables r.outline l.outline other))
    where
      back : Fits r.outline l.outline
      back = fits_flip l.outline r.outline fit

      go : (is_some (l.outline.kind n) ≡ true) ⊎ (is_some (l.outline.kind n) ≡ false) → (joined_tables l.outline r.outline).top n ≡ (joined_tables r.outline l.outline).top n
      go (inl e) = top_left l.outline r.outline fit n e ∙ sym (top_right r.outline l.outline back n e)
      go (inr e) =
          cond-false (is_some (l.outline.kind n)) (l.outline.top n) (r.outline.top n) e ∙
          cond_both (is_some (r.outline.kind n)) (r.outline.top n) (l.outline.top n) (λ t. r.outline.top n ≡ t) (λ _. refl)
          (λ f. r.outline_laws.no_top n (none_from (r.outline.kind n) f) ∙ sym (l.outline_laws.no_top n (none_from (l.outline.kind n) e)))

  pub swaps : Swaps l r
  swaps =
      record {
        fault = other;
        layers = omega arith;
        kind = λ n.
            ap (λ o. o.kind n) (tables l.outline r.outline sound) ∙ joined_kind_flip (l.outline.kind n) (r.outline.kind n) (fit.apart n) ∙
            sym (ap (λ o. o.kind n) (tables r.outline l.outline other));
        top = tops;
        atoms =
            let turned : l.outline.atoms + r.outline.atoms ≡ r.outline.atoms + l.outline.atoms = omega arith in
            ap (λ o. o.atoms) (tables l.outline r.outline sound) ∙ turned ∙ sym (ap (λ o. o.atoms) (tables r.outline l.outline other));
        left = λ a h. same_atoms ((left_part l r sound).atom a h) ((right_part r l other).atom a h);
        right = λ a h. same_atoms ((right_part l r sound).atom a h) ((left_part r l other).atom a h);
        rounds = λ k s t.
            same_from_decides (yields (joined l r) k s t) (yields (joined r l) k s t) (yields_joined l r sound k s t)
            (Decides-like (yields (joined r l) k s t) (λ h. (state_same (joined l r) (joined r l) tops t ∙ h.0, h.2, h.1)) (λ h. (sym (state_same (joined l r) (joined r l) tops t) ∙ h.0, h.2, h.1)) (yields_joined r l other k s t));
      }

by_atom_regroup : {A : Type 0} (i j : ℕ) (f g h : ℕ → A) (a : ℕ) → by_atom (i + j) (λ x. by_atom i f g x) h a ≡ by_atom i f (λ x. by_atom j g h x) a
by_atom_regroup {A} i j f g h a = go (cases_lt a i) (cases_lt a (i + j))
  where
    first : ℕ → A
    first x = by_atom i f g x

    second : ℕ → A
    second x = by_atom j g h x

    go : (a < i) ⊎ (i ≤ a) → (a < i + j) ⊎ (i + j ≤ a) → by_atom (i + j) first h a ≡ by_atom i f second a
    go (inl p) q = by_atom_left (i + j) first h a (omega arith) ∙ by_atom_left i f g a p ∙ sym (by_atom_left i f second a p)
    go (inr p) (inl q) = by_atom_left (i + j) first h a q ∙ by_atom_right i f g a p ∙ sym (by_atom_right i f second a p ∙ by_atom_left j g h (a - i) (omega arith))
    go (inr p) (inr q) =
        let same : a - (i + j) ≡ a - i - j = omega arith in
        by_atom_right (i + j) first h a q ∙ ap h same ∙ sym (by_atom_right i f second a p ∙ by_atom_right j g h (a - i) (omega arith))

top_regroup : (i j : Option Kind) (x y z : ℕ) → cond (is_some (joined_kind i j)) (cond (is_some i) x y) z ≡ cond (is_some i) x (cond (is_some j) y z)
top_regroup None None x y z = refl
top_regroup None (Some j) x y z = refl
top_regroup (Some i) None x y z = refl
top_regroup (Some i) (Some j) x y z = refl

-- no join of the three, in either grouping, has a fault
record AllSound (l m r : Meaning) : Type 0 where
  left : fault_of_joined l.outline m.outline ≡ None
  left_whole : fault_of_joined (joined l m).outline r.outline ≡ None
  right : fault_of_joined m.outline r.outline ≡ None
  right_whole : fault_of_joined l.outline (joined m r).outline ≡ None

module _ (l m r : Meaning) where
  from_left : fault_of_joined (joined l m).outline r.outline ≡ None → AllSound l m r
  from_left e =
      let outer = joins (joined l m).outline r.outline e in
      let inner = joins l.outline m.outline outer.sound_left in
      let both = fits_regroup l.outline m.outline r.outline (fits l m inner) (subst (λ o. Fits o r.outline) (tables l.outline m.outline outer.sound_left) (fits (joined l m) r outer)) in
      let right : fault_of_joined m.outline r.outline ≡ None = join_sound m.outline r.outline inner.sound_right outer.sound_right both.0 in
      record {
        left = outer.sound_left;
        left_whole = e;
        right = right;
        right_whole = join_sound l.outline (joined m r).outline inner.sound_left right (subst (Fits l.outline) (sym (tables m.outline r.outline right)) both.1);
      }

  from_right : fault_of_joined l.outline (joined m r).outline ≡ None → AllSound l m r
  from_right e =
      let outer = joins l.outline (joined m r).outline e in
      let inner = joins m.outline r.outline outer.sound_right in
      let both = fits_regroup_back l.outline m.outline r.outline (fits m r inner) (subst (Fits l.outline) (tables m.outline r.outline outer.sound_right) (fits l (joined m r) outer)) in
      let left : fault_of_joined l.outline m.outline ≡ None = join_sound l.outline m.outline outer.sound_left inner.sound_left both.0 in
      record {
        left = left;
        left_whole = join_sound (joined l m).outline r.outline left inner.sound_right (subst (λ o. Fits o r.outline) (sym (tables l.outline m.outline left)) both.1);
        right = outer.sound_right;
        right_whole = e;
      }

  module _ (all : AllSound l m r) where
    left_outline : (joined (joined l m) r).outline ≡ joined_tables (joined_tables l.outline m.outline) r.outline
    left_outline = tables (joined l m).outline r.outline all.left_whole ∙ ap (λ o. joined_tables o r.outline) (tables l.outline m.outline all.left)

    right_outline : (joined l (joined m r)).outline ≡ joined_tables l.outline (joined_tables m.outline r.outline)
    right_outline = tables l.outline (joined m r).outline all.right_whole ∙ ap (joined_tables l.outline) (tables m.outline r.outline all.right)

    abbrev left_choices : ChoiceFacts
    left_choices = joined_choices (l.outline.atoms + m.outline.atoms) (joined_choices l.outline.atoms l.acts m.acts) r.acts

    abbrev right_choices : ChoiceFacts
    right_choices = joined_choices l.outline.atoms l.acts (joined_choices m.outline.atoms m.acts r.acts)

    left_acts : (joined (joined l m) r).acts ≡ left_choices
    left_acts =
        ap (λ f. acts_with f (joined_choices (joined l m).outline.atoms (joined l m).acts r.acts)) all.left_whole ∙
        ap (λ f. joined_choices (sound_or f 0 (l.outline.atoms + m.outline.atoms)) (acts_with f (joined_choices l.outline.atoms l.acts m.acts)) r.acts) all.left

    right_acts : (joined l (joined m r)).acts ≡ right_choices
    right_acts =
        ap (λ f. acts_with f (joined_choices l.outline.atoms l.acts (joined m r).acts)) all.right_whole ∙
        ap (λ f. joined_choices l.outline.atoms l.acts (acts_with f (joined_choices m.outline.atoms m.acts r.acts))) all.right

    -- what both groupings tell is the same if it is the same in their tables
    of_outlines : {A : Type 0} (q : OutlineFacts → A) → q (joined_tables (joined_tables l.outline m.outline) r.outline) ≡ q (joined_tables l.outline (joined_tables m.outline r.outline)) →
        q (joined (joined l m) r).outline ≡ q (joined l (joined m r)).outline
    of_outlines q e = ap q left_outline ∙ e ∙ sym (ap q right_outline)

    of_choices : {A : Type 0} (q : ChoiceFacts → A) → q left_choices ≡ q right_choices → q (joined (joined l m) r).acts ≡ q (joined l (joined m r)).acts
    of_choices q e = ap q left_acts ∙ e ∙ sym (ap q right_acts)

    of_atom : {A : Type 0} (f g h : ℕ → A) (a : ℕ) →
        by_atom (l.outline.atoms + m.outline.atoms) (λ x. by_atom l.outline.atoms f g x) h a ≡ by_atom l.outline.atoms f (λ x. by_atom m.outline.atoms g h x) a
    of_atom f g h a = by_atom_regroup l.outline.atoms m.outline.atoms f g h a

    regrouped : SameAnswers (joined (joined l m) r) (joined l (joined m r))
    regrouped =
        record {
          fault = all.left_whole ∙ sym all.right_whole;
          kind = λ n. of_outlines (λ o. o.kind n) (joined_kind_regroup (l.outline.kind n) (m.outline.kind n) (r.outline.kind n));
          top = λ n. of_outlines (λ o. o.top n) (top_regroup (l.outline.kind n) (m.outline.kind n) (l.outline.top n) (m.outline.top n) (r.outline.top n));
          atoms = of_outlines (λ o. o.atoms) (omega arith);
          atom = λ a.
              record {
                controls = λ n. of_outlines (λ o. o.controls a n) (of_atom (λ x. l.outline.controls x n) (λ x. m.outline.controls x n) (λ x. r.outline.controls x n) a);
                reads = λ n. of_outlines (λ o. o.reads a n) (of_atom (λ x. l.outline.reads x n) (λ x. m.outline.reads x n) (λ x. r.outline.reads x n) a);
                awaits = λ n. of_outlines (λ o. o.awaits a n) (of_atom (λ x. l.outline.awaits x n) (λ x. m.outline.awaits x n) (λ x. r.outline.awaits x n) a);
                choices = λ k. of_choices (λ c. c.choices k a) (of_atom (l.acts.choices k) (m.acts.choices k) (r.acts.choices k) a);
                opens = λ k i old new.
                    of_choices (λ c. c.opens k a i old new) (of_atom (λ x. l.acts.opens k x i old new) (λ x. m.acts.opens k x i old new) (λ x. r.acts.opens k x i old new) a);
                gives = λ k i n old new.
                    of_choices (λ c. c.gives k a i n old new) (of_atom (λ x. l.acts.gives k x i n old new) (λ x. m.acts.gives k x i n old new) (λ x. r.acts.gives k x i n old new) a);
              };
        }

  pub regroups : Regroups l m r
  regroups =
      record {
        there = λ e. (from_left e).right_whole;
        back = λ e. (from_right e).left_whole;
        layers = omega arith;
        same = λ e. regrouped (from_left e);
        rounds = λ e. let same = regrouped (from_left e) in yields_same (joined (joined l m) r) (joined l (joined m r)) same.top same.atoms same.atom;
      }
