-- The outlines of renamed, hidden and joined drawings keep the laws of outlines.
use Rattle.std.specs.Prelude.{◌≡◌, ℕ, ◌+◌, ◌-◌, ◌<◌, ◌≤◌, Bool, true, false, ◌⊎◌, is_some, Some, None, Option, ◌==◌, ◌≢◌, nat_lt, refl}
use Rattle.std.proofs.Common.{inl, inr, sym, ap, ◌∙◌, not-suc-le-zero, arith}
use Rattle.std.proofs.lemmas.Bool.{true≢false, false≢true, cond_both, cond-true, cond-false, cases_Bool, cases_lt, ltb-true, ltb-false, lt-ltb, le-ltb, eqb-true}
use Rattle.model.specs.Meanings.{OutlineFacts, OutlineLaws}
use Rattle.model.specs.Tests.{some}
use Rattle.model.proofs.Bounded.{some_along}
use Rattle.model.specs.declared.Fault.{Fault}
use Rattle.model.specs.declared.Kind.{Kind}
use Rattle.model.specs.declared.Kind.TheVariants.{Private, Interface, External}
use Rattle.model.specs.Exchange.{exchange}
use Rattle.composition.specs.laws.Exchange.{exchange_twice, exchange_from, exchange_within}
use Rattle.composition.specs.Allowed.{MayRename, MayHide}
use Rattle.composition.specs.laws.Faults.{some≢none, none_from, Numbered, numbered_at, renames, renamed_numbered, hides, hidden_numbered, Joins, joins, joined_numbered}
use Rattle.composition.specs.Faults.{is_private, is_interface, fault_of_renamed, fault_of_hidden, fault_of_joined}
use Rattle.composition.specs.Outlines.{outline_with, renamed_tables, renamed_outline, hidden_tables, hidden_outline, joined_kind, by_atom, joined_tables, joined_outline}

numbered_none : (f : Fault) → None ≡ Some f → 1 ≤ f.number
numbered_none f e = absurd (some≢none f (sym e))

-- an outline with a fault has no table to keep a law, and one without keeps those of its tables
outline_laws : (f : Option Fault) (o : OutlineFacts) → 1 ≤ o.layers → o.layers ≤ 255 → Numbered f → (f ≡ None → OutlineLaws (outline_with None o)) → OutlineLaws (outline_with f o)
outline_laws None o low high number laws = laws refl
outline_laws (Some f) o low high number laws =
    record {
      some_layer = low;
      layers_told = high;
      names = λ n e. absurd (false≢true e);
      top_from_1 = λ n e. absurd (false≢true e);
      top_to_255 = λ n. omega arith;
      no_top = λ n e. refl;
      few_atoms = omega arith;
      controls_known = λ a n e. absurd (false≢true e);
      reads_known = λ a n e. absurd (false≢true e);
      awaits_known = λ a n e. absurd (false≢true e);
      controls_some = λ a h. absurd (not-suc-le-zero h);
      controls_own = λ a n e k. false≢true e;
      fault_numbered = numbered_at (Some f) number;
      fault_empty = λ e. (refl, λ n. refl);
    }

module _ (o : OutlineFacts) (laws : OutlineLaws o) (a b : ℕ) where
  renamed_sound : MayRename o a b → OutlineLaws (outline_with None (renamed_tables o a b))
  renamed_sound fine =
      record {
        some_layer = omega arith;
        layers_told = omega arith;
        names = λ n e. exchange_from 32 a b n (laws.names a fine.old_there) fine.new_name (laws.names (exchange a b n) e);
        top_from_1 = λ n. laws.top_from_1 (exchange a b n);
        top_to_255 = λ n. laws.top_to_255 (exchange a b n);
        no_top = λ n. laws.no_top (exchange a b n);
        few_atoms = laws.few_atoms;
        controls_known = λ x n. laws.controls_known x (exchange a b n);
        reads_known = λ x n. laws.reads_known x (exchange a b n);
        awaits_known = λ x n. laws.awaits_known x (exchange a b n);
        controls_some = λ x h.
            some_along (o.controls x) (λ n. o.controls x (exchange a b n)) (exchange a b) 32
            (λ n lt e. (exchange_within 32 a b n (laws.names a fine.old_there) fine.new_name lt, ap (o.controls x) (exchange_twice a b n) ∙ e))
            (laws.controls_some x h);
        controls_own = λ x n. laws.controls_own x (exchange a b n);
        fault_numbered = numbered_none;
        fault_empty = λ e. absurd (false≢true e);
      }

  pub renamed_outline_laws : OutlineLaws (renamed_outline o a b)
  renamed_outline_laws =
      outline_laws (fault_of_renamed o a b) (renamed_tables o a b) (omega arith) (omega arith) (renamed_numbered o a b laws) (λ e. renamed_sound (renames o a b e))

private_external : Some Private ≡ Some External → ⊥
private_external e = true≢false (ap is_private e)

module _ (o : OutlineFacts) (laws : OutlineLaws o) (name : ℕ) where
  pub hidden_there : MayHide o name → (n : ℕ) → is_some ((hidden_tables o name).kind n) ≡ is_some (o.kind n)
  hidden_there fine n =
      cond_both (n == name) (Some Private) (o.kind n) (λ k. is_some k ≡ is_some (o.kind n))
      (λ e. sym (ap is_some (ap o.kind (eqb-true n name e) ∙ fine.interface))) (λ e. refl)

  hidden_sound : MayHide o name → OutlineLaws (outline_with None (hidden_tables o name))
  hidden_sound fine =
      record {
        some_layer = omega arith;
        layers_told = omega arith;
        names = λ n e. laws.names n (sym (hidden_there fine n) ∙ e);
        top_from_1 = λ n e. laws.top_from_1 n (sym (hidden_there fine n) ∙ e);
        top_to_255 = laws.top_to_255;
        no_top = λ n e. laws.no_top n (none_from (o.kind n) (sym (hidden_there fine n) ∙ ap is_some e));
        few_atoms = laws.few_atoms;
        controls_known = λ a n e. let known = laws.controls_known a n e in (known.0, hidden_there fine n ∙ known.1);
        reads_known = λ a n e. let known = laws.reads_known a n e in (known.0, hidden_there fine n ∙ known.1);
        awaits_known = λ a n e. let known = laws.awaits_known a n e in (known.0, hidden_there fine n ∙ known.1);
        controls_some = laws.controls_some;
        controls_own = λ a n e. cond_both (n == name) (Some Private) (o.kind n) (λ k. k ≢ Some External) (λ _. private_external) (λ _. laws.controls_own a n e);
        fault_numbered = numbered_none;
        fault_empty = λ e. absurd (false≢true e);
      }

  pub hidden_outline_laws : OutlineLaws (hidden_outline o name)
  hidden_outline_laws =
      outline_laws (fault_of_hidden o name) (hidden_tables o name) (omega arith) (omega arith) (hidden_numbered o name laws) (λ e. hidden_sound (hides o name e))

-- what is told of an atom of either part
module _ {A : Type 0} (count : ℕ) (left right : ℕ → A) (a : ℕ) where
  pub by_atom_both : (P : A → Type 0) → (a < count → P (left a)) → (count ≤ a → P (right (a - count))) → P (by_atom count left right a)
  by_atom_both P h k = cond_both (nat_lt a count) (left a) (right (a - count)) P (λ e. h (ltb-true a count e)) (λ e. k (ltb-false a count e))

  pub by_atom_left : a < count → by_atom count left right a ≡ left a
  by_atom_left h = cond-true (nat_lt a count) (left a) (right (a - count)) (lt-ltb a count h)

  pub by_atom_right : count ≤ a → by_atom count left right a ≡ right (a - count)
  by_atom_right h = cond-false (nat_lt a count) (left a) (right (a - count)) (le-ltb a count h)

pub joined_some_left : (j k : Option Kind) → is_some j ≡ true → is_some (joined_kind j k) ≡ true
joined_some_left None k e = absurd (false≢true e)
joined_some_left (Some j) None e = refl
joined_some_left (Some j) (Some k) e = refl

pub joined_some_right : (j k : Option Kind) → is_some k ≡ true → is_some (joined_kind j k) ≡ true
joined_some_right None k e = e
joined_some_right (Some j) None e = refl
joined_some_right (Some j) (Some k) e = refl

-- a name of the whole that is none of the left part's is the right part's
pub joined_some_rest : (j k : Option Kind) → is_some (joined_kind j k) ≡ true → is_some j ≡ false → is_some k ≡ true
joined_some_rest None k e f = e
joined_some_rest (Some j) k e f = absurd (true≢false f)

-- a name that a part controls is not external in the whole
own_left : (j k : Option Kind) → is_some j ≡ true → (j ≢ Some External) → joined_kind j k ≢ Some External
own_left None k e h f = false≢true e
own_left (Some j) None e h f = h f
own_left (Some Private) (Some k) e h f = private_external f
own_left (Some Interface) (Some k) e h f = true≢false (ap is_interface f)
own_left (Some External) (Some k) e h f = h refl

own_right : (j k : Option Kind) → is_some k ≡ true → (k ≢ Some External) → joined_kind j k ≢ Some External
own_right None k e h f = h f
own_right (Some j) None e h f = false≢true e
own_right (Some Private) (Some k) e h f = private_external f
own_right (Some Interface) (Some k) e h f = true≢false (ap is_interface f)
own_right (Some External) (Some k) e h f = h f

module _ (l r : OutlineFacts) (left : OutlineLaws l) (right : OutlineLaws r) where
  -- a set that names variables of its part names variables of the whole
  known : (of_left of_right : ℕ → ℕ → Bool) →
      ((a n : ℕ) → of_left a n ≡ true → (a < l.atoms) × (is_some (l.kind n) ≡ true)) →
      ((a n : ℕ) → of_right a n ≡ true → (a < r.atoms) × (is_some (r.kind n) ≡ true)) →
      (a n : ℕ) → by_atom l.atoms (λ x. of_left x n) (λ x. of_right x n) a ≡ true →
      (a < l.atoms + r.atoms) × (is_some (joined_kind (l.kind n) (r.kind n)) ≡ true)
  known of_left of_right h k a n =
      by_atom_both l.atoms (λ x. of_left x n) (λ x. of_right x n) a (λ t. t ≡ true → (a < l.atoms + r.atoms) × (is_some (joined_kind (l.kind n) (r.kind n)) ≡ true))
      (λ lt e. let part = h a n e in (omega arith, joined_some_left (l.kind n) (r.kind n) part.1))
      (λ le e. let part = k (a - l.atoms) n e in (omega arith, joined_some_right (l.kind n) (r.kind n) part.1))

  joined_sound : Joins l r → OutlineLaws (outline_with None (joined_tables l r))
  joined_sound fine =
      record {
        some_layer = omega arith;
        layers_told = omega arith;
        names = λ n e. part n e (λ h. left.names n h) (λ _ h. right.names n h);
        top_from_1 = λ n e.
            cond_both (is_some (l.kind n)) (l.top n) (r.top n) (λ t. 1 ≤ t) (left.top_from_1 n)
            (λ f. right.top_from_1 n (joined_some_rest (l.kind n) (r.kind n) e f));
        top_to_255 = λ n. cond_both (is_some (l.kind n)) (l.top n) (r.top n) (λ t. t ≤ 255) (λ _. left.top_to_255 n) (λ _. right.top_to_255 n);
        no_top = λ n e.
            cond_both (is_some (l.kind n)) (l.top n) (r.top n) (λ t. t ≡ 0)
            (λ f. absurd (true≢false (sym (joined_some_left (l.kind n) (r.kind n) f) ∙ ap is_some e)))
            (λ f. right.no_top n (sym (ap (λ k. joined_kind k (r.kind n)) (none_from (l.kind n) f)) ∙ e));
        few_atoms = fine.room;
        controls_known = known l.controls r.controls left.controls_known right.controls_known;
        reads_known = known l.reads r.reads left.reads_known right.reads_known;
        awaits_known = known l.awaits r.awaits left.awaits_known right.awaits_known;
        controls_some = λ a h. some_controlled a h (cases_lt a l.atoms);
        controls_own = λ a n.
            by_atom_both l.atoms (λ x. l.controls x n) (λ x. r.controls x n) a (λ t. t ≡ true → joined_kind (l.kind n) (r.kind n) ≢ Some External)
            (λ _ e. own_left (l.kind n) (r.kind n) (left.controls_known a n e).1 (left.controls_own a n e))
            (λ _ e. own_right (l.kind n) (r.kind n) (right.controls_known (a - l.atoms) n e).1 (right.controls_own (a - l.atoms) n e));
        fault_numbered = numbered_none;
        fault_empty = λ e. absurd (false≢true e);
      }
    where
      some_controlled : (a : ℕ) → a < l.atoms + r.atoms → (a < l.atoms) ⊎ (l.atoms ≤ a) → some ((joined_tables l r).controls a) 32 ≡ true
      some_controlled a h (inl lt) =
          some_along (l.controls a) ((joined_tables l r).controls a) (λ n. n) 32 (λ n inside e. (inside, by_atom_left l.atoms (λ x. l.controls x n) (λ x. r.controls x n) a lt ∙ e)) (left.controls_some a lt)
      some_controlled a h (inr le) =
          some_along (r.controls (a - l.atoms)) ((joined_tables l r).controls a) (λ n. n) 32 (λ n inside e. (inside, by_atom_right l.atoms (λ x. l.controls x n) (λ x. r.controls x n) a le ∙ e)) (right.controls_some (a - l.atoms) (omega arith))

      part : {P : Type 0} (n : ℕ) → is_some (joined_kind (l.kind n) (r.kind n)) ≡ true → (is_some (l.kind n) ≡ true → P) → (is_some (l.kind n) ≡ false → is_some (r.kind n) ≡ true → P) → P
      part n e h k = elim (cases_Bool (is_some (l.kind n))) [ inl t ↦ h t | inr f ↦ k f (joined_some_rest (l.kind n) (r.kind n) e f) ]

  pub joined_outline_laws : OutlineLaws (joined_outline l r)
  joined_outline_laws =
      outline_laws (fault_of_joined l r) (joined_tables l r) (omega arith) (omega arith) (joined_numbered l r left right) (λ e. joined_sound (joins l r e))
