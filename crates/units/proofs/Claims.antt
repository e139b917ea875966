-- What a claim says of a module, and of the modules that are made of it.
use Rattle.std.proofs.Common.{◌≡◌, ℕ, zero, suc, ◌<◌, Bool, true, false, ◌&&◌, leb, List, [], ◌∷◌, is_some, Some, None, sym, refl, ap, ◌∙◌, subst, le_refl, arith}
use Rattle.std.proofs.lemmas.Bool.{and_from, and_parts, both_ways, le-leb}
use Rattle.std.specs.List.{AllByRecursion as All, slice_get}
use Rattle.model.specs.Exchange.{exchange}
use Rattle.composition.specs.laws.Faults.{hides}
use Rattle.composition.specs.Faults.{fault_of_renamed, fault_of_hidden, fault_of_joined}
use Rattle.composition.specs.Meanings.{renamed, hidden, joined}
use Rattle.composition.specs.laws.Outlines.{hidden_there, joined_some_left, joined_some_right}
use Rattle.composition.specs.Outlines.{hidden_tables, joined_kind}
use Rattle.composition.specs.Views.{projected, exchanged}
use Rattle.composition.proofs.Faults.{sound_is}
use Rattle.composition.proofs.Hiding.{hidden_corresponds}
use Rattle.composition.proofs.Joining.{joined_projects}
use Rattle.composition.proofs.Renaming.{old_name, new_name, renamed_corresponds}
use Rattle.composition.proofs.Views.{projected_at, exchanged_at}
use Rattle.language.specs.Expressions.{Number, constant, old_value, new_value, sum, difference, Truth, equal, less, negation, conjunction, disjunction, always, truth_levels, truth_value, Seen, number_sees, truth_sees, seen_swapped, swapped, truth_renamed}
use Rattle.language.specs.laws.Expressions.{truth_by_sight}
use Rattle.language.proofs.Renaming.{renaming_exchanges_names}
use Rattle.model.specs.Meanings.{Meaning}
use Rattle.model.specs.States.{value, nothing, Reachable}
use Rattle.units.specs.Promises.{MarkIsTrue}
use Rattle.units.specs.Units.{Claim, Mark, open_mark, held, broken, holds, claim_sight, claim_renamed, claim_joined, mark_joined, claims_marked}

-- it holds in every reachable state
abbrev pub HoldsThroughout : Meaning → Claim → Type 0
HoldsThroughout m c = (t : List ℕ) → Reachable m t → holds c t ≡ true

-- it speaks of the module's variables alone, and its mark is true
pub record Right (m : Meaning) (c : Claim) : Type 0 where
  pub sees : truth_sees (claim_sight m) c.says ≡ true
  pub marked : MarkIsTrue m c

-- marks

pub open≢held : open_mark ≡ held → ⊥
open≢held e = let z : ◌≡◌ {A = ℕ} 0 1 = cc in omega arith

pub open≢broken : open_mark ≡ broken → ⊥
open≢broken e = let z : ◌≡◌ {A = ℕ} 0 1 = cc in omega arith

pub held≢broken : held ≡ broken → ⊥
held≢broken e = let z : ◌≡◌ {A = ℕ} 0 1 = cc in omega arith

pub open_is_true : (m : Meaning) (p : Truth) → MarkIsTrue m (record { says = p; mark = open_mark })
open_is_true m p = record { held_holds = λ e. absurd (open≢held e); broken_fails = λ e. absurd (open≢broken e) }

pub held_is_true : (m : Meaning) (p : Truth) → HoldsThroughout m (record { says = p; mark = held }) → MarkIsTrue m (record { says = p; mark = held })
held_is_true m p h = record { held_holds = λ _. h; broken_fails = λ e. absurd (held≢broken e) }

pub broken_is_true : (m : Meaning) (p : Truth) → (t : List ℕ) × Reachable m t × (holds (record { says = p; mark = broken }) t ≡ false) → MarkIsTrue m (record { says = p; mark = broken })
broken_is_true m p h = record { held_holds = λ e. absurd (held≢broken (sym e)); broken_fails = λ _. h }

-- all claims of a list

pub all_nth : {X : Type 0} (P : X → Type 0) (xs : List X) (i : ℕ) (x : X) → All P xs → slice_get xs i ≡ Some x → P x
all_nth P [] i x h e = let z : ◌≡◌ {A = ℕ} 0 1 = cc in absurd (omega arith)
all_nth P (y ∷ ys) zero x h e = let same : y ≡ x = cc in subst P same h.0
all_nth P (y ∷ ys) (suc i) x h e = all_nth P ys i x h.1 e

pub all_marked : (P : Claim → Type 0) (cs : List Claim) (i : ℕ) (mark : Mark) → All P cs → ((c : Claim) → slice_get cs i ≡ Some c → P c → P (record { says = c.says; mark = mark })) → All P (claims_marked i mark cs)
all_marked P [] i mark h f = tt
all_marked P (c ∷ cs) zero mark h f = (f c refl h.0, h.1)
all_marked P (c ∷ cs) (suc i) mark h f = (h.0, all_marked P cs i mark h.1 f)

-- what sees more, sees what less sees
module _ (s s' : Seen) (old : (n : ℕ) → s.old n ≡ true → s'.old n ≡ true) (new : (n : ℕ) → s.new n ≡ true → s'.new n ≡ true) where
  both : (x y x' y' : Bool) → (x ≡ true → x' ≡ true) → (y ≡ true → y' ≡ true) → (x && y) ≡ true → (x' && y') ≡ true
  both x y x' y' f g h = let p = and_parts x y h in and_from x' y' (f p.0) (g p.1)

  number_sees_more : (e : Number) → number_sees s e ≡ true → number_sees s' e ≡ true
  number_sees_more (constant v) h = h
  number_sees_more (old_value n) h = both _ _ _ _ (λ e. e) (old n) h
  number_sees_more (new_value n) h = both _ _ _ _ (λ e. e) (new n) h
  number_sees_more (sum x y) h = both _ _ _ _ (number_sees_more x) (number_sees_more y) h
  number_sees_more (difference x y) h = both _ _ _ _ (number_sees_more x) (number_sees_more y) h

  truth_sees_more : (p : Truth) → truth_sees s p ≡ true → truth_sees s' p ≡ true
  truth_sees_more (equal x y) h = both _ _ _ _ (number_sees_more x) (number_sees_more y) h
  truth_sees_more (less x y) h = both _ _ _ _ (number_sees_more x) (number_sees_more y) h
  truth_sees_more (negation p) h = truth_sees_more p h
  truth_sees_more (conjunction p q) h = both _ _ _ _ (truth_sees_more p) (truth_sees_more q) h
  truth_sees_more (disjunction p q) h = both _ _ _ _ (truth_sees_more p) (truth_sees_more q) h
  truth_sees_more always h = refl

-- a module's variables are variables of the larger one
module _ (m m' : Meaning) (names : (n : ℕ) → is_some (m.outline.kind n) ≡ true → is_some (m'.outline.kind n) ≡ true) where
  sees_in : (p : Truth) → truth_sees (claim_sight m) p ≡ true → truth_sees (claim_sight m') p ≡ true
  sees_in p h = truth_sees_more (claim_sight m) (claim_sight m') names (λ n e. absurd (both_ways false refl e)) p h

-- a claim's truth depends on the values of its module's variables
pub same_truth : (m : Meaning) (p : Truth) (s t : List ℕ) → truth_sees (claim_sight m) p ≡ true → ((n : ℕ) → n < 32 → is_some (m.outline.kind n) ≡ true → value s n ≡ value t n) →
    truth_value p (value s) (value nothing) ≡ truth_value p (value t) (value nothing)
same_truth m p s t h f =
    truth_by_sight (claim_sight m) (value s) (value nothing) (value t) (value nothing)
    (record { old_same = λ n e. f n (m.outline_laws.names n e) e; new_same = λ n e. absurd (both_ways false refl e) }) p h

module _ (m : Meaning) (a b : ℕ) (sound : fault_of_renamed m.outline a b ≡ None) where
  names_renamed : (n : ℕ) → is_some (m.outline.kind (exchange a b n)) ≡ true → is_some ((renamed m a b).outline.kind n) ≡ true
  names_renamed n h = ap is_some (sound_is (fault_of_renamed m.outline a b) None (m.outline.kind (exchange a b n)) sound) ∙ h

  -- a renamed claim says of a state what the claim says of the state under the old names
  renamed_truth : (p : Truth) (t : List ℕ) → truth_sees (claim_sight m) p ≡ true → truth_value (truth_renamed a b p) (value t) (value nothing) ≡ truth_value p (value (exchanged a b t)) (value nothing)
  renamed_truth p t h =
      renaming_exchanges_names.truth_values a b p (value t) (value nothing) ∙
      truth_by_sight (claim_sight m) (swapped a b (value t)) (swapped a b (value nothing)) (value (exchanged a b t)) (value nothing)
      (record { old_same = λ n e. sym (exchanged_at a b t n (m.outline_laws.names n e)); new_same = λ n e. absurd (both_ways false refl e) }) p h

  pub renamed_right : (c : Claim) → Right m c → Right (renamed m a b) (claim_renamed a b c)
  renamed_right c right = record {
    sees =
        let low : a < 256 = omega (arith, old_name m a b sound) in
        let high : b < 256 = omega (arith, new_name m a b sound) in
        let levels = truth_levels c.says in
        let first : (leb levels levels && truth_sees (claim_sight m) c.says) ≡ true = and_from _ _ (le-leb levels levels (le_refl levels)) right.sees in
        let swapped-sees = (and_parts _ _ (renaming_exchanges_names.truths_stay_right a b levels (claim_sight m) c.says low high first)).1 in
        truth_sees_more (seen_swapped a b (claim_sight m)) (claim_sight (renamed m a b)) names_renamed (λ n e. absurd (both_ways false refl e)) (truth_renamed a b c.says) swapped-sees;
    marked = record {
      held_holds = λ e t r. renamed_truth c.says t right.sees ∙ right.marked.held_holds e (exchanged a b t) ((renamed_corresponds m a b sound).there t r);
      broken_fails = λ e.
          let found = right.marked.broken_fails e in
          let t = found.0 in (
            exchanged a b t,
            (renamed_corresponds m a b sound).back t found.1,
            renamed_truth c.says (exchanged a b t) right.sees ∙ ap (holds c) ((renamed_corresponds m a b sound).redone t found.1) ∙ found.2,
          );
    };
  }

pub hidden_right : (m : Meaning) (name : ℕ) → fault_of_hidden m.outline name ≡ None → (c : Claim) → Right m c → Right (hidden m name) c
hidden_right m name sound c right = record {
  sees = sees_in m (hidden m name)
      (λ n e. ap is_some (sound_is (fault_of_hidden m.outline name) None ((hidden_tables m.outline name).kind n) sound) ∙ hidden_there m.outline m.outline_laws name (hides m.outline name sound) n ∙ e) c.says right.sees;
  marked = record {
    held_holds = λ e t r. right.marked.held_holds e t ((hidden_corresponds m name sound).there t r);
    broken_fails = λ e. let found = right.marked.broken_fails e in (found.0, (hidden_corresponds m name sound).back found.0 found.1, found.2);
  };
}

-- a part's claim, in a whole whose reachable states project to the part's
module _ (p w : Meaning) (names : (n : ℕ) → is_some (p.outline.kind n) ≡ true → is_some (w.outline.kind n) ≡ true)
    (projects : (t : List ℕ) → Reachable w t → Reachable p (projected p.outline t)) where
  part_holds : (c : Claim) → truth_sees (claim_sight p) c.says ≡ true → HoldsThroughout p c → (t : List ℕ) → Reachable w t → truth_value c.says (value t) (value nothing) ≡ true
  part_holds c sees h t r =
      same_truth p c.says t (projected p.outline t) sees (λ n l e. sym (projected_at p.outline t n l e)) ∙ h (projected p.outline t) (projects t r)

  part_right : (c : Claim) → Right p c → Right w (claim_joined c)
  part_right c right = record { sees = sees_in p w names c.says right.sees; marked = go c.mark refl }
    where
      go : (mark : Mark) → c.mark ≡ mark → MarkIsTrue w (record { says = c.says; mark = mark_joined mark })
      go open_mark e = open_is_true w c.says
      go held e = held_is_true w c.says (part_holds c right.sees (right.marked.held_holds e))
      go broken e = open_is_true w c.says

module _ (l r : Meaning) (sound : fault_of_joined l.outline r.outline ≡ None) where
  kind_joined : (n : ℕ) → (joined l r).outline.kind n ≡ joined_kind (l.outline.kind n) (r.outline.kind n)
  kind_joined n = sound_is (fault_of_joined l.outline r.outline) None (joined_kind (l.outline.kind n) (r.outline.kind n)) sound

  pub left_right : (c : Claim) → Right l c → Right (joined l r) (claim_joined c)
  left_right = part_right l (joined l r) (λ n e. ap is_some (kind_joined n) ∙ joined_some_left (l.outline.kind n) (r.outline.kind n) e) (joined_projects l r sound).0.reachable

  pub right_right : (c : Claim) → Right r c → Right (joined l r) (claim_joined c)
  right_right = part_right r (joined l r) (λ n e. ap is_some (kind_joined n) ∙ joined_some_right (l.outline.kind n) (r.outline.kind n) e) (joined_projects l r sound).1.reachable
