-- The choices of a gate list keep the laws of choices.
use Rattle.std.specs.Prelude.{◌≡◌, ℕ, ◌<◌, ◌≤◌, Bool, true, false, cond, ◌&&◌, T, List, [], ◌∷◌, length, pos, negsuc, ◌≤ℤ◌, Some, None, Option, ◌==◌, nat_le, refl}
use Rattle.std.proofs.Common.{sym, ap, ap₂, subst, ◌∙◌, arith}
use Rattle.std.specs.Int.Signed.{le_z_yes}
use Rattle.std.proofs.lemmas.Bool.Decides.{nat_tests}
use Rattle.std.proofs.lemmas.Bool.{and_parts, cond-false, both_ways, le-leb}
use Rattle.std.proofs.lemmas.Option.{slice_get_past}
use Rattle.std.specs.List.{list_all, slice_get}
use Rattle.model.specs.Meanings.{Valuation, AreBytes, ChoiceLaws, most_choices}
use Rattle.model.specs.declared.Round.{Round}
use Rattle.model.specs.declared.Round.TheVariants.{Initial, Update}
use Rattle.gates.specs.Choices.{Condition, Value, Bit, OldValue, Choice, choices_of, holds, worth, choice_count, is_open, given_by, opens_of, gives_of}
use Rattle.gates.specs.Facts.{of_part, list_outline, given_to, list_choices}
use Rattle.gates.specs.Gates.{small, controls_of, reads_of, awaits_of}
use Rattle.gates.specs.Netlists.{Netlist}
use Rattle.gates.specs.WellFormed.{WellFormed}
use Rattle.gates.specs.declared.gate.Part.{Part}
use Rattle.gates.specs.declared.gate.Part.TheVariants.{Inverter, Conjunction, LatchOutput, LatchStore}
use Rattle.gates.specs.laws.Parts.{all_nth, small_nth, nth_some, by_part}

some_choice : (r : Round) (p : Part) → 1 ≤ choice_count r p
some_choice r (Inverter a out) = omega arith
some_choice r (Conjunction a b out) = omega arith
some_choice Initial (LatchOutput out own) = omega arith
some_choice Update (LatchOutput out own) = omega arith
some_choice Initial (LatchStore set reset own) = omega arith
some_choice Update (LatchStore set reset own) = omega arith

few_choices : (r : Round) (p : Part) → choice_count r p ≤ most_choices r
few_choices Initial (Inverter a out) = omega arith
few_choices Update (Inverter a out) = omega arith
few_choices Initial (Conjunction a b out) = omega arith
few_choices Update (Conjunction a b out) = omega arith
few_choices Initial (LatchOutput out own) = omega arith
few_choices Update (LatchOutput out own) = omega arith
few_choices Initial (LatchStore set reset own) = omega arith
few_choices Update (LatchStore set reset own) = omega arith

pub absent_closed : (r : Round) (p : Part) (k : ℕ) (new : Valuation) → choice_count r p ≤ k → opens_of r p k new ≡ false
absent_closed r p k new h = ap (λ o. is_open o new) (slice_get_past (choices_of r p) k h)

pub absent_gives : (r : Round) (p : Part) (k : ℕ) (old : Valuation) → choice_count r p ≤ k → gives_of r p k old ≡ 0
absent_gives r p k old h = ap (λ o. given_by o old) (slice_get_past (choices_of r p) k h)

-- A choice sees what its atom may see: its guard new values of awaited names, and its value, in an update, the old one
-- of a name that is read. A bit that it gives is 0 or 1.
abbrev value_fits : Round → Part → Value → Bool
value_fits r p (Bit b) = nat_le b 1
value_fits Initial p (OldValue n) = false
value_fits Update p (OldValue n) = reads_of p n

abbrev guard_fits : Part → List Condition → Bool
guard_fits p g = list_all (λ (c : Condition). awaits_of p c.name) g

abbrev fits : Round → Part → Choice → Bool
fits r p c = guard_fits p c.guard && value_fits r p c.value

all_fit : (r : Round) (p : Part) → small p ≡ true → list_all (fits r p) (choices_of r p) ≡ true
all_fit r (Inverter a out) s = grind (arith, nat_tests)
all_fit r (Conjunction a b out) s = grind (arith, nat_tests)
all_fit Initial (LatchOutput out own) s = refl
all_fit Update (LatchOutput out own) s = grind (arith, nat_tests)
all_fit Initial (LatchStore set reset own) s = grind (arith, nat_tests)
all_fit Update (LatchStore set reset own) s = grind (arith, nat_tests)

-- a fact about each choice that fits, and about none
by_choice : (r : Round) (p : Part) (k : ℕ) → small p ≡ true → (Q : Option Choice → Type 0) → Q None → ((c : Choice) → guard_fits p c.guard ≡ true → value_fits r p c.value ≡ true → Q (Some c)) → Q (slice_get (choices_of r p) k)
by_choice r p k s Q none some = go (slice_get (choices_of r p) k) refl
  where
    go : (o : Option Choice) → slice_get (choices_of r p) k ≡ o → Q o
    go None e = none
    go (Some c) e =
        let both = and_parts (guard_fits p c.guard) (value_fits r p c.value) (all_nth (fits r p) (choices_of r p) k c (all_fit r p s) e) in
        some c both.0 both.1

-- a choice between two bytes is a byte
cond_byte : (b : Bool) (x y : ℕ) → x ≤ 255 → y ≤ 255 → cond b x y ≤ 255
cond_byte true x y h k = h
cond_byte false x y h k = k

cond_self : (b : Bool) → ◌≡◌ {A = ℕ} (cond b 0 0) 0
cond_self true = refl
cond_self false = refl

worth_byte : (r : Round) (p : Part) (v : Value) (old : Valuation) → value_fits r p v ≡ true → AreBytes old → worth v old ≤ 255
worth_byte r p (Bit b) old f h = grind (arith, nat_tests)
worth_byte r p (OldValue n) old f h = h n

gives_byte : (r : Round) (p : Part) (k : ℕ) (old : Valuation) → small p ≡ true → AreBytes old → gives_of r p k old ≤ 255
gives_byte r p k old s h =
    by_choice r p k s (λ o. given_by o old ≤ 255) (omega arith) (λ c g v. worth_byte r p c.value old v h)

pos_high : (x : ℕ) → x ≤ 255 → pos x ≤ℤ pos 32767
pos_high x h = le_z_yes (subst T (sym (le-leb x 32767 (omega arith))) tt)

given_low : (r : Round) (k n : ℕ) (old : Valuation) (o : Option Part) → negsuc 32767 ≤ℤ of_part (given_to r k n old) (pos 0) o
given_low r k n old None = le_z_yes tt
given_low r k n old (Some p) = le_z_yes tt

-- what a part sees

abbrev SeesNew : Part → Valuation → Valuation → Type 0
SeesNew p new new' = (n : ℕ) → awaits_of p n ≡ true → new n ≡ new' n

abbrev SeesOld : Round → Part → Valuation → Valuation → Type 0
SeesOld r p old old' = r ≡ Update → (n : ℕ) → reads_of p n ≡ true → old n ≡ old' n

holds_sight : (p : Part) (g : List Condition) (new new' : Valuation) → guard_fits p g ≡ true → SeesNew p new new' → holds g new ≡ holds g new'
holds_sight p [] new new' f h = refl
holds_sight p (c ∷ cs) new new' f h =
    let both = and_parts (awaits_of p c.name) (guard_fits p cs) f in
    ap₂ (λ v rest. (v == c.bit) && rest) (h c.name both.0) (holds_sight p cs new new' both.1 h)

opens_sight : (r : Round) (p : Part) (k : ℕ) (new new' : Valuation) → small p ≡ true → SeesNew p new new' → opens_of r p k new ≡ opens_of r p k new'
opens_sight r p k new new' s h =
    by_choice r p k s (λ o. is_open o new ≡ is_open o new') refl (λ c g v. holds_sight p c.guard new new' g h)

worth_sight : (r : Round) (p : Part) (v : Value) (old old' : Valuation) → value_fits r p v ≡ true → SeesOld r p old old' → worth v old ≡ worth v old'
worth_sight r p (Bit b) old old' f h = refl
worth_sight Initial p (OldValue n) old old' f h = absurd (both_ways false refl f)
worth_sight Update p (OldValue n) old old' f h = h refl n f

gives_sight : (r : Round) (p : Part) (k : ℕ) (old old' : Valuation) → small p ≡ true → SeesOld r p old old' → gives_of r p k old ≡ gives_of r p k old'
gives_sight r p k old old' s h =
    by_choice r p k s (λ o. given_by o old ≡ given_by o old') refl (λ c g v. worth_sight r p c.value old old' v h)

module _ (l : Netlist) (w : WellFormed l) where
  abbrev ps : List Part
  ps = l.parts

  of_some : (a : ℕ) (r : Round) → a < length ps → 1 ≤ of_part (choice_count r) 0 (slice_get ps a)
  of_some a r h = let k = nth_some ps a h in subst (λ o. 1 ≤ of_part (choice_count r) 0 o) (sym k.1) (some_choice r k.0)

  pub choice_laws : ChoiceLaws (list_outline l) (list_choices l)
  choice_laws = record {
    some_choice = λ r a h. of_some a r h;
    few_choices = λ r a. by_part ps a (λ o. of_part (choice_count r) 0 o ≤ most_choices r) (omega arith) (λ p e. few_choices r p);
    no_choice = λ r a h. ap (of_part (choice_count r) 0) (slice_get_past ps a h);
    absent_closed = λ r a k old new.
        by_part ps a (λ o. of_part (choice_count r) 0 o ≤ k → of_part (λ p. opens_of r p k new) false o ≡ false) (λ h. refl) (λ p e h. absent_closed r p k new h);
    absent_gives = λ r a k n old new.
        by_part ps a (λ o. of_part (choice_count r) 0 o ≤ k → of_part (given_to r k n old) (pos 0) o ≡ pos 0) (λ h. refl)
        (λ p e h. ap pos (ap (λ v. cond (controls_of p n) v 0) (absent_gives r p k old h) ∙ cond_self (controls_of p n)));
    other_gives = λ r a k n old new.
        by_part ps a (λ o. of_part (λ p. controls_of p n) false o ≡ false → of_part (given_to r k n old) (pos 0) o ≡ pos 0) (λ h. refl)
        (λ p e h. ap pos (cond-false (controls_of p n) (gives_of r p k old) 0 h));
    gives_low = λ r a k n old new hold hnew. given_low r k n old (slice_get ps a);
    gives_high = λ r a k n old new hold hnew.
        by_part ps a (λ o. of_part (given_to r k n old) (pos 0) o ≤ℤ pos 32767) (pos_high 0 (omega arith))
        (λ p e. pos_high _ (cond_byte (controls_of p n) (gives_of r p k old) 0 (gives_byte r p k old (small_nth ps a p w.named e) hold) (omega arith)));
    opens_by_sight = λ r a k old new old' new' alike.
        by_part ps a (λ o. ((n : ℕ) → of_part (λ p. awaits_of p n) false o ≡ true → new n ≡ new' n) → of_part (λ p. opens_of r p k new) false o ≡ of_part (λ p. opens_of r p k new') false o)
        (λ h. refl) (λ p e h. opens_sight r p k new new' (small_nth ps a p w.named e) h) alike.awaited;
    gives_by_sight = λ r a k n old new old' new' alike.
        by_part ps a (λ o. (r ≡ Update → (i : ℕ) → of_part (λ p. reads_of p i) false o ≡ true → old i ≡ old' i) → of_part (given_to r k n old) (pos 0) o ≡ of_part (given_to r k n old') (pos 0) o)
        (λ h. refl) (λ p e h. ap (λ v. pos (cond (controls_of p n) v 0)) (gives_sight r p k old old' (small_nth ps a p w.named e) h)) alike.read;
  }
