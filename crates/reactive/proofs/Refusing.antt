-- Which of several checks in a row refuses, told by the numbers of what they refuse with.
use Rattle.std.proofs.Common.{◌≡◌, ℕ, ◌<◌, ◌≤◌, Bool, true, false, cond, ◌⊎◌, ◌↔◌, Some, None, Option, ◌≢◌, sym, refl, ap, ◌∙◌, subst, inl, inr, ⊎_elim, arith}
use Rattle.std.proofs.lemmas.Bool.{both_ways, cases_Bool, cases_eq, cases_lt}
use Rattle.std.specs.Option.{option_or, option_map}
use Rattle.model.specs.Faults.{own}
use Rattle.model.specs.Tests.{lowest}
use Rattle.model.specs.declared.Fault.{Fault}
use Rattle.model.proofs.Lowest.{Lowest, lowest_clear, lowest_found, clear_lowest}
use Rattle.units.specs.Refusals.{refusal_fault}
use Rattle.units.specs.Sealing.{at_lowest, if_so, of_drawing, ◌else◌}
use Rattle.units.specs.declared.refusal.Refusal.{Refusal}
use Rattle.units.specs.declared.refusal.Refusal.TheVariants.{FaultyDrawing}
use Rattle.reactive.specs.Joins.{Least}

abbrev pub number : Refusal → ℕ
number f = (refusal_fault f).number

abbrev or_else : Refusal → Option Refusal → Refusal
or_else d None = d
or_else d (Some f) = f

pub same_refusal : (f g : Refusal) → ◌≡◌ {A = Option Refusal} (Some f) (Some g) → f ≡ g
same_refusal f g e = ap (or_else f) e

pub none_not_some : {A : Type 0} (a : A) → ◌≡◌ {A = Option A} None (Some a) → ⊥
none_not_some a e = let z : ◌≡◌ {A = ℕ} 0 1 = cc in omega arith

-- all that the check may refuse with has a number of at least k
abbrev pub From : ℕ → Option Refusal → Type 0
From k x = (f : Refusal) → x ≡ Some f → k ≤ number f

pub from_none : (k : ℕ) → From k None
from_none k f e = absurd (none_not_some f e)

pub from_some : (k : ℕ) (g : Refusal) → k ≤ number g → From k (Some g)
from_some k g h f e = subst (λ x. k ≤ number x) (same_refusal g f e) h

pub from_lowest : (k : ℕ) (told : ℕ → Refusal) (x : Option ℕ) → ((n : ℕ) → k ≤ number (told n)) → From k (at_lowest told x)
from_lowest k told None h = from_none k
from_lowest k told (Some n) h = from_some k (told n) (h n)

pub from_if : (k : ℕ) (told : Refusal) (b : Bool) → k ≤ number told → From k (if_so told b)
from_if k told true h = from_some k told h
from_if k told false h = from_none k

pub from_else : (k : ℕ) (x y : Option Refusal) → From k x → From k y → From k (x else y)
from_else k None y h g = g
from_else k (Some f) y h g = h

-- the first refuses with what has a lower number than all of the second
pub first_refuses : (x y : Option Refusal) (k : ℕ) (f : Refusal) → number f < k → From k y → ((x else y) ≡ Some f) ↔ (x ≡ Some f)
first_refuses None y k f low from = (λ e. absurd (omega (arith, from f e)), λ e. absurd (none_not_some f e))
first_refuses (Some g) y k f low from = (λ e. e, λ e. e)

-- the second refuses with what the first never does
pub second_refuses : (x y : Option Refusal) (f : Refusal) → ((g : Refusal) → x ≡ Some g → number g ≢ number f) → ((x else y) ≡ Some f) ↔ ((x ≡ None) × (y ≡ Some f))
second_refuses None y f other = (λ e. (refl, e), λ e. e.1)
second_refuses (Some g) y f other = (λ e. absurd (other g refl (ap number (same_refusal g f e))), λ e. absurd (none_not_some g (sym e.0)))

-- a check for the lowest refuses at n exactly where n is the lowest
pub lowest_refuses : (told : ℕ → Refusal) (place : Refusal → ℕ) → ((n : ℕ) → place (told n) ≡ n) → (x : Option ℕ) (n : ℕ) → (at_lowest told x ≡ Some (told n)) ↔ (x ≡ Some n)
lowest_refuses told place back None n = (λ e. absurd (none_not_some (told n) e), λ e. absurd (none_not_some n e))
lowest_refuses told place back (Some m) n = (
  λ e. ap Some (sym (back m) ∙ ap place (same_refusal (told m) (told n) e) ∙ back n),
  λ e. ap (at_lowest told) e,
)

-- what a drawing's fault is told as
pub drawing_refuses : (x : Option Fault) (f : Fault) → (of_drawing x ≡ Some (FaultyDrawing f)) ↔ (x ≡ Some f)
drawing_refuses None f = (λ e. absurd (none_not_some (FaultyDrawing f) e), λ e. absurd (none_not_some f e))
drawing_refuses (Some g) f = (λ e. ap Some (ap refusal_fault (same_refusal (FaultyDrawing g) (FaultyDrawing f) e)), λ e. ap of_drawing e)

-- of faults alike

abbrev fault_or : Fault → Option Fault → Fault
fault_or d None = d
fault_or d (Some f) = f

pub same_fault : (f g : Fault) → ◌≡◌ {A = Option Fault} (Some f) (Some g) → f ≡ g
same_fault f g e = ap (fault_or f) e

-- of a join's three checks, by what the first two find and whether it is full
abbrev pub three : Option ℕ → Option ℕ → Bool → Option Fault
three a b full = option_or (option_map (own 9) a) (option_or (option_map (own 10) b) (cond full (Some (own 11 0)) None))

place_same : (k n i j : ℕ) → ◌≡◌ {A = Option Fault} (Some (own k i)) (Some (own n j)) → ◌≡◌ {A = Option ℕ} (Some i) (Some j)
place_same k n i j e = ap {A = Fault} (λ f. Some f.place) (same_fault (own k i) (own n j) e)

number_same : (k n i j : ℕ) → ◌≡◌ {A = Option Fault} (Some (own k i)) (Some (own n j)) → k ≡ n
number_same k n i j e = ap {A = Fault} (λ f. f.number) (same_fault (own k i) (own n j) e)

pub nine : (a b : Option ℕ) (full : Bool) (n : ℕ) → (three a b full ≡ Some (own 9 n)) ↔ (a ≡ Some n)
nine (Some i) b full n = (place_same 9 9 i n, λ e. ap (option_map (own 9)) e)
nine None (Some j) full n = (λ e. absurd (omega (arith, number_same 10 9 j n e)), λ e. absurd (none_not_some n e))
nine None None true n = (λ e. absurd (omega (arith, number_same 11 9 0 n e)), λ e. absurd (none_not_some n e))
nine None None false n = (λ e. absurd (none_not_some (own 9 n) e), λ e. absurd (none_not_some n e))

pub ten : (a b : Option ℕ) (full : Bool) (n : ℕ) → (three a b full ≡ Some (own 10 n)) ↔ ((a ≡ None) × (b ≡ Some n))
ten (Some i) b full n = (λ e. absurd (omega (arith, number_same 9 10 i n e)), λ e. absurd (none_not_some i (sym e.0)))
ten None (Some j) full n = (λ e. (refl, place_same 10 10 j n e), λ e. ap (option_map (own 10)) e.1)
ten None None true n = (λ e. absurd (omega (arith, number_same 11 10 0 n e)), λ e. absurd (none_not_some n e.1))
ten None None false n = (λ e. absurd (none_not_some (own 10 n) e), λ e. absurd (none_not_some n e.1))

pub eleven : (a b : Option ℕ) (full : Bool) → (three a b full ≡ Some (own 11 0)) ↔ ((a ≡ None) × (b ≡ None) × (full ≡ true))
eleven (Some i) b full = (λ e. absurd (omega (arith, number_same 9 11 i 0 e)), λ e. absurd (none_not_some i (sym e.0)))
eleven None (Some j) full = (λ e. absurd (omega (arith, number_same 10 11 j 0 e)), λ e. absurd (none_not_some j (sym e.1)))
eleven None None true = (λ e. (refl, refl, refl), λ e. refl)
eleven None None false = (λ e. absurd (none_not_some (own 11 0) e), λ e. absurd (both_ways false refl e.2))

pub none_of_three : (a b : Option ℕ) (full : Bool) → (three a b full ≡ None) ↔ ((a ≡ None) × (b ≡ None) × (full ≡ false))
none_of_three (Some i) b full = (λ e. absurd (none_not_some (own 9 i) (sym e)), λ e. absurd (none_not_some i (sym e.0)))
none_of_three None (Some j) full = (λ e. absurd (none_not_some (own 10 j) (sym e)), λ e. absurd (none_not_some j (sym e.1)))
none_of_three None None true = (λ e. absurd (none_not_some (own 11 0) (sym e)), λ e. absurd (both_ways true e.2 refl))
none_of_three None None false = (λ e. (refl, refl, refl), λ e. refl)

low_fault : (k n i : ℕ) (f : Fault) → k ≤ n → ◌≡◌ {A = Option Fault} (Some (own k i)) (Some f) → f.number ≤ n
low_fault k n i f h e = subst (λ (g : Fault). g.number ≤ n) (same_fault (own k i) f e) h

pub three_low : (a b : Option ℕ) (full : Bool) (f : Fault) → three a b full ≡ Some f → f.number ≤ 11
three_low (Some i) b full f e = low_fault 9 11 i f (omega arith) e
three_low None (Some j) full f e = low_fault 10 11 j f (omega arith) e
three_low None None true f e = low_fault 11 11 0 f (omega arith) e
three_low None None false f e = absurd (none_not_some f e)

-- what is told of a drawing has the number of its fault
pub drawing_low : (x : Option Fault) → ((f : Fault) → x ≡ Some f → f.number ≤ 11) → (g : Refusal) → of_drawing x ≡ Some g → number g ≤ 11
drawing_low None h g e = absurd (none_not_some g e)
drawing_low (Some f) h g e = subst (λ r. number r ≤ 11) (same_refusal (FaultyDrawing f) g e) (h f refl)

-- the lowest number that passes a test, where passing means X, which numbers below m alone have
module _ (p : ℕ → Bool) (X : ℕ → Type 0) (m : ℕ) (passing : (n : ℕ) → (p n ≡ true) ↔ X n) (low : (n : ℕ) → X n → n < m) where
  pub none_iff : (lowest p m ≡ None) ↔ ((n : ℕ) → X n → ⊥)
  none_iff = (
    λ e n x. both_ways (p n) (lowest_clear p m e n (low n x)) ((passing n).1 x),
    λ none. clear_lowest p m (λ n l. ⊎_elim (λ t. absurd (none n ((passing n).0 t))) (λ f. f) (cases_Bool (p n))),
  )

  pub least_iff : (n : ℕ) → (lowest p m ≡ Some n) ↔ Least X n
  least_iff n = (
    λ e. let f = lowest_found p m n e in record { there = (passing n).0 f.passes; none_lower = λ k l x. both_ways (p k) (f.below k l) ((passing k).1 x) },
    λ least. go least (lowest p m) refl,
  )
    where
      same : (least : Least X n) (i : ℕ) → Lowest p m i → (i < n) ⊎ (n ≤ i) → i ≡ n
      same least i f (inl l) = absurd (least.none_lower i l ((passing i).0 f.passes))
      same least i f (inr l) = ⊎_elim (λ e. e) (λ d. absurd (both_ways (p n) (f.below n (omega (arith, l, d))) ((passing n).1 least.there))) (cases_eq i n)

      go : Least X n → (o : Option ℕ) → lowest p m ≡ o → lowest p m ≡ Some n
      go least None e = absurd (none_iff.0 e n least.there)
      go least (Some i) e = e ∙ ap Some (same least i (lowest_found p m i e) (cases_lt i n))
