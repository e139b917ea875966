-- Kinds of names that are joined, in any order.
use Rattle.std.proofs.Common.{◌≡◌, Bool, true, false, cond, not, ◌&&◌, ◌||◌, Some, None, Option, refl, ap, subst}
use Rattle.std.proofs.lemmas.Bool.{true≢false, false≢true, and_parts}
use Rattle.model.specs.declared.Kind.{Kind}
use Rattle.model.specs.declared.Kind.TheVariants.{Private, Interface, External}
use Rattle.composition.specs.Faults.{clash}
use Rattle.composition.specs.Outlines.{shared, joined_kind}

-- a test of kinds is right if it passes at each of the four
abbrev each : (Option Kind → Bool) → Bool
each p = p None && (p (Some Private) && (p (Some Interface) && p (Some External)))

at : (p : Option Kind → Bool) → each p ≡ true → (k : Option Kind) → p k ≡ true
at p h None = (and_parts (p None) (p (Some Private) && (p (Some Interface) && p (Some External))) h).0
at p h (Some k) = go k (and_parts (p None) (p (Some Private) && (p (Some Interface) && p (Some External))) h).1
  where
    go : (k : Kind) → (p (Some Private) && (p (Some Interface) && p (Some External))) ≡ true → p (Some k) ≡ true
    go Private g = (and_parts (p (Some Private)) (p (Some Interface) && p (Some External)) g).0
    go Interface g = (and_parts (p (Some Interface)) (p (Some External)) (and_parts (p (Some Private)) (p (Some Interface) && p (Some External)) g).1).0
    go External g = (and_parts (p (Some Interface)) (p (Some External)) (and_parts (p (Some Private)) (p (Some Interface) && p (Some External)) g).1).1

abbrev alike : Bool → Bool → Bool
alike x y = cond x y (not y)

same : (x y : Bool) → alike x y ≡ true → x ≡ y
same true true e = refl
same true false e = absurd (false≢true e)
same false true e = absurd (false≢true e)
same false false e = refl

pub clash_flip : (j k : Option Kind) → clash j k ≡ clash k j
clash_flip j k =
    let test : Option Kind → Option Kind → Bool = λ j k. alike (clash j k) (clash k j) in
    same (clash j k) (clash k j) (at (test j) (at (λ j. each (test j)) refl j) k)

-- three kinds clash in either grouping or in none
pub clash_regroup : (i j k : Option Kind) → (clash i j || clash (joined_kind i j) k) ≡ (clash j k || clash i (joined_kind j k))
clash_regroup i j k =
    let test : Option Kind → Option Kind → Option Kind → Bool = λ i j k. alike (clash i j || clash (joined_kind i j) k) (clash j k || clash i (joined_kind j k)) in
    same (clash i j || clash (joined_kind i j) k) (clash j k || clash i (joined_kind j k)) (at (test i j) (at (λ j. each (test i j)) (at (λ i. each (λ j. each (test i j))) refl i) j) k)

pub joined_kind_flip : (j k : Option Kind) → clash j k ≡ false → joined_kind j k ≡ joined_kind k j
joined_kind_flip None None e = refl
joined_kind_flip None (Some k) e = refl
joined_kind_flip (Some j) None e = refl
joined_kind_flip (Some Private) (Some k) e = absurd (true≢false e)
joined_kind_flip (Some Interface) (Some Private) e = absurd (true≢false e)
joined_kind_flip (Some Interface) (Some Interface) e = refl
joined_kind_flip (Some Interface) (Some External) e = refl
joined_kind_flip (Some External) (Some Private) e = absurd (true≢false e)
joined_kind_flip (Some External) (Some Interface) e = refl
joined_kind_flip (Some External) (Some External) e = refl

shared_regroup : (i j k : Kind) → shared (shared i j) k ≡ shared i (shared j k)
shared_regroup Private j k = refl
shared_regroup Interface j k = refl
shared_regroup External j k = refl

pub joined_kind_regroup : (i j k : Option Kind) → joined_kind (joined_kind i j) k ≡ joined_kind i (joined_kind j k)
joined_kind_regroup None j k = refl
joined_kind_regroup (Some i) None k = refl
joined_kind_regroup (Some i) (Some j) None = refl
joined_kind_regroup (Some i) (Some j) (Some k) = ap Some (shared_regroup i j k)

pub clash_none : (k : Option Kind) → clash None k ≡ false
clash_none k = same (clash None k) false (at (λ k. alike (clash None k) false) refl k)

-- where kinds do not clash, a test of the joined kind passes if it passes at one of them
module _ (test : Option Kind → Bool) (right : each (λ j. each (λ k. clash j k || alike (test (joined_kind j k)) (test j || test k))) ≡ true) where
  pub joined_either : (j k : Option Kind) → clash j k ≡ false → test (joined_kind j k) ≡ (test j || test k)
  joined_either j k e =
      let passes : Option Kind → Option Kind → Bool = λ j k. clash j k || alike (test (joined_kind j k)) (test j || test k) in
      let here : passes j k ≡ true = at (passes j) (at (λ j. each (passes j)) right j) k in
      same (test (joined_kind j k)) (test j || test k) (subst (λ t. (t || alike (test (joined_kind j k)) (test j || test k)) ≡ true) e here)
