-- Where a rename, a hide or a join has no fault.
use Rattle.std.proofs.Common.{◌≡◌, ℕ, ◌+◌, ◌<◌, ◌≤◌, cond, not, ◌||◌, ltb, is_some, Some, None, Option, ap, ◌∙◌, arith}
use Rattle.std.proofs.lemmas.Bool.{cond-true, cond-false, not_from_true, or_from, lt-ltb, le-ltb}
use Rattle.std.specs.Option.{option_or, option_map}
use Rattle.model.specs.Meanings.{OutlineFacts}
use Rattle.model.specs.Tests.{lowest}
use Rattle.model.specs.declared.Fault.{Fault}
use Rattle.composition.proofs.Tests.{lowest_none_from, lowest_is}
use Rattle.composition.specs.Allowed.{MayRename, MayHide}
use Rattle.composition.specs.Faults.{deeper, raised, is_interface, rename_fault, hide_fault, clashes, differs, join_fault, fault_of_renamed, fault_of_hidden, fault_of_joined}
use Rattle.model.specs.Faults.{own}
use Rattle.composition.specs.Outlines.{sound_or}
use Rattle.composition.specs.Statements.{NoneOf, Lowest}

module _ {A : Type 0} (f : Option Fault) (nothing x : A) where
  pub sound_is : f ≡ None → sound_or f nothing x ≡ x
  sound_is e = ap (λ g. sound_or g nothing x) e

  pub faulty_is : (g : Fault) → f ≡ Some g → sound_or f nothing x ≡ nothing
  faulty_is g e = ap (λ h. sound_or h nothing x) e

pub rename_sound : (o : OutlineFacts) (a b : ℕ) → MayRename o a b → fault_of_renamed o a b ≡ None
rename_sound o a b h =
    ap (λ f. option_or (raised 1 f) (rename_fault o a b)) h.sound ∙
    cond-false (not (is_some (o.kind a)) || is_some (o.kind b) || ltb 31 b) (Some (own 7 a)) None
    (or_from (not (is_some (o.kind a)) || is_some (o.kind b)) (ltb 31 b)
    (or_from (not (is_some (o.kind a))) (is_some (o.kind b)) (not_from_true (is_some (o.kind a)) h.old_there) (ap is_some h.new_free)) (le-ltb 31 b (omega (arith, h.new_name))))

pub hide_sound : (o : OutlineFacts) (n : ℕ) → MayHide o n → fault_of_hidden o n ≡ None
hide_sound o n h = ap (λ f. option_or (raised 1 f) (hide_fault o n)) h.sound ∙ ap (λ k. cond (is_interface k) None (Some (own 8 n))) h.interface

-- the faults of a join, first to last
module _ (l r : OutlineFacts) where
  abbrev full : Option Fault
  full = cond (ltb 16 (l.atoms + r.atoms)) (Some (own 11 0)) None

  abbrev uneven : Option ℕ → Option Fault
  uneven found = option_or (option_map (own 10) found) full

  pub left_fault : (f : Fault) → l.fault ≡ Some f → fault_of_joined l r ≡ Some (deeper 1 f)
  left_fault f e = ap (λ g. option_or (raised 1 g) (option_or (raised (1 + l.layers) r.fault) (join_fault l r))) e

  module _ (sound_left : l.fault ≡ None) where
    to_right : fault_of_joined l r ≡ option_or (raised (1 + l.layers) r.fault) (join_fault l r)
    to_right = ap (λ g. option_or (raised 1 g) (option_or (raised (1 + l.layers) r.fault) (join_fault l r))) sound_left

    pub right_fault : (f : Fault) → r.fault ≡ Some f → fault_of_joined l r ≡ Some (deeper (1 + l.layers) f)
    right_fault f e = to_right ∙ ap (λ g. option_or (raised (1 + l.layers) g) (join_fault l r)) e

    module _ (sound_right : r.fault ≡ None) where
      to_own : fault_of_joined l r ≡ join_fault l r
      to_own = to_right ∙ ap (λ g. option_or (raised (1 + l.layers) g) (join_fault l r)) sound_right

      pub clash_fault : (n : ℕ) → Lowest (clashes l r) n → fault_of_joined l r ≡ Some (own 9 n)
      clash_fault n h = to_own ∙ ap (λ found. option_or (option_map (own 9) found) (uneven (lowest (differs l r) 32))) (lowest_is (clashes l r) n h)

      module _ (no_clash : NoneOf (clashes l r)) where
        to_uneven : fault_of_joined l r ≡ uneven (lowest (differs l r) 32)
        to_uneven = to_own ∙ ap (λ found. option_or (option_map (own 9) found) (uneven (lowest (differs l r) 32))) (lowest_none_from (clashes l r) 32 no_clash)

        pub difference_fault : (n : ℕ) → Lowest (differs l r) n → fault_of_joined l r ≡ Some (own 10 n)
        difference_fault n h = to_uneven ∙ ap uneven (lowest_is (differs l r) n h)

        module _ (no_difference : NoneOf (differs l r)) where
          to_full : fault_of_joined l r ≡ full
          to_full = to_uneven ∙ ap uneven (lowest_none_from (differs l r) 32 no_difference)

          pub crowd_fault : 16 < l.atoms + r.atoms → fault_of_joined l r ≡ Some (own 11 0)
          crowd_fault h = to_full ∙ cond-true (ltb 16 (l.atoms + r.atoms)) (Some (own 11 0)) None (lt-ltb 16 (l.atoms + r.atoms) h)

          pub no_fault : l.atoms + r.atoms ≤ 16 → fault_of_joined l r ≡ None
          no_fault h = to_full ∙ cond-false (ltb 16 (l.atoms + r.atoms)) (Some (own 11 0)) None (le-ltb 16 (l.atoms + r.atoms) h)
