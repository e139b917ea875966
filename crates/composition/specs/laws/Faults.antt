-- What the absence of a fault says, and that each fault has a number.
use Rattle.std.specs.Prelude.{◌≡◌, ℕ, ◌+◌, ◌≤◌, Bool, true, false, cond, not, ◌||◌, is_some, Some, None, Option, ◌≢◌, nat_lt, refl}
use Rattle.std.proofs.Common.{sym, ap, subst, arith}
use Rattle.std.proofs.lemmas.Bool.{true≢false, not-false, or_parts, ltb-false}
use Rattle.std.specs.Option.{option_or, option_map}
use Rattle.model.specs.Meanings.{OutlineFacts, OutlineLaws}
use Rattle.model.specs.Tests.{lowest}
use Rattle.model.specs.declared.Fault.{Fault}
use Rattle.model.specs.declared.Kind.{Kind}
use Rattle.model.specs.declared.Kind.TheVariants.{Private, Interface, External}
use Rattle.composition.specs.Faults.{deeper, raised, is_interface, rename_fault, hide_fault, clashes, differs, join_fault, fault_of_renamed, fault_of_hidden, fault_of_joined}
use Rattle.model.specs.Faults.{own}
use Rattle.composition.specs.Allowed.{MayRename, MayHide}

pub some≢none : {A : Type 0} (x : A) → Some x ≢ None
some≢none x e = true≢false (ap is_some e)

pub or_none : {A : Type 0} (x y : Option A) → option_or x y ≡ None → (x ≡ None) × (y ≡ None)
or_none None y e = (refl, e)
or_none (Some x) y e = absurd (some≢none x e)

pub mapped_none : {A B : Type 0} (f : A → B) (x : Option A) → option_map f x ≡ None → x ≡ None
mapped_none f None e = refl
mapped_none f (Some x) e = absurd (some≢none (f x) e)

fails : {A : Type 0} (t : Bool) (x : A) → cond t (Some x) None ≡ None → t ≡ false
fails true x e = absurd (some≢none x e)
fails false x e = refl

passes : {A : Type 0} (t : Bool) (x : A) → cond t None (Some x) ≡ None → t ≡ true
passes true x e = refl
passes false x e = absurd (some≢none x e)

pub none_from : {A : Type 0} (x : Option A) → is_some x ≡ false → x ≡ None
none_from None e = refl
none_from (Some x) e = absurd (true≢false e)

pub renames : (o : OutlineFacts) (a b : ℕ) → fault_of_renamed o a b ≡ None → MayRename o a b
renames o a b e =
    let parts = or_none (raised 1 o.fault) (rename_fault o a b) e in
    let tests = or_parts (not (is_some (o.kind a)) || is_some (o.kind b)) (nat_lt 31 b) (fails _ (own 7 a) parts.1) in
    let names = or_parts (not (is_some (o.kind a))) (is_some (o.kind b)) tests.0 in
    record {
      sound = mapped_none (deeper 1) o.fault parts.0;
      old_there = not-false (is_some (o.kind a)) names.0;
      new_free = none_from (o.kind b) names.1;
      new_name = omega (arith, ltb-false 31 b tests.1);
    }

pub interface_from : (k : Option Kind) → is_interface k ≡ true → k ≡ Some Interface
interface_from None e = absurd (true≢false (sym e))
interface_from (Some Private) e = absurd (true≢false (sym e))
interface_from (Some Interface) e = refl
interface_from (Some External) e = absurd (true≢false (sym e))

pub hides : (o : OutlineFacts) (n : ℕ) → fault_of_hidden o n ≡ None → MayHide o n
hides o n e =
    let parts = or_none (raised 1 o.fault) (hide_fault o n) e in
    record {
      sound = mapped_none (deeper 1) o.fault parts.0;
      interface = interface_from (o.kind n) (passes _ (own 8 n) parts.1);
    }

-- what joining without a fault rests on, as it is looked for
pub record Joins (l r : OutlineFacts) : Type 0 where
  pub sound_left : l.fault ≡ None
  pub sound_right : r.fault ≡ None
  pub no_clash : lowest (clashes l r) 32 ≡ None
  pub no_difference : lowest (differs l r) 32 ≡ None
  pub room : l.atoms + r.atoms ≤ 16

pub joins : (l r : OutlineFacts) → fault_of_joined l r ≡ None → Joins l r
joins l r e =
    let left = or_none (raised 1 l.fault) (option_or (raised (1 + l.layers) r.fault) (join_fault l r)) e in
    let right = or_none (raised (1 + l.layers) r.fault) (join_fault l r) left.1 in
    let clash = or_none (option_map (own 9) (lowest (clashes l r) 32)) (option_or (option_map (own 10) (lowest (differs l r) 32)) (cond (nat_lt 16 (l.atoms + r.atoms)) (Some (own 11 0)) None)) right.1 in
    let difference = or_none (option_map (own 10) (lowest (differs l r) 32)) (cond (nat_lt 16 (l.atoms + r.atoms)) (Some (own 11 0)) None) clash.1 in
    record {
      sound_left = mapped_none (deeper 1) l.fault left.0;
      sound_right = mapped_none (deeper (1 + l.layers)) r.fault right.0;
      no_clash = mapped_none (own 9) _ clash.0;
      no_difference = mapped_none (own 10) _ difference.0;
      room = ltb-false 16 (l.atoms + r.atoms) (fails _ (own 11 0) difference.1);
    }

-- a fault, if any, has a number
abbrev pub Numbered : Option Fault → Type 0
Numbered None = Unit {0}
Numbered (Some f) = 1 ≤ f.number

pub numbered_at : (x : Option Fault) → Numbered x → (f : Fault) → x ≡ Some f → 1 ≤ f.number
numbered_at x h f e = subst Numbered e h

numbered_from : (x : Option Fault) → ((f : Fault) → x ≡ Some f → 1 ≤ f.number) → Numbered x
numbered_from None h = tt
numbered_from (Some f) h = h f refl

numbered_or : (x y : Option Fault) → Numbered x → Numbered y → Numbered (option_or x y)
numbered_or None y h k = k
numbered_or (Some f) y h k = h

numbered_raised : (by : ℕ) (x : Option Fault) → Numbered x → Numbered (raised by x)
numbered_raised by None h = h
numbered_raised by (Some f) h = h

numbered_mapped : (number : ℕ) (x : Option ℕ) → 1 ≤ number → Numbered (option_map (own number) x)
numbered_mapped number None h = tt
numbered_mapped number (Some n) h = h

numbered_cond : (t : Bool) (x y : Option Fault) → Numbered x → Numbered y → Numbered (cond t x y)
numbered_cond true x y h k = h
numbered_cond false x y h k = k

numbered_below : (by : ℕ) (o : OutlineFacts) → OutlineLaws o → Numbered (raised by o.fault)
numbered_below by o laws = numbered_raised by o.fault (numbered_from o.fault laws.fault_numbered)

pub renamed_numbered : (o : OutlineFacts) (a b : ℕ) → OutlineLaws o → Numbered (fault_of_renamed o a b)
renamed_numbered o a b laws =
    numbered_or (raised 1 o.fault) (rename_fault o a b) (numbered_below 1 o laws)
    (numbered_cond (not (is_some (o.kind a)) || is_some (o.kind b) || nat_lt 31 b) (Some (own 7 a)) None (omega arith) tt)

pub hidden_numbered : (o : OutlineFacts) (n : ℕ) → OutlineLaws o → Numbered (fault_of_hidden o n)
hidden_numbered o n laws =
    numbered_or (raised 1 o.fault) (hide_fault o n) (numbered_below 1 o laws)
    (numbered_cond (is_interface (o.kind n)) None (Some (own 8 n)) tt (omega arith))

pub joined_numbered : (l r : OutlineFacts) → OutlineLaws l → OutlineLaws r → Numbered (fault_of_joined l r)
joined_numbered l r left right =
    let full : Option Fault = cond (nat_lt 16 (l.atoms + r.atoms)) (Some (own 11 0)) None in
    let uneven : Option Fault = option_map (own 10) (lowest (differs l r) 32) in
    numbered_or (raised 1 l.fault) (option_or (raised (1 + l.layers) r.fault) (join_fault l r)) (numbered_below 1 l left)
    (numbered_or (raised (1 + l.layers) r.fault) (join_fault l r) (numbered_below (1 + l.layers) r right)
    (numbered_or (option_map (own 9) (lowest (clashes l r) 32)) (option_or uneven full) (numbered_mapped 9 (lowest (clashes l r) 32) (omega arith))
    (numbered_or uneven full (numbered_mapped 10 (lowest (differs l r) 32) (omega arith))
    (numbered_cond (nat_lt 16 (l.atoms + r.atoms)) (Some (own 11 0)) None (omega arith) tt))))
