-- When a rename, a hide or a join is allowed.
use Rattle.std.specs.Prelude.{◌≡◌, ℕ, ◌+◌, ◌<◌, ◌≤◌, true, false, is_some, Some, None}
use Rattle.model.specs.Meanings.{OutlineFacts}
use Rattle.model.specs.declared.Kind.TheVariants.{Interface}
use Rattle.composition.specs.Faults.{clash}

-- the drawing has no fault, the old name is there, and the new one is a name that is not
pub record MayRename (o : OutlineFacts) (a b : ℕ) : Type 0 where
  pub sound : o.fault ≡ None
  pub old_there : is_some (o.kind a) ≡ true
  pub new_free : o.kind b ≡ None
  pub new_name : b < 32

-- the drawing has no fault, and the name is interface
pub record MayHide (o : OutlineFacts) (n : ℕ) : Type 0 where
  pub sound : o.fault ≡ None
  pub interface : o.kind n ≡ Some Interface

-- no name clashes, shared names have one top, and there is room for the atoms
pub record Fits (l r : OutlineFacts) : Type 0 where
  pub apart : (n : ℕ) → clash (l.kind n) (r.kind n) ≡ false
  pub level : (n : ℕ) → is_some (l.kind n) ≡ true → is_some (r.kind n) ≡ true → l.top n ≡ r.top n
  pub room : l.atoms + r.atoms ≤ 16
