-- The law of a unit's life: what holds of every unit met anywhere in any history, in the words of its published module.
use Rattle.std.specs.Prelude.{◌≡◌, ℕ, ◌≤◌, ◌↔◌, List, [], map, Some, None}
use Rattle.std.specs.List.{slice_get}
use Rattle.model.specs.Meanings.{Valuation, Meaning}
use Rattle.model.specs.States.{value}
use Rattle.reactive.specs.Counts.{AtMost}
use Rattle.reactive.specs.Modules.{module_of}
use Rattle.reactive.specs.Reactive.{Among, IsTrajectory, EndsIn, IsReachable}
use Rattle.theory.specs.Runs.{Reachable}
use Rattle.units.specs.Models.{Claim, held, broken, UnitModel, standing_state}
use Rattle.life.specs.Fitness.{IsFit}
use Rattle.life.specs.Rules.{Certified, Refuted}
use Rattle.life.specs.Subject.{InitialRow, NextRow, IsTrueAt, IsFalseAt}

-- an initialised trajectory of the module that ends where the claim is false
pub record Falsified (m : Meaning) (c : Claim) : Type 0 where
  pub run : List Valuation
  pub trajectory : IsTrajectory (module_of m) run
  pub last : Valuation
  pub ends : EndsIn run last
  pub false_there : IsFalseAt c last

-- A claim that is marked held is true in every state of every initialised trajectory of the module; one marked broken is false at the
-- end of some.
pub record MarkKept (m : Meaning) (c : Claim) : Type 0 where
  pub held_true : c.mark ≡ held → (run : List Valuation) → IsTrajectory (module_of m) run →
      (v : Valuation) → Among v run → IsTrueAt c v
  pub broken_false : c.mark ≡ broken → Falsified m c

-- The states that stood are an initialised trajectory of the module; the one that stands is its last, and no claim is false in it.
pub record StandsRightly (u : UnitModel) (states : List (List ℕ)) (s : List ℕ) : Type 0 where
  pub trajectory : IsTrajectory (module_of u.meaning) (map value states)
  pub ends : EndsIn (map value states) (value s)
  pub claims_true : (i : ℕ) (c : Claim) → slice_get u.claims i ≡ Some c → IsTrueAt c (value s)

-- a reachable state, as it is written
abbrev pub ReachableRow : Meaning → List ℕ → Type 0
ReachableRow m = Reachable (InitialRow m) (NextRow m)

-- bytes that certify would accept, and bytes that refute would, of no more than so many states
pub record Certificate (u : UnitModel) (i : ℕ) : Type 0 where
  pub bytes : List ℕ
  pub count : ℕ
  pub after : UnitModel
  pub accepted : Certified u i bytes count after

pub record Refutation (u : UnitModel) (i most : ℕ) : Type 0 where
  pub bytes : List ℕ
  pub count : ℕ
  pub after : UnitModel
  pub accepted : Refuted u i bytes count after
  pub short : count ≤ most

-- Where no more than n states are reachable, n not above 2,048: bytes that certify would accept exist exactly when the claim is true in
-- every reachable state, and where it is false in one, bytes that refute would accept, of no more than n states.
pub record EvidenceFound (u : UnitModel) (n i : ℕ) (c : Claim) : Type 0 where
  pub certificate : ((v : Valuation) → IsReachable (module_of u.meaning) v → IsTrueAt c v) ↔
      Certificate u i
  pub refutation : (v : Valuation) → IsReachable (module_of u.meaning) v → IsFalseAt c v →
      Refutation u i n

pub record Lawful (u : UnitModel) (states : List (List ℕ)) : Type 0 where
  pub marks : (i : ℕ) (c : Claim) → slice_get u.claims i ≡ Some c → MarkKept u.meaning c
  pub standing : (s : List ℕ) → standing_state u.phase ≡ Some s → StandsRightly u states s
  pub none_standing : standing_state u.phase ≡ None → states ≡ []
  pub evidence : IsFit u → (n : ℕ) → n ≤ 2048 → AtMost (ReachableRow u.meaning) n →
      (i : ℕ) (c : Claim) → slice_get u.claims i ≡ Some c → EvidenceFound u n i c
  pub never_both : (i most : ℕ) → Certificate u i → Refutation u i most → ⊥
