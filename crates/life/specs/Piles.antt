-- The rules of sealing, and of renaming, hiding and joining units: each old unit is used up, and a new one is made.
use Rattle.std.specs.Prelude.{◌≡◌, ℕ, ◌<◌, ◌≤◌, max, true, false, cond, List, [], ◌++◌, map, length, None, ◌==◌}
use Rattle.composition.specs.Meanings.{renamed, hidden, joined}
use Rattle.language.specs.Expressions.{Number, constant, old_value, new_value, sum, difference, Truth, equal, less, negation, conjunction, disjunction, always}
use Rattle.model.specs.Meanings.{Meaning}
use Rattle.reactive.specs.Modules.{module_of}
use Rattle.reactive.specs.Operations.{composed, renamed_module, hidden_module, SameModule}
use Rattle.units.specs.Models.{Mark, open_mark, held, broken, Claim, idle, UnitModel}
use Rattle.life.specs.Fitness.{IsFit}

-- A unit made anew with this number and this count of rounds, to which these claims were brought: it is idle, and has them if it is
-- fit, else none.
pub record MadeAnew (w : UnitModel) (its_number its_rounds : ℕ) (brought : List Claim) : Type 0 where
  pub number : w.number ≡ its_number
  pub rounds : w.rounds ≡ its_rounds
  pub idle_now : w.phase ≡ idle
  pub too_many : 8 < length brought → w.crowded ≡ true
  pub few : length brought ≤ 8 → w.crowded ≡ false
  pub kept : IsFit w → w.claims ≡ brought
  pub dropped : (IsFit w → ⊥) → w.claims ≡ []

pub record Sealed (m : Meaning) (number : ℕ) (w : UnitModel) : Type 0 where
  pub drawing : w.meaning ≡ m
  pub anew : MadeAnew w number 0 []

-- A claim under new names says b where it said a. A constant is no name.

abbrev pub name_put : ℕ → ℕ → ℕ → ℕ
name_put a b n = cond (n == a) b n

abbrev pub number_put : ℕ → ℕ → Number → Number
number_put a b (constant v) = constant v
number_put a b (old_value n) = old_value (name_put a b n)
number_put a b (new_value n) = new_value (name_put a b n)
number_put a b (sum x y) = sum (number_put a b x) (number_put a b y)
number_put a b (difference x y) = difference (number_put a b x) (number_put a b y)

abbrev pub truth_put : ℕ → ℕ → Truth → Truth
truth_put a b (equal x y) = equal (number_put a b x) (number_put a b y)
truth_put a b (less x y) = less (number_put a b x) (number_put a b y)
truth_put a b (negation p) = negation (truth_put a b p)
truth_put a b (conjunction p q) = conjunction (truth_put a b p) (truth_put a b q)
truth_put a b (disjunction p q) = disjunction (truth_put a b p) (truth_put a b q)
truth_put a b always = always

abbrev pub claim_put : ℕ → ℕ → Claim → Claim
claim_put a b c = record { says = truth_put a b c.says; mark = c.mark }

-- What the new unit's module is, where its drawing has no fault: the renamed module.
pub record Renamed (u : UnitModel) (a b : ℕ) (w : UnitModel) : Type 0 where
  pub drawing : w.meaning ≡ renamed u.meaning a b
  pub published : w.meaning.outline.fault ≡ None →
      SameModule (module_of w.meaning) (renamed_module (module_of u.meaning) a b)
  pub anew : MadeAnew w u.number u.rounds (map (claim_put a b) u.claims)

-- The module with the name hidden.
pub record Hidden (u : UnitModel) (n : ℕ) (w : UnitModel) : Type 0 where
  pub drawing : w.meaning ≡ hidden u.meaning n
  pub published : w.meaning.outline.fault ≡ None →
      SameModule (module_of w.meaning) (hidden_module (module_of u.meaning) n)
  pub anew : MadeAnew w u.number u.rounds u.claims

-- held stays held; what a run broke in a part it need not break in the whole
abbrev pub mark_in_whole : Mark → Mark
mark_in_whole open_mark = open_mark
mark_in_whole held = held
mark_in_whole broken = open_mark

abbrev pub claim_in_whole : Claim → Claim
claim_in_whole c = record { says = c.says; mark = mark_in_whole c.mark }

-- The composition. The left unit's number stays, and the larger count of rounds; the left unit's claims come first.
pub record Joined (l r w : UnitModel) : Type 0 where
  pub drawing : w.meaning ≡ joined l.meaning r.meaning
  pub published : w.meaning.outline.fault ≡ None →
      SameModule (module_of w.meaning) (composed (module_of l.meaning) (module_of r.meaning))
  pub anew : MadeAnew w l.number (max l.rounds r.rounds) (map claim_in_whole l.claims ++ map claim_in_whole r.claims)
