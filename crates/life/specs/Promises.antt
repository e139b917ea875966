-- What is promised of the rules, the histories and the law.
use Rattle.std.specs.Prelude.{◌≡◌, ℕ, ◌↔◌, length}
use Rattle.units.specs.Life.{Came}
use Rattle.units.specs.Models.{UnitModel}
use Rattle.units.specs.Units.{Answer, done, refused, Outcome, seal, rename_unit, hide_unit, join_units, claim, certify, refute, open_round, fire, end_round, stop}
use Rattle.model.specs.Meanings.{Meaning}
use Rattle.life.specs.Histories.{History, stood}
use Rattle.life.specs.Law.{Lawful}
use Rattle.life.specs.Lives.{HasLawfulLife}
use Rattle.life.specs.Piles.{Sealed, Renamed, Hidden, Joined}
use Rattle.life.specs.Rules.{Call, claim_call, certify_call, refute_call, open_call, fire_call, end_call, stop_call, Reply, number_reply, slip_reply, refusal_reply, Allows}

-- what the definitions answer to a call, and what they leave
abbrev pub reply_of : {A : Type 0} → (A → Reply) → Answer A → Reply
reply_of told (done a) = told a
reply_of told (refused r) = refusal_reply r

-- this is answered, and this is left
pub record Is {A : Type 0} (told : A → Reply) (o : Outcome A) (reply : Reply) (w : UnitModel) : Type 0 where
  pub answered : reply ≡ reply_of told o.answer
  pub left : w ≡ o.unit

abbrev pub Defined : UnitModel → Call → Reply → UnitModel → Type 0
Defined u (claim_call bytes) = Is number_reply (claim u bytes)
Defined u (certify_call i bytes) = Is number_reply (certify u i bytes)
Defined u (refute_call i bytes) = Is number_reply (refute u i bytes)
Defined u (open_call given) = Is slip_reply (open_round u given)
Defined u (fire_call slip a k) = Is number_reply (fire u slip a k)
Defined u (end_call slip) = Is number_reply (end_round u slip)
Defined u stop_call = Is number_reply (stop u)

-- what a call can carry: a round is opened with 32 values
abbrev pub Carried : Call → Type 0
Carried (claim_call bytes) = Unit {0}
Carried (certify_call i bytes) = Unit {0}
Carried (refute_call i bytes) = Unit {0}
Carried (open_call given) = length given ≡ 32
Carried (fire_call slip a k) = Unit {0}
Carried (end_call slip) = Unit {0}
Carried stop_call = Unit {0}

-- What the rules allow is exactly what the call's definition answers and leaves, of every unit that can come from the site.
abbrev pub TheRulesSayWhatCallsDo : Type 0
TheRulesSayWhatCallsDo = (u : UnitModel) → Came u → (call : Call) → Carried call →
    (reply : Reply) (w : UnitModel) → Allows u call reply w ↔ Defined u call reply w

-- So it is with sealing and with piles of units.
pub record TheRulesSayWhatPilesAre : Type 0 where
  pub seals : (m : Meaning) (number : ℕ) (w : UnitModel) → Sealed m number w ↔ (w ≡ seal m number)
  pub renames : (u : UnitModel) → Came u → (a b : ℕ) (w : UnitModel) → Renamed u a b w ↔
      (w ≡ rename_unit u a b)
  pub hides : (u : UnitModel) → Came u → (n : ℕ) (w : UnitModel) → Hidden u n w ↔ (w ≡ hide_unit u n)
  pub joins : (l r : UnitModel) → Came l → Came r → (w : UnitModel) → Joined l r w ↔
      (w ≡ join_units l r)

-- Histories by the rules are exactly what units can have come through.
abbrev pub HistoriesAreLives : Type 0
HistoriesAreLives = (u : UnitModel) → (History u → Came u) × (Came u → History u)

-- Every unit met anywhere in any history is lawful.
abbrev pub EveryHistoryIsLawful : Type 0
EveryHistoryIsLawful = (u : UnitModel) (h : History u) → Lawful u (stood h)

-- So where it is kept of a unit that it can have come from the site, however it came, its life is lawful.
abbrev pub LivesAreLawful : Type 0
LivesAreLawful = (u : UnitModel) → ∥ Came u ∥₁ → HasLawfulLife u
