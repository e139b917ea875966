-- The histories of a unit: it is sealed; calls are made, with whatever they carry, refused ones counted; it is renamed or hidden; a
-- join takes two histories.
use Rattle.std.specs.Prelude.{ℕ, List, [], ◌∷◌, ◌++◌, Some, None, Option}
use Rattle.model.specs.Meanings.{Meaning}
use Rattle.units.specs.Models.{UnitModel, standing_state}
use Rattle.life.specs.Piles.{Sealed, Renamed, Hidden, Joined}
use Rattle.life.specs.Rules.{Call, claim_call, certify_call, refute_call, open_call, fire_call, end_call, stop_call, Reply, number_reply, slip_reply, refusal_reply, Allows}

pub data History : UnitModel → Type 0 where
  sealing : (m : Meaning) (number : ℕ) (w : UnitModel) → Sealed m number w → History w
  calling : (u : UnitModel) (call : Call) (reply : Reply) (w : UnitModel) → History u →
      Allows u call reply w → History w
  renaming : (u : UnitModel) (a b : ℕ) (w : UnitModel) → History u → Renamed u a b w → History w
  hiding : (u : UnitModel) (n : ℕ) (w : UnitModel) → History u → Hidden u n w → History w
  joining : (l r w : UnitModel) → History l → History r → Joined l r w → History w

abbrev pub with_state : List (List ℕ) → Option (List ℕ) → List (List ℕ)
with_state ss None = ss
with_state ss (Some s) = ss ++ (s ∷ [])

-- an accepted end adds the state that stands then
abbrev pub stood_after_end : List (List ℕ) → Reply → UnitModel → List (List ℕ)
stood_after_end ss (number_reply n) w = with_state ss (standing_state w.phase)
stood_after_end ss (slip_reply s) w = ss
stood_after_end ss (refusal_reply r) w = ss

-- after an accepted stop none stands
abbrev pub stood_after_stop : List (List ℕ) → Reply → List (List ℕ)
stood_after_stop ss (number_reply n) = []
stood_after_stop ss (slip_reply s) = ss
stood_after_stop ss (refusal_reply r) = ss

abbrev pub stood_after : List (List ℕ) → Call → Reply → UnitModel → List (List ℕ)
stood_after ss (claim_call bytes) reply w = ss
stood_after ss (certify_call i bytes) reply w = ss
stood_after ss (refute_call i bytes) reply w = ss
stood_after ss (open_call given) reply w = ss
stood_after ss (fire_call slip a k) reply w = ss
stood_after ss (end_call slip) reply w = stood_after_end ss reply w
stood_after ss stop_call reply w = stood_after_stop ss reply

-- the states that stood since the unit was made or stopped, in their order; rounds that were withdrawn leave none
abbrev pub stood : {u : UnitModel} → History u → List (List ℕ)
stood (sealing m number w rule) = []
stood (calling u call reply w h rule) = stood_after (stood h) call reply w
stood (renaming u a b w h rule) = []
stood (hiding u n w h rule) = []
stood (joining l r w h k rule) = []
