-- What the worked cases show.
use Rattle.std.specs.Prelude.{◌≡◌, map}
use Rattle.composition.specs.Meanings.{joined}
use Rattle.cases.specs.Cases.{Case, answer_to, verdict_on, certifying, refuting, accepted, sees_two_bytes, wires, cases, inverter, always_on, off_at_1}

-- every case has the answer that stands beside it
abbrev pub WorkedCasesComeOut : Type 0
WorkedCasesComeOut = map (λ (c : Case). answer_to c.asked) cases ≡ map (λ (c : Case). c.answer) cases

-- An atom that sees 65,536 combinations of values passes.
abbrev pub TwoBytesAreNotTooMuch : Type 0
TwoBytesAreNotTooMuch = answer_to (verdict_on (sees_two_bytes 0)) ≡ accepted 0

-- A run that broke a part need not break the join: an inverter shows 1 when its input is 0, and joined with a module that
-- keeps that input at 1 it never does.
pub record BrokenOnAPartHeldOnTheJoin : Type 0 where
  pub broken : answer_to (refuting (inverter 0 1) off_at_1 (wires 0 1 0)) ≡ accepted 1
  pub held : answer_to (certifying (joined (inverter 0 1) always_on) off_at_1 (wires 1 0 0)) ≡ accepted 2
