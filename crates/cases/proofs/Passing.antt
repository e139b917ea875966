-- An atom that sees 65,536 combinations of values: what it does at each is computed at all of them at once.
use Rattle.std.proofs.Common.{◌≡◌, ℕ, zero, suc, ◌<◌, Bool, true, false, ◌||◌, List, map, refl, ap, None, not-suc-le-zero, arith}
use Rattle.std.proofs.lemmas.Bool.{or_from}
use Rattle.language.specs.Expressions.{read_number, read_truth}
use Rattle.language.specs.Tables.{many, read_variable, read_variables, read_choice, read_atom, read_table}
use Rattle.model.specs.Meanings.{Meaning}
use Rattle.model.specs.Tests.{every, some, lowest, count}
use Rattle.model.specs.declared.Round.{Round}
use Rattle.model.specs.declared.Round.TheVariants.{Initial, Update}
use Rattle.model.proofs.Lowest.{clear_lowest}
use Rattle.theory.specs.Enumerations.{below, pairs, ranges}
use Rattle.units.specs.Counting.{product}
use Rattle.units.specs.Sealing.{awaits_through, badly_controlled, circular, sees_too_much, nothing_open, gives_outside, in_some_round, gets_stuck, leaves_range, sights, at_lowest, if_so, of_drawing, too_wide, verdict, ◌else◌}
use Rattle.units.specs.Units.{seal, verdict_of}
use Rattle.units.specs.declared.refusal.Refusal.TheVariants.{NotOneController, AwaitsItself, SeesTooMuch, GetsStuck, LeavesRange, TooWide}
use Rattle.units.proofs.Evidence.{else_from}
use Rattle.units.proofs.Listed.{all_fail}
use Rattle.cases.specs.Cases.{of_refusal, sees_two_bytes}
use Rattle.cases.specs.Statements.{TwoBytesAreNotTooMuch}

abbrev m : Meaning
m = sees_two_bytes 0

one_atom : (P : ℕ → Type 0) → P 0 → (a : ℕ) → a < 1 → P a
one_atom P h zero l = h
one_atom P h (suc a) l = absurd (omega arith)

nothing_fails : (test : Meaning → Round → ℕ → List ℕ × List ℕ → Bool) → ((r : Round) (seen : List ℕ × List ℕ) → test m r 0 seen ≡ false) → in_some_round m test 0 ≡ false
nothing_fails test h = or_from _ _ (all_fail (test m Initial 0) (sights m.outline Initial 0) (λ seen _. h Initial seen)) (all_fail (test m Update 0) (sights m.outline Update 0) (λ seen _. h Update seen))

always_open : (r : Round) (seen : List ℕ × List ℕ) → nothing_open m r 0 seen ≡ false
unfolding every some lowest below pairs ranges product count awaits_through read_number read_truth many read_variable read_variables read_choice read_atom read_table
always_open Initial seen = refl
always_open Update seen = refl

always_inside : (r : Round) (seen : List ℕ × List ℕ) → gives_outside m r 0 seen ≡ false
unfolding every some lowest below pairs ranges product count awaits_through read_number read_truth many read_variable read_variables read_choice read_atom read_table
always_inside Initial seen = refl
always_inside Update seen = refl

parts : (of_drawing m.outline.fault ≡ None) × (at_lowest NotOneController (lowest (badly_controlled m.outline) 32) ≡ None) × (at_lowest AwaitsItself (lowest (circular m.outline) m.outline.atoms) ≡ None) × (at_lowest SeesTooMuch (lowest (sees_too_much m.outline) m.outline.atoms) ≡ None) × (if_so TooWide (too_wide m) ≡ None) × (m.outline.atoms ≡ 1)
unfolding every some lowest below pairs ranges product count awaits_through read_number read_truth many read_variable read_variables read_choice read_atom read_table
parts = (refl, refl, refl, refl, refl, refl)

fit : verdict m ≡ None
fit =
    else_from (of_drawing m.outline.fault) _ parts.0
    (else_from (at_lowest NotOneController (lowest (badly_controlled m.outline) 32)) _ parts.1
    (else_from (at_lowest AwaitsItself (lowest (circular m.outline) m.outline.atoms)) _ parts.2
    (else_from (at_lowest SeesTooMuch (lowest (sees_too_much m.outline) m.outline.atoms)) _ parts.3
    (else_from (at_lowest GetsStuck (lowest (gets_stuck m) m.outline.atoms)) _ (ap (at_lowest GetsStuck) (clear_lowest (gets_stuck m) m.outline.atoms (λ a l. one_atom (λ a. gets_stuck m a ≡ false) (nothing_fails nothing_open always_open) a (rw (← parts.5) l))))
    (else_from (at_lowest LeavesRange (lowest (leaves_range m) m.outline.atoms)) _ (ap (at_lowest LeavesRange) (clear_lowest (leaves_range m) m.outline.atoms (λ a l. one_atom (λ a. leaves_range m a ≡ false) (nothing_fails gives_outside always_inside) a (rw (← parts.5) l))))
    parts.4)))))

pub two_bytes_pass : TwoBytesAreNotTooMuch
two_bytes_pass = ap of_refusal (else_from (verdict m) _ fit refl)
