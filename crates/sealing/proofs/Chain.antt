-- Checks made one after the other.
use Rattle.std.proofs.Common.{◌≡◌, Some, None, Option, sym, refl, ap, ◌∙◌}
use Rattle.model.specs.Meanings.{OutlineFacts, Meaning}
use Rattle.model.specs.Tests.{lowest}
use Rattle.units.specs.Sealing.{badly_controlled, circular, sees_too_much, gets_stuck, leaves_range, too_wide, at_lowest, if_so, of_drawing, verdict, ◌else◌}
use Rattle.units.specs.declared.refusal.Refusal.{Refusal}
use Rattle.units.specs.declared.refusal.Refusal.TheVariants.{NotOneController, AwaitsItself, SeesTooMuch, GetsStuck, LeavesRange, TooWide}

-- which of two comes first does not depend on the order in which they are put together
chain : (f a b c p q w : Option Refusal) → ((((f else a) else b) else c) else (p else q)) else w ≡ f else a else b else c else p else q else w
chain (Some f) a b c p q w = refl
chain None (Some a) b c p q w = refl
chain None None (Some b) c p q w = refl
chain None None None (Some c) p q w = refl
chain None None None None (Some p) q w = refl
chain None None None None None (Some q) w = refl
chain None None None None None None w = refl

-- the verdict, by the outline itself
abbrev verdict_by : Meaning → OutlineFacts → Option Refusal
verdict_by m o =
    of_drawing o.fault
    else at_lowest NotOneController (lowest (badly_controlled o) 32)
    else at_lowest AwaitsItself (lowest (circular o) o.atoms)
    else at_lowest SeesTooMuch (lowest (sees_too_much o) o.atoms)
    else at_lowest GetsStuck (lowest (gets_stuck m) o.atoms)
    else at_lowest LeavesRange (lowest (leaves_range m) o.atoms)
    else if_so TooWide (too_wide m)

-- what each check leaves, one after the other
pub judged : (m : Meaning) (o : OutlineFacts) → m.outline ≡ o → (f a b c d w : Option Refusal) →
    f ≡ of_drawing o.fault →
    a ≡ f else at_lowest NotOneController (lowest (badly_controlled o) 32) →
    b ≡ a else at_lowest AwaitsItself (lowest (circular o) o.atoms) →
    c ≡ b else at_lowest SeesTooMuch (lowest (sees_too_much o) o.atoms) →
    d ≡ c else (at_lowest GetsStuck (lowest (gets_stuck m) o.atoms) else at_lowest LeavesRange (lowest (leaves_range m) o.atoms)) →
    w ≡ d else if_so TooWide (too_wide m) → w ≡ verdict m
judged m o agree f a b c d w is_f is_a is_b is_c is_d is_w =
    is_w
    ∙ ap (λ x. x else if_so TooWide (too_wide m)) (is_d ∙ ap (λ x. x else (stuck else range)) (is_c ∙ ap (λ x. x else sight) (is_b ∙ ap (λ x. x else circle) (is_a ∙ ap (λ x. x else control) is_f))))
    ∙ chain (of_drawing o.fault) control circle sight stuck range (if_so TooWide (too_wide m))
    ∙ ap (verdict_by m) (sym agree)
  where
    control : Option Refusal
    control = at_lowest NotOneController (lowest (badly_controlled o) 32)

    circle : Option Refusal
    circle = at_lowest AwaitsItself (lowest (circular o) o.atoms)

    sight : Option Refusal
    sight = at_lowest SeesTooMuch (lowest (sees_too_much o) o.atoms)

    stuck : Option Refusal
    stuck = at_lowest GetsStuck (lowest (gets_stuck m) o.atoms)

    range : Option Refusal
    range = at_lowest LeavesRange (lowest (leaves_range m) o.atoms)
