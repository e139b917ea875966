-- A drawing is fit exactly when nothing is wrong with it, its module is a reactive module, and it stays within the limits.
use Rattle.std.proofs.Common.{◌≡◌, ℕ, ◌+◌, ◌<◌, ◌≤◌, false, None, sym, ap, ◌∙◌, ⊎_elim, arith}
use Rattle.std.proofs.lemmas.Bool.{true≢false, le-ltb, ltb-false}
use Rattle.composition.specs.Faults.{is_private}
use Rattle.model.specs.Meanings.{Meaning}
use Rattle.model.specs.Tests.{lowest}
use Rattle.model.specs.declared.Round.{Round}
use Rattle.model.specs.declared.Round.TheVariants.{Initial, Update}
use Rattle.model.proofs.Lowest.{lowest_clear, clear_lowest}
use Rattle.theory.specs.Enumerations.{below}
use Rattle.theory.proofs.Enumerations.{below_exact}
use Rattle.units.specs.Sealing.{owned, badly_controlled, circular, sight, sees_too_much, gets_stuck, leaves_range, width, at_lowest, if_so, of_drawing, verdict}
use Rattle.units.specs.declared.refusal.Refusal.TheVariants.{AwaitsItself, GetsStuck, LeavesRange, NotOneController, SeesTooMuch, TooWide}
use Rattle.units.proofs.Evidence.{else_parts, else_from, at_lowest_parts, if_so_parts, of_drawing_parts}
use Rattle.reactive.specs.Limits.{Limits}
use Rattle.reactive.specs.Modules.{module_of}
use Rattle.reactive.specs.Reactive.{Plus.one, IsDeclaration, IsModule}
use Rattle.reactive.specs.Statements.{FitExactlyWhenAModuleWithinLimits, DrawingsHaveFiniteTypes}
use Rattle.reactive.proofs.Acting.{Runs, runs_where, never_stuck, never_outside}
use Rattle.reactive.proofs.Awaiting.{NoCircle, acyclic_from, no_circle}
use Rattle.reactive.proofs.Counting.{at_most, at_most_back}
use Rattle.reactive.proofs.Limits.{limits_of}
use Rattle.reactive.proofs.Controlling.{WellControlled, controls_exactly, controls_once, well_controlled}
use Rattle.reactive.proofs.Numbers.{numbers, numbers_all}
use Rattle.reactive.proofs.States.{variable_from, variable_there}

-- what each check of sealing leaves
pub record Passed (m : Meaning) : Type 0 where
  pub sound : m.outline.fault ≡ None
  pub controlled : WellControlled m
  pub uncircled : NoCircle m
  pub sights : (a : ℕ) → a < m.outline.atoms → sight m.outline a ≤ 65536
  pub free : (a : ℕ) → a < m.outline.atoms → gets_stuck m a ≡ false
  pub inside : (a : ℕ) → a < m.outline.atoms → leaves_range m a ≡ false
  pub ways : width m ≤ 1048576

module _ (m : Meaning) where
  pub passed : verdict m ≡ None → Passed m
  passed h =
      let one = else_parts (of_drawing m.outline.fault) _ h in
      let two = else_parts (at_lowest NotOneController (lowest (badly_controlled m.outline) 32)) _ one.1 in
      let three = else_parts (at_lowest AwaitsItself (lowest (circular m.outline) m.outline.atoms)) _ two.1 in
      let four = else_parts (at_lowest SeesTooMuch (lowest (sees_too_much m.outline) m.outline.atoms)) _ three.1 in
      let five = else_parts (at_lowest GetsStuck (lowest (gets_stuck m) m.outline.atoms)) _ four.1 in
      let six = else_parts (at_lowest LeavesRange (lowest (leaves_range m) m.outline.atoms)) _ five.1 in
      record {
        sound = of_drawing_parts m.outline.fault one.0;
        controlled = lowest_clear (badly_controlled m.outline) 32 (at_lowest_parts NotOneController _ two.0);
        uncircled = lowest_clear (circular m.outline) m.outline.atoms (at_lowest_parts AwaitsItself _ three.0);
        sights = λ a l. ltb-false 65536 (sight m.outline a) (lowest_clear (sees_too_much m.outline) m.outline.atoms (at_lowest_parts SeesTooMuch _ four.0) a l);
        free = lowest_clear (gets_stuck m) m.outline.atoms (at_lowest_parts GetsStuck _ five.0);
        inside = lowest_clear (leaves_range m) m.outline.atoms (at_lowest_parts LeavesRange _ six.0);
        ways = ltb-false 1048576 (width m) (if_so_parts TooWide _ six.1);
      }

  passes : Passed m → verdict m ≡ None
  passes p =
      else_from (of_drawing m.outline.fault) _ (ap of_drawing p.sound)
      (else_from (at_lowest NotOneController (lowest (badly_controlled m.outline) 32)) _ (ap (at_lowest NotOneController) (clear_lowest (badly_controlled m.outline) 32 p.controlled))
      (else_from (at_lowest AwaitsItself (lowest (circular m.outline) m.outline.atoms)) _ (ap (at_lowest AwaitsItself) (clear_lowest (circular m.outline) m.outline.atoms p.uncircled))
      (else_from (at_lowest SeesTooMuch (lowest (sees_too_much m.outline) m.outline.atoms)) _ (ap (at_lowest SeesTooMuch) (clear_lowest (sees_too_much m.outline) m.outline.atoms (λ a l. le-ltb 65536 (sight m.outline a) (p.sights a l))))
      (else_from (at_lowest GetsStuck (lowest (gets_stuck m) m.outline.atoms)) _ (ap (at_lowest GetsStuck) (clear_lowest (gets_stuck m) m.outline.atoms p.free))
      (else_from (at_lowest LeavesRange (lowest (leaves_range m) m.outline.atoms)) _ (ap (at_lowest LeavesRange) (clear_lowest (leaves_range m) m.outline.atoms p.inside))
      (ap (if_so TooWide) (le-ltb 1048576 (width m) p.ways)))))))

  declared : IsDeclaration (module_of m)
  declared =
      record {
        finite = (below 32, λ x v. (below_exact 32).complete x (m.outline_laws.names x (variable_there m x v)));
        private_or_interface = λ x p i. true≢false (ap is_private (sym p ∙ i));
        controlled_or_external = λ x c e. ⊎_elim (λ p. true≢false (ap owned (sym p ∙ e))) (λ i. true≢false (ap owned (sym i ∙ e))) c;
      }

  pub fit_module : Passed m → IsModule (module_of m)
  fit_module p =
      record {
        declaration = declared;
        finite = (numbers m.outline.atoms m.outline.atoms (omega arith), λ i. numbers_all m.outline.atoms m.outline.atoms (omega arith) i i.low);
        atoms = λ i. record {
          controls = λ x c. variable_from m x (m.outline_laws.controls_known i.number x c).1;
          reads = λ x c. variable_from m x (m.outline_laws.reads_known i.number x c).1;
          awaits = λ x c. variable_from m x (m.outline_laws.awaits_known i.number x c).1;
          apart = λ x w c. let itself = one (record { atom = i; controls = c; awaits = w }) in acyclic_from m p.uncircled x x itself itself;
          init = runs_where m i.number (p.free i.number i.low) (p.inside i.number i.low) Initial;
          update = runs_where m i.number (p.free i.number i.low) (p.inside i.number i.low) Update;
        };
        controls = controls_exactly m p.controlled;
        one_controller = controls_once m p.controlled;
        acyclic = acyclic_from m p.uncircled;
      }

  -- the actions of a module's atoms are executable
  module _ (p : IsModule (module_of m)) (a : ℕ) (l : a < m.outline.atoms) where
    runs : (r : Round) → Runs m a r
    runs Initial = (p.atoms (record { number = a; low = l })).init
    runs Update = (p.atoms (record { number = a; low = l })).update

    pub module_free : gets_stuck m a ≡ false
    module_free = never_stuck m a runs

    pub module_inside : leaves_range m a ≡ false
    module_inside = never_outside m a runs

  module_fit : m.outline.fault ≡ None → IsModule (module_of m) → Limits m → Passed m
  module_fit sound p limits =
      record {
        sound = sound;
        controlled = well_controlled m (λ n c. (p.controls n).0 c) p.one_controller;
        uncircled = no_circle m p.acyclic;
        sights = λ a l. at_most_back ((limits_of m).sight_counts a) 65536 (limits.sights a l);
        free = module_free p;
        inside = module_inside p;
        ways = at_most_back (limits_of m).width_counts 1048576 limits.ways;
      }

pub fit_exactly : FitExactlyWhenAModuleWithinLimits
fit_exactly m = (
  λ h. let p = passed m h in (p.sound, fit_module m p, record { sights = λ a l. at_most ((limits_of m).sight_counts a) 65536 (p.sights a l); ways = at_most (limits_of m).width_counts 1048576 p.ways }),
  λ h. passes m (module_fit m h.0 h.1 h.2),
)

pub finite_types : DrawingsHaveFiniteTypes
finite_types m =
    record {
      some_value = λ x v. (0, omega arith);
      finite_values = λ x v. (below (m.outline.top x + 1), λ y l. (below_exact (m.outline.top x + 1)).complete y (omega arith));
    }
