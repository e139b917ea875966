-- Where a join, rename or hide has no fault, sealing judges the composed, renamed or hidden module.
use Rattle.std.proofs.Common.{◌≡◌, ◌↔◌, None}
use Rattle.composition.specs.Meanings.{renamed, hidden, joined}
use Rattle.model.specs.Meanings.{Meaning}
use Rattle.units.specs.Sealing.{verdict}
use Rattle.reactive.specs.Limits.{Limits}
use Rattle.reactive.specs.Modules.{module_of}
use Rattle.reactive.specs.Operations.{SameModule, composed, renamed_module, hidden_module}
use Rattle.reactive.specs.Reactive.{Module, IsModule}
use Rattle.reactive.specs.Statements.{OperationsAreJudgedRightly}
use Rattle.reactive.proofs.Fit.{fit_exactly}
use Rattle.reactive.proofs.Operations.{joins_are, hides_are}
use Rattle.reactive.proofs.Renamed.{renames_are}
use Rattle.reactive.proofs.Same.{same_modules}

judged : (m : Meaning) (P : Module) → m.outline.fault ≡ None → SameModule (module_of m) P → (verdict m ≡ None) ↔ (IsModule P × Limits m)
judged m P sound same =
    let alike = same_modules (module_of m) P same in
    (λ h. let f = (fit_exactly m).0 h in (alike.0 f.1, f.2), λ h. (fit_exactly m).1 (sound, alike.1 h.0, h.1))

pub operations_judged : OperationsAreJudgedRightly
operations_judged =
    record {
      joins = λ l r e. judged (joined l r) (composed (module_of l) (module_of r)) e (joins_are l r e);
      renames = λ m a b e. judged (renamed m a b) (renamed_module (module_of m) a b) e (renames_are m a b e);
      hides = λ m n e. judged (hidden m n) (hidden_module (module_of m) n) e (hides_are m n e);
    }
