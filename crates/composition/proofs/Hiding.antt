-- A module with a name hidden does what it did.
use Rattle.std.proofs.Common.{◌≡◌, ℕ, false, List, pos, None, Option, sym, refl, ◌∙◌}
use Rattle.model.specs.Meanings.{Meaning}
use Rattle.model.specs.States.{yields, nothing}
use Rattle.model.specs.declared.Fault.{Fault}
use Rattle.model.specs.declared.Round.{Round}
use Rattle.model.specs.declared.Round.TheVariants.{Initial, Update}
use Rattle.composition.proofs.Faults.{sound_is}
use Rattle.composition.proofs.Parts.{yields_same}
use Rattle.composition.proofs.Trajectories.{Simulates, reachable_along}
use Rattle.composition.specs.Same.{SameAtom}
use Rattle.composition.specs.Faults.{fault_of_hidden}
use Rattle.composition.specs.Meanings.{hidden}
use Rattle.composition.specs.Statements.{Corresponds}

module _ (m : Meaning) (name : ℕ) (sound : fault_of_hidden m.outline name ≡ None) where
  abbrev whole : Meaning
  whole = hidden m name

  abbrev found : Option Fault
  found = fault_of_hidden m.outline name

  hidden_atom : (a : ℕ) → SameAtom whole a m a
  hidden_atom a =
      record {
        controls = λ n. sound_is found false (m.outline.controls a n) sound;
        reads = λ n. sound_is found false (m.outline.reads a n) sound;
        awaits = λ n. sound_is found false (m.outline.awaits a n) sound;
        choices = λ r. sound_is found 0 (m.acts.choices r a) sound;
        opens = λ r k old new. sound_is found false (m.acts.opens r a k old new) sound;
        gives = λ r k n old new. sound_is found (pos 0) (m.acts.gives r a k n old new) sound;
      }

  -- hiding changes no round
  pub yields_hidden : (r : Round) (s t : List ℕ) → yields whole r s t ≡ yields m r s t
  yields_hidden = yields_same whole m (λ n. sound_is found 0 (m.outline.top n) sound) (sound_is found 0 m.outline.atoms sound) hidden_atom

  hidden_simulates : Simulates whole m (λ t. t)
  hidden_simulates =
      record {
        starts = λ t h. record { yielded = sym (yields_hidden Initial nothing t) ∙ h.yielded };
        steps = λ s t h. record { yielded = sym (yields_hidden Update s t) ∙ h.yielded };
      }

  simulates_hidden : Simulates m whole (λ t. t)
  simulates_hidden =
      record {
        starts = λ t h. record { yielded = yields_hidden Initial nothing t ∙ h.yielded };
        steps = λ s t h. record { yielded = yields_hidden Update s t ∙ h.yielded };
      }

  pub hidden_corresponds : Corresponds whole m (λ t. t)
  hidden_corresponds =
      record {
        there = reachable_along hidden_simulates;
        back = reachable_along simulates_hidden;
        undone = λ t h. refl;
        redone = λ t h. refl;
      }
