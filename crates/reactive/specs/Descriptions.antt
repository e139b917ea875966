-- The modules of which theorems of reactive modules are stated: any that tests tell, any that drawings mean, and all that
-- the operations make of them.
use Rattle.std.specs.Prelude.{◌≡◌, ℕ, Bool, true}
use Rattle.model.specs.Meanings.{Meaning}
use Rattle.reactive.specs.Modules.{Below, module_of}
use Rattle.reactive.specs.Operations.{renamed_module, composed, hidden_module}
use Rattle.reactive.specs.Reactive.{Valuation, Module}

-- Tests that tell a module: which names are of each kind, which values each has, how many atoms there are and, for each,
-- which names it controls, reads and awaits, and where its actions lead. Types may be infinite here.
pub record Tests : Type 0 where
  pub private : ℕ → Bool
  pub interface : ℕ → Bool
  pub external : ℕ → Bool
  pub typed : ℕ → ℕ → Bool
  pub atoms : ℕ
  pub controls : ℕ → ℕ → Bool
  pub reads : ℕ → ℕ → Bool
  pub awaits : ℕ → ℕ → Bool
  pub init : ℕ → Valuation → Valuation → Bool
  pub update : ℕ → Valuation → Valuation → Valuation → Bool

abbrev pub tested : Tests → Module
tested t =
    record {
      private = λ n. t.private n ≡ true;
      interface = λ n. t.interface n ≡ true;
      external = λ n. t.external n ≡ true;
      typed = λ n v. t.typed n v ≡ true;
      Index = Below t.atoms;
      atom = λ i. record {
        controls = λ n. t.controls i.number n ≡ true;
        reads = λ n. t.reads i.number n ≡ true;
        awaits = λ n. t.awaits i.number n ≡ true;
        init = λ new u. t.init i.number new u ≡ true;
        update = λ old new u. t.update i.number old new u ≡ true;
      };
    }

pub data Description : Type 0 where
  by_tests : Tests → Description
  by_drawing : Meaning → Description
  composition : Description → Description → Description
  renaming : Description → ℕ → ℕ → Description
  hiding : Description → ℕ → Description

abbrev pub described : Description → Module
described (by_tests t) = tested t
described (by_drawing m) = module_of m
described (composition d e) = composed (described d) (described e)
described (renaming d x y) = renamed_module (described d) x y
described (hiding d x) = hidden_module (described d) x
