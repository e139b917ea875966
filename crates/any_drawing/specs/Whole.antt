-- What a layer keeps from the call that made it on: what stands beside its parts is what was judged of them.
use Rattle.std.specs.Prelude.{◌≡◌, ℕ, ◌<◌, None, Option}
use Rattle.model.specs.Meanings.{OutlineFacts}
use Rattle.model.specs.declared.Fault.{Fault}
use Rattle.composition.specs.Faults.{fault_of_renamed, fault_of_hidden, fault_of_joined}
use Rattle.any_drawing.specs.Piles.{pile_outline}
use Rattle.any_drawing.specs.declared.tree.Node.{Node}
use Rattle.any_drawing.specs.declared.tree.Node.TheVariants.{Table, Gates, Join, Rename, Hide}

-- a join, with its fault and how many atoms the left part has
pub record WholeJoin (l r : OutlineFacts) (fault : Option Fault) (count : ℕ) : Type 0 where
  pub judged : fault ≡ fault_of_joined l r
  pub counted : count ≡ l.atoms

-- a rename of a to b, which are names where there is no fault
pub record WholeRename (o : OutlineFacts) (a b : ℕ) (fault : Option Fault) : Type 0 where
  pub judged : fault ≡ fault_of_renamed o a b
  pub old_name : fault ≡ None → a < 32
  pub new_name : fault ≡ None → b < 32

abbrev pub Whole : Node → Type 0
Whole (Table table) = Unit {0}
Whole (Gates list) = Unit {0}
Whole (Join left right fault count) = WholeJoin (pile_outline left.value) (pile_outline right.value) fault count
Whole (Rename below old new fault) = WholeRename (pile_outline below.value) old new fault
Whole (Hide below name fault) = fault ≡ fault_of_hidden (pile_outline below.value) name
