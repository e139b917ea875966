-- The theorems of reactive modules, of all described ones.
use Rattle.reactive.specs.Descriptions.{described}
use Rattle.reactive.specs.Theorems.{CompatibleModulesCompose, CompositionsMoveAsBoth, RenamedModulesAreModules, HiddenModulesAreModules, EveryModuleHasAnOrder, EveryOrderLeadsTheSame, EveryRoundCanBeCompleted}
use Rattle.reactive.proofs.Completing.{leads_the_same, can_be_completed}
use Rattle.reactive.proofs.Composing.{composed_is_module, moves_as_both}
use Rattle.reactive.proofs.Deciding.{decided}
use Rattle.reactive.proofs.HiddenModules.{hidden_is_module}
use Rattle.reactive.proofs.Ordered.{in_order}
use Rattle.reactive.proofs.RenamedModules.{renamed_is_module}

pub compatible_compose : CompatibleModulesCompose
compatible_compose d e p q both = composed_is_module (described d) (described e) p q both.apart both.same_values (decided d).interface (decided e).interface both.acyclic

pub compositions_move : CompositionsMoveAsBoth
compositions_move d e p q both = moves_as_both (described d) (described e) p q both.apart both.same_values (decided d).interface (decided e).interface

pub renamed_modules : RenamedModulesAreModules
renamed_modules d x y p free = renamed_is_module (described d) p x y free

pub hidden_modules : HiddenModulesAreModules
hidden_modules d x p = hidden_is_module (described d) p x

pub has_order : EveryModuleHasAnOrder
has_order d p = in_order (described d) p (decided d)

pub order_leads : EveryOrderLeadsTheSame
order_leads d p order ordered = leads_the_same (described d) p (decided d).controls order ordered

pub rounds_completed : EveryRoundCanBeCompleted
rounds_completed d p = let (order, ordered) = has_order d p in can_be_completed (described d) p (decided d).controls order ordered
