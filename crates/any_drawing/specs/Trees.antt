-- What a layer is seen as, over what the trees below it are seen as.
use Rattle.any_drawing.specs.Piles.{Pile, OfTable, OfGates, Joined, Renamed, Hidden}
use Rattle.any_drawing.specs.declared.tree.Node.{Node}
use Rattle.any_drawing.specs.declared.tree.Node.TheVariants.{Table, Gates, Join, Rename, Hide}

abbrev pub pile_of : Node → Pile
pile_of (Table table) = OfTable table.value
pile_of (Gates list) = OfGates list.value
pile_of (Join left right fault count) = Joined left.value right.value
pile_of (Rename below old new fault) = Renamed below.value old new
pile_of (Hide below name fault) = Hidden below.value name
