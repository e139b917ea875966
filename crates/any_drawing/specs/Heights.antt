-- Each part of a pile is less high than the pile.
use Rattle.std.specs.Prelude.{◌≤◌, max}
use Rattle.std.proofs.Common.{arith}
use Rattle.any_drawing.specs.Piles.{height}
use Rattle.any_drawing.specs.Trees.{pile_of}
use Rattle.any_drawing.specs.declared.tree.Node.{Node}
use Rattle.any_drawing.specs.declared.tree.Node.TheVariants.{Table, Gates, Join, Rename, Hide}
use Rattle.any_drawing.specs.declared.tree.AnyDrawing.TheDeep.{deep-Node}

pub falls : (n : Node) → max (deep-Node n) 0 ≤ height (pile_of n)
falls (Table table) = omega arith
falls (Gates list) = omega arith
falls (Join left right fault count) = omega arith
falls (Rename below old new fault) = omega arith
falls (Hide below name fault) = omega arith
