use Rattle.std.proofs.Common.{rules}
use Rattle.script.proofs.Names.{stands_still}
use Rattle.script.proofs.bindings.ByName+Binding.take_two.Goals as goal

pub remove-requires : goal.remove-requires
remove-requires c =
    (_, stands_still c.args.self.now c.take.new.self c.args.left.now c.args.right.now _ c.in_ok-first.ensures.1 (search rules) c.in_ok-drawing.ensures)
