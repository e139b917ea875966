use Rattle.script.proofs.bindings.ByName+Binding.take.Goals as goal

pub remove-requires : goal.remove-requires
remove-requires c = (_, c.in_ok-drawing.ensures)
