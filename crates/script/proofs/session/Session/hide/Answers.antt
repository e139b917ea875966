use Rattle.std.proofs.Common.{[], ◌∷◌, string_bytes}
use Rattle.script.specs.Refusals.{Refuses}
use Rattle.script.specs.Sessions.{Changes}
use Rattle.script.specs.declared.binding.Bound.TheVariants.{Drawing}
use Rattle.script.specs.declared.command.Command.TheVariants.{Hide}
use Rattle.script.proofs.Names.{gone_one, made_after}
use Rattle.script.proofs.session.Session.hide.Goals as goal

pub returns : goal.returns
returns c =
    let old = c.args.self.now.bindings in
    let below = string_bytes c.args.below in
    let taken = rw c.as_str.ensures.value at c.in_ok-below.ensures in
    let made : Changes old below _ (Drawing c.in_ok-drawn.drawn) = record { drawing = c.in_ok-below.below; stands = taken.0; changed = c.in_ok-drawn.ensures.means } in
    made_after old c.take.new.self c.keep.new.self.bindings (below ∷ []) (string_bytes c.args.name) _ (Refuses old (Hide c.args.name c.args.below c.args.hidden)) (Drawing c.in_ok-drawn.drawn) c.keep.result (gone_one old c.take.new.self below taken.1) made c.keep.ensures
