use Rattle.std.proofs.Common.{[], refl, string_bytes}
use Rattle.any_drawing.specs.Leaves.{MeansGates}
use Rattle.script.specs.Refusals.{Refuses}
use Rattle.script.specs.Sessions.{DrawnFrom}
use Rattle.script.specs.declared.binding.Bound.TheVariants.{Drawing}
use Rattle.script.specs.declared.command.Command.TheVariants.{Gates}
use Rattle.script.proofs.Names.{made_after}
use Rattle.script.proofs.Sources.{by_source}
use Rattle.script.proofs.session.Session.gates.Goals as goal

pub returns : goal.returns
returns g c =
    let old = c.args.self.now.bindings in
    let means = rw c.as_slice.ensures.value at c.in_ok-list.ensures.means in
    let drawn = by_source MeansGates c.args.bytes c.in_ok-load.field-0 c.in_ok-list.list c.in_ok-load.ensures means in
    made_after old old c.keep.new.self.bindings [] (string_bytes c.args.name) (DrawnFrom MeansGates c.args.bytes) (Refuses old (Gates c.args.name c.args.bytes)) (Drawing c.in_ok-list.list) c.keep.result (λ w. refl) drawn c.keep.ensures
