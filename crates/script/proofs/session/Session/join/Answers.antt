use Rattle.std.proofs.Common.{[], ◌∷◌, string_bytes}
use Rattle.script.specs.Refusals.{Refuses}
use Rattle.script.specs.Sessions.{Joins}
use Rattle.script.specs.declared.binding.Bound.TheVariants.{Drawing}
use Rattle.script.specs.declared.command.Command.TheVariants.{Join}
use Rattle.script.proofs.Names.{made_after}
use Rattle.script.proofs.session.Session.join.Goals as goal

pub returns : goal.returns
returns c =
    let old = c.args.self.now.bindings in
    let left = string_bytes c.args.left in
    let right = string_bytes c.args.right in
    let two = rw (c.as_str.ensures.value, c.as_str-2.ensures.value) at c.in_ok-left.ensures in
    let made : Joins old left right (Drawing c.in_ok-joined.joined) =
    record {
      apart = two.apart;
      left_drawing = c.in_ok-left.left;
      left_stands = two.left_stood;
      right_drawing = c.in_ok-left.right;
      right_stands = two.right_stood;
      joins = c.in_ok-joined.ensures.means;
    } in
    made_after old c.take_two.new.self c.keep.new.self.bindings (left ∷ right ∷ []) (string_bytes c.args.name) (Joins old left right) (Refuses old (Join c.args.name c.args.left c.args.right)) (Drawing c.in_ok-joined.joined) c.keep.result two.gone made c.keep.ensures
