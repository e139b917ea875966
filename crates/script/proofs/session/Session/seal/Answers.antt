use Rattle.std.proofs.Common.{[], ◌∷◌, string_bytes, ap, ◌∙◌, rules}
use Rattle.script.specs.Bindings.{unit_of}
use Rattle.script.specs.Refusals.{Refuses}
use Rattle.script.specs.Sessions.{Seals}
use Rattle.script.specs.declared.binding.Bound.TheVariants.{SealedUnit}
use Rattle.script.specs.declared.command.Command.TheVariants.{Seal}
use Rattle.script.proofs.Names.{gone_one, made_after}
use Rattle.script.proofs.session.Session.seal.Goals as goal

pub returns : goal.returns
returns c =
    let old = c.args.self.now.bindings in
    let name = string_bytes c.args.drawing in
    let taken = rw c.as_str.ensures.value at c.in_ok-drawn.ensures in
    let made : Seals old name c.args.number (SealedUnit c.in_ok-sealed.sealed) =
    record {
      drawing = c.in_ok-drawn.drawn;
      stands = taken.0;
      sealed = ap unit_of c.in_ok-sealed.ensures.ok ∙ c.seal.ensures.model;
    } in
    made_after old c.take.new.self c.keep.new.self.bindings (name ∷ []) (string_bytes c.args.name) (Seals old name c.args.number) (Refuses old (Seal c.args.name c.args.drawing c.args.number)) (SealedUnit c.in_ok-sealed.sealed) c.keep.result (gone_one old c.take.new.self name taken.1) made c.keep.ensures

-- want of memory, after which the drawing is gone
pub returns-in_err-sealed : goal.returns-in_err-sealed
returns-in_err-sealed c =
    let taken = rw c.as_str.ensures.value at c.in_ok-drawn.ensures in
    let gone = gone_one c.args.self.now.bindings c.take.new.self (string_bytes c.args.drawing) taken.1 in
    search (rules, gone)
