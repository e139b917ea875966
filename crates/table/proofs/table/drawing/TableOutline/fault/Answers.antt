use Rattle.std.proofs.Common.{ap, ◌∙◌}
use Rattle.std.specs.Option.{option_copied}
use Rattle.table.proofs.Told.{fault_told}
use Rattle.table.proofs.table.drawing.TableOutline.fault.Goals as goal

pub returns : goal.returns
returns c = c.copied.ensures ∙ ap option_copied c.err.ensures.value ∙ fault_told c.args.self.now c.as_ref.result c.as_ref.ensures.value
