use Rattle.std.proofs.Common.{ap, ◌∙◌}
use Rattle.model.specs.Rows.{row_items}
use Rattle.table.proofs.Told.{choice_told, place_told}
use Rattle.table.proofs.table.Table.place.Goals as goal

pub returns-clause-begins : goal.returns-clause-begins
returns-clause-begins c =
    place_told c.args.self.now c.args.atom c.in_ok-atom.field-0.now c.in_ok-atom.ensures c.args.round c.as_slice.result.now c.args.choice c.get.result c.copied.result
    (c.as_slice.ensures.items ∙ ap row_items c.in_round-places.ensures) c.get.ensures.lookup c.copied.ensures

pub returns-clause-stands : goal.returns-clause-stands
returns-clause-stands c =
    choice_told c.args.self.now c.args.atom c.in_ok-atom.field-0.now c.in_ok-atom.ensures c.args.round c.as_slice.result.now c.args.choice c.get.result c.copied.result
    (c.as_slice.ensures.items ∙ ap row_items c.in_round-places.ensures) c.get.ensures.lookup c.copied.ensures
