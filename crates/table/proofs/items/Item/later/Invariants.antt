use Rattle.table.specs.Items.{item_place}
use Rattle.table.specs.Stands.{StandsAt}
use Rattle.table.proofs.items.Item.later.Given as goal

abbrev pub invariant-loop : goal.invariant-loop
invariant-loop l = StandsAt l.self.bytes.now (item_place l.self.bytes.now l.self.place l.counter) l.item
