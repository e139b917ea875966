use Rattle.std.proofs.Common.{◌≡◌, ◌+◌, ◌≤◌, length, refl, sym, subst, ◌∙◌, arith}
use Rattle.table.specs.Items.{after_item, item_place}
use Rattle.table.proofs.Walks.{place_none, one_later}
use Rattle.table.proofs.items.Item.later.Goals as goal

pub loop-init : goal.loop-init
loop-init c = (refl, sym (place_none c.args.self.now.bytes.now c.args.self.now.place))

pub at-item-requires : goal.at-item-requires
at-item-requires c =
    let bs = c.args.self.now.bytes.now in
    let next : c.end.result ≡ item_place bs c.args.self.now.place (c.loop.counter + 1) = one_later c.args.self.now.place c.loop.counter c.loop.invariant.0 c.loop.invariant.1 c.end.ensures in
    subst (λ xs. after_item xs c.end.result ≤ length xs) (sym c.loop.invariant.0) (subst (λ k. after_item bs k ≤ length bs) (sym next) (c.requires (c.loop.counter + 1) (omega arith)))

pub loop-preserved : goal.loop-preserved
loop-preserved c =
    (c.at-item.ensures.0 ∙ c.loop.invariant.0, c.at-item.ensures.1 ∙ one_later c.args.self.now.place c.loop.counter c.loop.invariant.0 c.loop.invariant.1 c.end.ensures)
