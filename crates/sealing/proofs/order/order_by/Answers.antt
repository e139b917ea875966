use Rattle.std.proofs.Common.{◌≡◌, sym, refl, ◌∙◌, subst, arith, length-set}
use Rattle.model.specs.Sets.{has}
use Rattle.model.proofs.Lowest.{lowest_found}
use Rattle.sealing.specs.Awaits.{direct}
use Rattle.sealing.specs.Orders.{ready}
use Rattle.sealing.proofs.Pinned.{pinned_none, pinned_more, pinned_all, pinned_stuck}
use Rattle.sealing.proofs.Placing.{Placed, placed_none, placed_more, all_placed, not_all}
use Rattle.sealing.proofs.Rest.{zeros_blank, zeros_more, zeros_past}
use Rattle.sealing.proofs.order.order_by.Goals as goal

pub loop-place-init : goal.loop-place-init
loop-place-init c =
    let awaits = direct c.args.table.now in
    let n = c.args.table.now.atoms in
    record {
      long = refl;
      pinned = pinned_none awaits n (has c.none-placed.result) c.none-placed.ensures;
      placed = placed_none awaits n _ (has c.none-placed.result) c.none-placed.ensures;
      rest = zeros_blank;
    }

pub returns-in_default : goal.returns-in_default
returns-in_default c =
    let awaits = direct c.args.table.now in
    let n = c.args.table.now.atoms in
    let before = c.loop-place.invariant in
    let none = sym c.next.ensures ∙ c.in_default.is in
    record {
      long = before.long;
      pinned = pinned_stuck awaits n c.loop-place.order (has c.loop-place.placed) c.loop-place.place (omega arith) before.pinned none;
      ordered = λ never. absurd (not_all awaits n c.loop-place.order (has c.loop-place.placed) c.loop-place.place (omega arith) before.placed (never (has c.loop-place.placed) none));
      rest = zeros_past c.loop-place.order c.loop-place.place n (omega arith) before.rest;
    }

pub loop-place-preserved : goal.loop-place-preserved
loop-place-preserved c =
    let awaits = direct c.args.table.now in
    let n = c.args.table.now.atoms in
    let before = c.loop-place.invariant in
    let is = sym c.next.ensures ∙ c.in-Some.is in
    let next = lowest_found (ready awaits n (has c.loop-place.placed)) n c.in-Some.atom is in
    let few = c.args.table.now.few in
    record {
      long = length-set c.loop-place.order c.loop-place.place c.in-Some.atom ∙ before.long;
      pinned = pinned_more awaits n c.loop-place.order (has c.loop-place.placed) (has c.with-placed.result) c.loop-place.place c.in-Some.atom (omega arith) (omega (arith, next.inside)) before.pinned is c.with-placed.ensures;
      placed = placed_more awaits n c.loop-place.order (has c.loop-place.placed) (has c.with-placed.result) c.loop-place.place c.in-Some.atom few (omega arith) before.placed next.inside next.passes c.with-placed.ensures;
      rest = zeros_more c.loop-place.order c.loop-place.place c.in-Some.atom before.rest;
    }

pub returns : goal.returns
returns c =
    let awaits = direct c.args.table.now in
    let n = c.args.table.now.atoms in
    let before = c.loop-place.invariant in
    let all : c.loop-place.place ≡ n = omega arith in
    record {
      long = before.long;
      pinned = pinned_all awaits n c.loop-place.order (has c.loop-place.placed) c.loop-place.place all before.pinned;
      ordered = λ never. all_placed awaits n c.loop-place.order (has c.loop-place.placed) (subst (Placed awaits n c.loop-place.order (has c.loop-place.placed)) all before.placed);
      rest = zeros_past c.loop-place.order c.loop-place.place n (omega arith) before.rest;
    }
