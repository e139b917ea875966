use Rattle.std.proofs.Common.{◌≡◌, ◌+◌, ◌*◌, ◌/◌, ◌<◌, ◌≤◌, length, drop, None, sym, refl, ap, ◌∙◌, arith, rules}
use Rattle.std.proofs.lemmas.Bool.{both_ways}
use Rattle.std.proofs.lemmas.List.{length-drop, drop-drop, take_rest}
use Rattle.gates.specs.Netlists.{breaks}
use Rattle.gates.specs.laws.WellFormed.{parts_none}
use Rattle.model.proofs.Bounded.{lowest_none}
use Rattle.gates.proofs.Records.{gate_dropped, found_malformed, found_clash, found_full, no_fault, read_more}
use Rattle.gates.proofs.reading.read.Goals as goal
use Rattle.gates.proofs.reading.read.Goals.{then-clashes-via-then-clashes, then-clashes-via-else-clashes+then-is_err}

pub loop-rest-init : goal.loop-rest-init
loop-rest-init c = record {
  inside = omega arith;
  left = refl;
  read = c.empty-parts.ensures ∙ sym (parts_none c.args.bytes.now);
  fine = lowest_none (breaks c.args.bytes.now);
  few = omega arith;
}

pub returns-in_default-try_from : goal.returns-in_default-try_from
returns-in_default-try_from c =
    let bs = c.args.bytes.now in
    let i = c.loop-rest.index in
    let inv = c.loop-rest.invariant in
    let five : 5 ≤ length c.loop-rest.rest.now = search rules in
    let more : 5 * i + 5 ≤ length bs = omega (arith, length-drop (5 * i) bs, ap length inv.left, five) in
    found_malformed bs i c.if-bytes-ne0.false more inv.fine (sym (gate_dropped bs _ i inv.left) ∙ c.in_default-try_from.ensures)

pub returns-then-clashes : goal.returns-then-clashes
returns-then-clashes c =
    let bs = c.args.bytes.now in
    let i = c.loop-rest.index in
    let inv = c.loop-rest.invariant in
    let five : 5 ≤ length c.loop-rest.rest.now = search rules in
    let more : 5 * i + 5 ≤ length bs = omega (arith, length-drop (5 * i) bs, ap length inv.left, five) in
    let here = sym (gate_dropped bs _ i inv.left) ∙ c.in-Ok.ensures in
    elim c.then-clashes.branch [
      | then-clashes-via-then-clashes w ↦ found_clash bs i c.if-bytes-ne0.false more inv.fine c.in-Ok.gate here (c.clashes.ensures.0 w.if-clashes.true)
      | then-clashes-via-else-clashes+then-is_err w ↦ found_full bs i c.if-bytes-ne0.false more inv.fine c.in-Ok.gate here c.loop-rest.parts w.add.new.parts _ inv.read w.add.ensures (sym w.is_err.ensures.value ∙ w.if-is_err.true)
    ]

pub loop-rest-preserved : goal.loop-rest-preserved
loop-rest-preserved c =
    let bs = c.args.bytes.now in
    let i = c.loop-rest.index in
    let inv = c.loop-rest.invariant in
    let five : 5 ≤ length c.loop-rest.rest.now = search rules in
    let inside : 5 * i + 5 ≤ length bs = omega (arith, length-drop (5 * i) bs, ap length inv.left, five) in
    let here = sym (gate_dropped bs _ i inv.left) ∙ c.in-Ok.ensures in
    let next : 5 * i + 5 ≡ 5 * (i + 1) = omega arith in
    let more = read_more bs i c.if-bytes-ne0.false inside inv.fine c.in-Ok.gate here c.loop-rest.parts c.add.new.parts _ inv.read c.add.ensures (λ h. both_ways _ c.if-clashes.false (c.clashes.ensures.1 h)) (sym c.is_err.ensures.value ∙ c.if-is_err.false) inv.few in
    record {
      inside = omega arith;
      left = take_rest c.loop-rest.rest.now 5 ∙ ap (drop 5) inv.left ∙ drop-drop 5 (5 * i) bs ∙ ap (λ k. drop k bs) next;
      read = more.0;
      fine = more.1;
      few = more.2;
    }

pub returns : goal.returns
returns c =
    let bs = c.args.bytes.now in
    let i = c.loop-rest.index in
    let inv = c.loop-rest.invariant in
    let lt : length c.loop-rest.rest.now < 5 = search rules in
    let all : i ≡ length bs / 5 = omega (arith, length-drop (5 * i) bs, ap length inv.left, lt) in
    ap (λ ps. record { fault_place = None; parts = ps }) inv.read ∙ no_fault bs i c.if-bytes-ne0.false all inv.fine
