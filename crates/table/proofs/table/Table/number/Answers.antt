use Rattle.std.proofs.Common.{◌≡◌, ◌+◌, sym, ap, rules, arith}
use Rattle.std.proofs.lemmas.Grind.{common_steps}
use Rattle.model.specs.Sets.{has}
use Rattle.model.specs.Tests.{count}
use Rattle.table.proofs.Told.{few_bytes, few_before, guard_inside, walk_at, number_later, number_none}
use Rattle.table.proofs.table.Table.number.Goals as goal

pub overflow_add-before : goal.overflow_add-before
overflow_add-before c =
    let a = c.args in let sets = c.controls-controls in
    let counted : c.count_below.result ≡ count (has sets.result) a.name = c.count_below.ensures (has sets.result) (search rules) in
    omega (arith, few_before a.self.now a.round a.atom a.choice a.name sets.result sets.ensures (sym c.if-not-has.ensures))

pub map_or-requires : goal.map_or-requires
map_or-requires c =
    let a = c.args in let sets = c.controls-controls in
    let counted : c.count_below.result + 1 ≡ count (has sets.result) a.name + 1 = ap (λ n. n + 1) (c.count_below.ensures (has sets.result) (search rules)) in
    let walk = walk_at a.self.now a.round a.atom a.choice a.name sets.result sets.ensures (sym c.if-not-has.ensures) in
    grind (arith, common_steps, few_bytes, guard_inside, walk)

pub returns : goal.returns
returns c =
    let a = c.args in let sets = c.controls-controls in
    let counted : c.count_below.result + 1 ≡ count (has sets.result) a.name + 1 = ap (λ n. n + 1) (c.count_below.ensures (has sets.result) (search rules)) in
    let none = number_none a.self.now a.round a.atom a.choice a.name sets.result sets.ensures (sym c.if-not-has.ensures) in
    let some = number_later a.self.now a.round a.atom a.choice a.name sets.result sets.ensures (sym c.if-not-has.ensures) in
    grind (arith, common_steps, few_bytes, none, some)
