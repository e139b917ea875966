use Rattle.std.proofs.Common.{◌∙◌, rules}
use Rattle.std.proofs.lemmas.Result.{err_from_is_err_and}
use Rattle.language.specs.Tables.{names_own, names_variables}
use Rattle.table.proofs.AtomRows.{controls_stop, reads_stop, awaits_stop, initials_stop, updates_stop, initial_stop, update_stop, atom_goes}
use Rattle.table.proofs.SetItems.{size_same}
use Rattle.table.proofs.reader.Reader.atom.Goals as goal

pub returns-in_err-controls : goal.returns-in_err-controls
returns-in_err-controls c =
    λ vs laid.
    let p = err_from_is_err_and c.from_residual.result c.from_residual.ensures.1 in
    rw (p.1, p.2) (controls_stop vs c.args.self.now (c.in_err-controls.ensures (names_own vs) (search rules)))

pub returns-in_err-reads : goal.returns-in_err-reads
returns-in_err-reads c =
    λ vs laid.
    let controls = c.in_ok-controls.ensures (names_own vs) (search rules) in
    let p = err_from_is_err_and c.from_residual-in_err-reads.result c.from_residual-in_err-reads.ensures.1 in
    rw (p.1, p.2) (reads_stop vs c.args.self.now controls (c.in_err-reads.ensures (names_variables vs) (search rules)))

pub returns-in_err-awaits : goal.returns-in_err-awaits
returns-in_err-awaits c =
    λ vs laid.
    let controls = c.in_ok-controls.ensures (names_own vs) (search rules) in
    let reads = c.in_ok-reads.ensures (names_variables vs) (search rules) in
    let p = err_from_is_err_and c.from_residual-in_err-awaits.result c.from_residual-in_err-awaits.ensures.1 in
    rw (p.1, p.2) (awaits_stop vs c.args.self.now controls reads (c.in_err-awaits.ensures (names_variables vs) (search rules)))

pub returns-in_err-initials : goal.returns-in_err-initials
returns-in_err-initials c =
    λ vs laid.
    let controls = c.in_ok-controls.ensures (names_own vs) (search rules) in
    let reads = c.in_ok-reads.ensures (names_variables vs) (search rules) in
    let awaits = c.in_ok-awaits.ensures (names_variables vs) (search rules) in
    let p = err_from_is_err_and c.from_residual-in_err-initials.result c.from_residual-in_err-initials.ensures.1 in
    rw (p.1, p.2) (initials_stop vs c.args.self.now controls reads awaits c.in_err-initials.ensures)

pub returns-in_err-updates : goal.returns-in_err-updates
returns-in_err-updates c =
    λ vs laid.
    let controls = c.in_ok-controls.ensures (names_own vs) (search rules) in
    let reads = c.in_ok-reads.ensures (names_variables vs) (search rules) in
    let awaits = c.in_ok-awaits.ensures (names_variables vs) (search rules) in
    let p = err_from_is_err_and c.from_residual-in_err-updates.result c.from_residual-in_err-updates.ensures.1 in
    rw (p.1, p.2) (updates_stop vs c.args.self.now controls reads awaits c.in_ok-initials.ensures c.in_err-updates.ensures)

pub returns-in_err-initial : goal.returns-in_err-initial
returns-in_err-initial c =
    λ vs laid.
    let controls = c.in_ok-controls.ensures (names_own vs) (search rules) in
    let reads = c.in_ok-reads.ensures (names_variables vs) (search rules) in
    let awaits = c.in_ok-awaits.ensures (names_variables vs) (search rules) in
    let p = err_from_is_err_and c.from_residual-in_err-initial.result c.from_residual-in_err-initial.ensures.1 in
    rw (p.1, p.2) (initial_stop vs c.args.self.now controls reads awaits c.in_ok-initials.ensures c.in_ok-updates.ensures (c.seen_in-first.ensures _ _ reads.outcome.made awaits.outcome.made) (c.count-size.ensures ∙ size_same _ c.in_ok-controls.controls controls.outcome.made) c.in_err-initial.ensures)

pub returns-in_err-update : goal.returns-in_err-update
returns-in_err-update c =
    λ vs laid.
    let controls = c.in_ok-controls.ensures (names_own vs) (search rules) in
    let reads = c.in_ok-reads.ensures (names_variables vs) (search rules) in
    let awaits = c.in_ok-awaits.ensures (names_variables vs) (search rules) in
    let p = err_from_is_err_and c.from_residual-in_err-update.result c.from_residual-in_err-update.ensures.1 in
    rw (p.1, p.2) (update_stop vs c.args.self.now controls reads awaits c.in_ok-initials.ensures c.in_ok-updates.ensures (c.seen_in-first.ensures _ _ reads.outcome.made awaits.outcome.made) (c.count-size.ensures ∙ size_same _ c.in_ok-controls.controls controls.outcome.made) c.in_ok-initial.ensures (c.seen_in-later.ensures _ _ reads.outcome.made awaits.outcome.made) c.in_err-update.ensures)

pub returns : goal.returns
returns c =
    λ vs laid.
    let controls = c.in_ok-controls.ensures (names_own vs) (search rules) in
    let reads = c.in_ok-reads.ensures (names_variables vs) (search rules) in
    let awaits = c.in_ok-awaits.ensures (names_variables vs) (search rules) in
    atom_goes vs c.args.self.now controls reads awaits c.in_ok-initials.ensures c.in_ok-updates.ensures (c.seen_in-first.ensures _ _ reads.outcome.made awaits.outcome.made) (c.count-size.ensures ∙ size_same _ c.in_ok-controls.controls controls.outcome.made) c.in_ok-initial.ensures (c.seen_in-later.ensures _ _ reads.outcome.made awaits.outcome.made) c.in_ok-update.ensures
