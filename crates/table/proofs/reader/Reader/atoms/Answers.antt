use Rattle.std.proofs.Common.{◌≡◌, ◌+◌, length, ap, subst, ◌∙◌, arith}
use Rattle.std.proofs.lemmas.Result.{err_from_is_err_and}
use Rattle.model.specs.Rows.{row_items}
use Rattle.table.specs.Layouts.{IsAtomAt, AreAtomsAt}
use Rattle.language.specs.Tables.{atom_bytes}
use Rattle.language.specs.laws.Reading.{atom_read}
use Rattle.table.specs.Places.{atoms_end}
use Rattle.table.proofs.Places.{ends_more}
use Rattle.table.proofs.Answered.{as_passes, as_reads}
use Rattle.table.proofs.Rows.{each_none, each_pushed, pushed_counts, many_none, many_stop, reads_more, reads_all}
use Rattle.table.proofs.reader.Reader.atoms.Goals as goal

pub loop-init : goal.loop-init
loop-init c = (ap length c.empty-atoms.ensures, λ vs laid. many_none c.args.self.now c.args.count (rw c.empty-atoms.ensures each_none, omega arith))

pub returns-in_err-atom : goal.returns-in_err-atom
returns-in_err-atom c =
    λ vs laid.
    let p = err_from_is_err_and c.from_residual.result c.from_residual.ensures.1 in
    rw (p.1, p.2) (as_reads (many_stop (c.loop.invariant.1 vs laid) (omega arith) (as_passes (c.in_err-atom.ensures vs laid))))

pub loop-preserved : goal.loop-preserved
loop-preserved c =
    let atom = c.in_ok-atom.atom in let first = c.args.self.now in let before = c.loop.self in let next = c.atom.new.self.place in (
      pushed_counts 16 (row_items c.loop.atoms) (row_items c.push.new.self) atom c.push.ensures c.unwrap.ensures ∙ ap (λ n. n + 1) c.loop.invariant.0,
      λ vs laid.
          let so_far = c.loop.invariant.1 vs laid in
          reads_more so_far (λ made. AreAtomsAt first.bytes.now first.place made c.push.new.self × (next ≡ atoms_end first.place made)) (omega arith) (c.in_ok-atom.ensures vs laid)
          (λ x e made q. (
            each_pushed 16 q.0 c.push.ensures c.unwrap.ensures (subst (λ k. IsAtomAt first.bytes.now k x atom) q.1 (subst (λ b. IsAtomAt b.now before.place x atom) so_far.same made)),
            ends_more atom_bytes first.place before.place next so_far.made x q.1 (atom_read vs first.bytes.now before.place x next e).ends,
          )),
    )

pub returns : goal.returns
returns c = λ vs laid. reads_all (c.loop.invariant.1 vs laid) c.loop.atoms (omega arith) (λ q. q.0)
