use Rattle.std.proofs.Common.{◌≡◌, ◌∙◌, arith}
use Rattle.std.proofs.lemmas.Result.{err_from_is_err_and}
use Rattle.expression.specs.Checking.{seen_of}
use Rattle.language.specs.Tables.{choice_bytes}
use Rattle.language.specs.laws.Reading.{choice_read}
use Rattle.table.specs.Layouts.{AreChoicesAt}
use Rattle.table.specs.Places.{choices_end}
use Rattle.table.proofs.Answered.{as_reads}
use Rattle.table.proofs.Places.{ends_more}
use Rattle.table.proofs.Rows.{each_none, each_pushed, many_none, many_stop, passes_more, reads_all}
use Rattle.table.proofs.reader.Reader.choices.Goals as goal

pub loop-init : goal.loop-init
loop-init c = many_none c.args.self.now c.args.count (rw c.empty-places.ensures each_none, omega arith)

pub returns-in_err-choice : goal.returns-in_err-choice
returns-in_err-choice c =
    let p = err_from_is_err_and c.from_residual.result c.from_residual.ensures.1 in
    rw (p.1, p.2) (as_reads (many_stop c.loop.invariant (omega arith) c.in_err-choice.ensures))

pub loop-preserved : goal.loop-preserved
loop-preserved c =
    let first = c.args.self.now in let seen = seen_of c.args.seen.now in let controlled = c.args.controlled in
    let before = c.loop.self.place in let next = c.choice.new.self.place in
    passes_more c.loop.invariant (λ made. AreChoicesAt first.bytes.now first.place seen controlled made c.push.new.self × (next ≡ choices_end first.place made)) (omega arith) c.in_ok-choice.ensures
    (λ x e q. (
      each_pushed 8 q.0 c.push.ensures c.unwrap.ensures (record { begins = c.place-place.ensures ∙ q.1; end = next; read = rw c.place-place.ensures e }),
      ends_more choice_bytes first.place before next c.loop.invariant.made x q.1 (choice_read seen controlled first.bytes.now before x next e).ends,
    ))

pub returns : goal.returns
returns c = reads_all c.loop.invariant c.loop.places (omega arith) (λ q. q.0)
