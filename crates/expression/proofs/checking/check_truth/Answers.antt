use Rattle.std.proofs.Common.{◌≡◌, length, ◌∙◌}
use Rattle.std.proofs.lemmas.Result.{err_from_is_err_and}
use Rattle.language.specs.Expressions.{read_truth}
use Rattle.expression.specs.Checking.{seen_of}
use Rattle.expression.specs.Promises.{verdict}
use Rattle.expression.proofs.Promises.{truth_judged, whole_ends, whole_fails}
use Rattle.expression.proofs.checking.check_truth.Goals as goal

pub returns-in_err-end : goal.returns-in_err-end
returns-in_err-end c =
    let bs = c.args.bytes.now in let s = seen_of c.args.seen.now in
    let p = err_from_is_err_and c.from_residual.result c.from_residual.ensures.1 in
    let told : c.from_residual.result ≡ verdict (read_truth 8 s) bs = rw (p.1, p.2) (whole_fails (length bs) (read_truth 8 s bs 0) _ c.in_err-end.ensures) in
    record { told = told; judged = truth_judged s bs c.from_residual.result told }

pub returns : goal.returns
returns c =
    let bs = c.args.bytes.now in let s = seen_of c.args.seen.now in
    let told : c.to_the_end.result ≡ verdict (read_truth 8 s) bs = c.to_the_end.ensures ∙ whole_ends (length bs) (read_truth 8 s bs 0) _ c.in_ok-end.ensures in
    record { told = told; judged = truth_judged s bs c.to_the_end.result told }
