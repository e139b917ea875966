use Rattle.std.proofs.Common.{rules, ◌≡◌, false, Some, None, Option, sym, ap, ◌∙◌}
use Rattle.std.specs.List.{slice_get}
use Rattle.units.specs.Evidence.{certificate_count, certificate_refusal, states_in, wrong_size}
use Rattle.units.specs.Units.{Claim, holds, verdict_of}
use Rattle.units.specs.declared.refusal.Refusal.{Refusal}
use Rattle.units.specs.Sealing.{awaits_atom}
use Rattle.unit.specs.Claims.{claim_of, claims_of}
use Rattle.evidence.specs.Judging.{certificate_answer}
use Rattle.unit.specs.States.{model_of}
use Rattle.unit.proofs.Calls.{not_refused}
use Rattle.unit.proofs.Judged.{claim_there, states_answer}
use Rattle.unit.proofs.Ordering.{in_order}
use Rattle.unit.proofs.state.UnitState.certificate_count.Goals as goal

pub judge_certificate-requires-clause-ordered : goal.judge_certificate-requires-clause-ordered
judge_certificate-requires-clause-ordered g c =
    let o = (g.D.Drawing.meaning c.args.drawing.now).outline in
    let s = c.args.self.now in
    let fit = not_refused s.verdict (sym c.fit.ensures ∙ c.in_ok-fit.was) in
    in_order (awaits_atom o) o.atoms s.order (c.requires.in_order fit)

pub returns : goal.returns
returns g c =
    let m = g.D.Drawing.meaning c.args.drawing.now in
    let s = c.args.self.now in
    let bs = c.args.bytes.now in
    let claim = c.in_ok-claim.claim.now in
    let fit : verdict_of (model_of m s) ≡ None = sym c.requires.judged ∙ not_refused s.verdict (sym c.fit.ensures ∙ c.in_ok-fit.was) in
    let there : slice_get s.claims.table.items c.args.number ≡ Some claim = search rules in
    let right : wrong_size bs ≡ false = search rules in
    let same : c.in_ok-states.states.now ≡ states_in bs = search rules in
    let check : Claim → Option Refusal = λ d. certificate_refusal m (holds d) (states_in bs) in
    c.judge_certificate.ensures (holds (claim_of claim)) (λ i b l h. search (rules, h))
    ∙ ap (certificate_answer m (holds (claim_of claim))) same
    ∙ states_answer (slice_get (claims_of s.claims) c.args.number) bs check (certificate_count m (states_in bs)) (verdict_of (model_of m s)) (claim_of claim) fit (claim_there s.claims c.args.number claim there) right
