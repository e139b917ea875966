use Rattle.std.proofs.Common.{◌∙◌, refl, Ok, rules, tests}
use Rattle.std.proofs.lemmas.Iterator.{items_from_collect, YieldsList-from_map}
use Rattle.std.proofs.lemmas.Iterator.Consumers.{YieldsList-at, YieldsList-from_first}
use Rattle.model.specs.Sets.{has, members_left}
use Rattle.reports.proofs.Below.{assigned, assignments_below}
use Rattle.reports.proofs.ask.ChoiceReport.new.Goals as goal

pub returns : goal.returns
returns g c =
    let o = g.D.Outline.outline c.args.drawing.now in
    let acts = (g.D.Drawing.meaning c.args.drawing.now).acts in
    let q = c.args.question.now in
    record {
      atom = refl;
      choice = refl;
      opens = c.is_open-open.ensures.answer;
      given =
          items_from_collect {E = Unit {0}} (Ok c.in_ok-given.given) c.in_ok-given.ensures.ran
          (YieldsList-from_map _ (assigned o acts q) (YieldsList-at c.map.ensures.source (YieldsList-from_first (λ n. n) members_left _ c.iter.ensures)) c.map.ensures.closure (λ x r q k. search (rules, tests)))
          ∙ assignments_below o acts q (has c.controls.result) c.controls.ensures 32;
    }
