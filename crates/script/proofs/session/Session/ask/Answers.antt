use Rattle.std.proofs.Common.{refl}
use Rattle.script.proofs.session.Session.ask.Goals as goal

pub returns : goal.returns
returns g c =
    let bound = rw c.as_str.ensures.value at c.in_ok-binding.ensures in
    ((λ w. refl), (c.in_ok-question.question, c.in_ok-question.ensures, (c.in_ok-binding.binding.now, bound, c.in_ok-answer.ensures)))
