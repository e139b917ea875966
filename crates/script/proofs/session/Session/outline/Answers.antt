use Rattle.std.proofs.Common.{refl}
use Rattle.script.proofs.session.Session.outline.Goals as goal

pub returns : goal.returns
returns c = ((λ w. refl), (c.in_ok-binding.binding.now, rw c.as_str.ensures.value at c.in_ok-binding.ensures, c.in_ok-answer.ensures))
