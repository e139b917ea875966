use Rattle.language.proofs.Expressions.{forms_are_prefix_free}
use Rattle.language.proofs.forms_are_prefix_free.Goals as goal

pub returns : goal.returns
returns c = forms_are_prefix_free
