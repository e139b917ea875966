use Rattle.model.proofs.Meanings.{meanings_equal}
use Rattle.model.proofs.promises.meanings_are_outlines_and_choices.Goals as goal

pub returns : goal.returns
returns c = meanings_equal
