-- What a drawing that may be any pile means.
use Rattle.model.specs.Meanings.{OutlineFacts, Meaning}
use Rattle.any_drawing.specs.Piles.{Pile, pile_meaning}

abbrev pub any_meaning : Pile → Meaning
any_meaning = pile_meaning

abbrev pub any_outline : Pile → OutlineFacts
any_outline d = (any_meaning d).outline
