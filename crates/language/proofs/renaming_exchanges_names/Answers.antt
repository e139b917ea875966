use Rattle.language.proofs.Renaming.{renaming_exchanges_names}
use Rattle.language.proofs.renaming_exchanges_names.Goals as goal

pub returns : goal.returns
returns c = renaming_exchanges_names
