-- What is proved of meanings.
use Rattle.std.specs.Prelude.{◌≡◌}
use Rattle.model.specs.Meanings.{Meaning}

-- What a drawing means is its outline and its choices: meanings with equal ones are equal.
abbrev pub MeaningsAreOutlinesAndChoices : Type 0
MeaningsAreOutlinesAndChoices = (m n : Meaning) → m.outline ≡ n.outline → m.acts ≡ n.acts → m ≡ n
