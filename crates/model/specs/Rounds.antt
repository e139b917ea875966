-- The words for rounds.
use Rattle.std.specs.Prelude.{ℕ, cond, List, Some, None, codes, Option}
use Rattle.std.specs.Str.{bytes_eq}
use Rattle.model.specs.declared.Round.{Round}
use Rattle.model.specs.declared.Round.TheVariants.{Initial, Update}

abbrev pub round_word : Round → List ℕ
round_word Initial = codes "init"
round_word Update = codes "update"

-- the round that the word names, if any
abbrev pub round_named : List ℕ → Option Round
round_named w = cond (bytes_eq w (round_word Initial)) (Some Initial) (cond (bytes_eq w (round_word Update)) (Some Update) None)
