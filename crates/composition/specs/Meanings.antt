-- The meanings of renamed, hidden and joined drawings.
use Rattle.std.specs.Prelude.{ℕ}
use Rattle.model.specs.Meanings.{Meaning}
use Rattle.composition.specs.Acts.{renamed_acts, hidden_acts, joined_acts}
use Rattle.composition.specs.laws.Choices.{renamed_choice_laws, hidden_choice_laws, joined_choice_laws}
use Rattle.composition.specs.laws.Outlines.{renamed_outline_laws, hidden_outline_laws, joined_outline_laws}
use Rattle.composition.specs.Outlines.{renamed_outline, hidden_outline, joined_outline}

abbrev pub renamed : Meaning → ℕ → ℕ → Meaning
renamed m a b =
    record {
      outline = renamed_outline m.outline a b;
      acts = renamed_acts m a b;
      outline_laws = renamed_outline_laws m.outline m.outline_laws a b;
      choice_laws = renamed_choice_laws m a b;
    }

abbrev pub hidden : Meaning → ℕ → Meaning
hidden m n =
    record {
      outline = hidden_outline m.outline n;
      acts = hidden_acts m n;
      outline_laws = hidden_outline_laws m.outline m.outline_laws n;
      choice_laws = hidden_choice_laws m n;
    }

abbrev pub joined : Meaning → Meaning → Meaning
joined l r =
    record {
      outline = joined_outline l.outline r.outline;
      acts = joined_acts l r;
      outline_laws = joined_outline_laws l.outline r.outline l.outline_laws r.outline_laws;
      choice_laws = joined_choice_laws l r;
    }
