-- The choices of renamed, hidden and joined drawings.
use Rattle.std.specs.Prelude.{ℕ, false, pos, Option}
use Rattle.model.specs.Meanings.{Valuation, ChoiceFacts, Meaning}
use Rattle.model.specs.declared.Fault.{Fault}
use Rattle.model.specs.Exchange.{exchange}
use Rattle.composition.specs.Faults.{fault_of_renamed, fault_of_hidden, fault_of_joined}
use Rattle.composition.specs.Outlines.{sound_or, by_atom}

-- these choices, or none where there is a fault
abbrev pub acts_with : Option Fault → ChoiceFacts → ChoiceFacts
acts_with f c =
    record {
      choices = λ r a. sound_or f 0 (c.choices r a);
      opens = λ r a k old new. sound_or f false (c.opens r a k old new);
      gives = λ r a k n old new. sound_or f (pos 0) (c.gives r a k n old new);
    }

-- the values as the drawing below knows them, under the exchanged names
abbrev pub seen_below : ℕ → ℕ → Valuation → Valuation
seen_below a b v n = v (exchange a b n)

abbrev pub renamed_choices : ChoiceFacts → ℕ → ℕ → ChoiceFacts
renamed_choices c a b =
    record {
      choices = c.choices;
      opens = λ r x k old new. c.opens r x k (seen_below a b old) (seen_below a b new);
      gives = λ r x k n old new. c.gives r x k (exchange a b n) (seen_below a b old) (seen_below a b new);
    }

-- the left part has so many atoms
abbrev pub joined_choices : ℕ → ChoiceFacts → ChoiceFacts → ChoiceFacts
joined_choices count l r =
    record {
      choices = λ k x. by_atom count (l.choices k) (r.choices k) x;
      opens = λ k x i old new. by_atom count (λ a. l.opens k a i old new) (λ a. r.opens k a i old new) x;
      gives = λ k x i n old new. by_atom count (λ a. l.gives k a i n old new) (λ a. r.gives k a i n old new) x;
    }

abbrev pub renamed_acts : Meaning → ℕ → ℕ → ChoiceFacts
renamed_acts m a b = acts_with (fault_of_renamed m.outline a b) (renamed_choices m.acts a b)

abbrev pub hidden_acts : Meaning → ℕ → ChoiceFacts
hidden_acts m n = acts_with (fault_of_hidden m.outline n) m.acts

abbrev pub joined_acts : Meaning → Meaning → ChoiceFacts
joined_acts l r = acts_with (fault_of_joined l.outline r.outline) (joined_choices l.outline.atoms l.acts r.acts)
