-- Meanings that have equal outlines and choices are equal, since their laws are mere facts.
use Rattle.std.proofs.Common.{◌≡◌}
use Rattle.std.proofs.Props.{props}
use Rattle.model.specs.Meanings.{OutlineFacts, OutlineLaws, ChoiceFacts, ChoiceLaws, Meaning}
use mathlib.Core.HLevel.{is_prop→PathP}

pub OutlineLaws-prop : (o : OutlineFacts) → IsProp (OutlineLaws o)
OutlineLaws-prop o = hlevel props

pub ChoiceLaws-prop : (o : OutlineFacts) (c : ChoiceFacts) → IsProp (ChoiceLaws o c)
ChoiceLaws-prop o c = hlevel props

pub meanings_equal : (m n : Meaning) → m.outline ≡ n.outline → m.acts ≡ n.acts → m ≡ n
meanings_equal m n outlines acts = λ i. record {
  outline = outlines i;
  acts = acts i;
  outline_laws = is_prop→PathP (λ j. OutlineLaws (outlines j)) (λ j. OutlineLaws-prop (outlines j)) m.outline_laws n.outline_laws i;
  choice_laws = is_prop→PathP (λ j. ChoiceLaws (outlines j) (acts j)) (λ j. ChoiceLaws-prop (outlines j) (acts j)) m.choice_laws n.choice_laws i;
}
