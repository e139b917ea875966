-- What a gate list tells as a drawing.
use Rattle.std.specs.Prelude.{ℕ, Bool, false, cond, List, length, ℤ, pos, is_some, Some, None, Option}
use Rattle.std.specs.Option.{option_map}
use Rattle.std.specs.List.{slice_get}
use Rattle.model.specs.Faults.{own}
use Rattle.model.specs.Meanings.{Valuation, OutlineFacts, ChoiceFacts}
use Rattle.model.specs.declared.Fault.{Fault}
use Rattle.model.specs.declared.Kind.{Kind}
use Rattle.model.specs.declared.Kind.TheVariants.{Private, Interface, External}
use Rattle.model.specs.declared.Round.{Round}
use Rattle.gates.specs.Choices.{choice_count, opens_of, gives_of}
use Rattle.gates.specs.Gates.{used, controls_of, reads_of, awaits_of}
use Rattle.gates.specs.Netlists.{Netlist}
use Rattle.gates.specs.declared.gate.Field.TheVariants.{Input, Out, Own}
use Rattle.gates.specs.declared.gate.Part.{Part}

-- every fault of a gate list has the number 18
abbrev pub gate_fault : ℕ → Fault
gate_fault place = own 18 place

-- outs are interface, owns private, other names that are used external
abbrev pub by_use : Bool → Bool → Bool → Option Kind
by_use out own input = cond out (Some Interface) (cond own (Some Private) (cond input (Some External) None))

abbrev pub kind_in : List Part → ℕ → Option Kind
kind_in ps n = by_use (used Out ps n) (used Own ps n) (used Input ps n)

-- what f says of a part that is there, and otherwise
abbrev pub of_part : {X : Type 0} → (Part → X) → X → Option Part → X
of_part f absent None = absent
of_part f absent (Some p) = f p

abbrev pub list_outline : Netlist → OutlineFacts
list_outline l = record {
  fault = option_map gate_fault l.fault_place;
  layers = 1;
  kind = kind_in l.parts;
  top = λ n. cond (is_some (kind_in l.parts n)) 1 0;
  atoms = length l.parts;
  controls = λ a n. of_part (λ p. controls_of p n) false (slice_get l.parts a);
  reads = λ a n. of_part (λ p. reads_of p n) false (slice_get l.parts a);
  awaits = λ a n. of_part (λ p. awaits_of p n) false (slice_get l.parts a);
}

-- what a choice gives to the name n: 0 where the part does not control it
abbrev pub given_to : Round → ℕ → ℕ → Valuation → Part → ℤ
given_to r k n old p = pos (cond (controls_of p n) (gives_of r p k old) 0)

abbrev pub list_choices : Netlist → ChoiceFacts
list_choices l = record {
  choices = λ r a. of_part (choice_count r) 0 (slice_get l.parts a);
  opens = λ r a k old new. of_part (λ p. opens_of r p k new) false (slice_get l.parts a);
  gives = λ r a k n old new. of_part (given_to r k n old) (pos 0) (slice_get l.parts a);
}
