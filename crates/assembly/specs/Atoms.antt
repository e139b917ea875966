-- What is kept of an atom.
use Rattle.model.specs.Sets.{has}
use Rattle.assembly.specs.Facts.{AtomFacts, name_in}
use Rattle.assembly.specs.declared.atom.FormAtom.{FormAtom}

abbrev pub atom_facts : FormAtom → AtomFacts
atom_facts t = record {
  controls = has t.controls;
  reads = has t.reads;
  awaits = has t.awaits;
  leaf = t.leaf;
  number = t.number;
  in_whole = name_in t.in_whole;
  in_leaf = name_in t.in_leaf;
}
