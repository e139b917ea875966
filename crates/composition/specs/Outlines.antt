-- The outlines of renamed, hidden and joined drawings.
use Rattle.std.specs.Prelude.{ℕ, ◌+◌, ◌-◌, false, cond, is_some, Some, None, Option, ◌==◌, nat_lt}
use Rattle.model.specs.Meanings.{OutlineFacts}
use Rattle.model.specs.declared.Fault.{Fault}
use Rattle.model.specs.declared.Kind.{Kind}
use Rattle.model.specs.declared.Kind.TheVariants.{Private, Interface, External}
use Rattle.model.specs.Exchange.{exchange}
use Rattle.composition.specs.Faults.{up_to_255, fault_of_renamed, fault_of_hidden, fault_of_joined}

-- x where there is no fault, else what tells nothing
abbrev pub sound_or : {A : Type 0} → Option Fault → A → A → A
sound_or None nothing x = x
sound_or (Some f) nothing x = nothing

-- An outline with this fault if any: where there is one, it has no variables and no atoms.
abbrev pub outline_with : Option Fault → OutlineFacts → OutlineFacts
outline_with f o =
    record {
      fault = f;
      layers = o.layers;
      kind = λ n. sound_or f None (o.kind n);
      top = λ n. sound_or f 0 (o.top n);
      atoms = sound_or f 0 o.atoms;
      controls = λ a n. sound_or f false (o.controls a n);
      reads = λ a n. sound_or f false (o.reads a n);
      awaits = λ a n. sound_or f false (o.awaits a n);
    }

-- every table is asked at the exchanged name: as the new name is no variable, this puts it for the old one
abbrev pub renamed_tables : OutlineFacts → ℕ → ℕ → OutlineFacts
renamed_tables o a b =
    record {
      fault = None;
      layers = up_to_255 (1 + o.layers);
      kind = λ n. o.kind (exchange a b n);
      top = λ n. o.top (exchange a b n);
      atoms = o.atoms;
      controls = λ x n. o.controls x (exchange a b n);
      reads = λ x n. o.reads x (exchange a b n);
      awaits = λ x n. o.awaits x (exchange a b n);
    }

abbrev pub hidden_tables : OutlineFacts → ℕ → OutlineFacts
hidden_tables o name =
    record {
      fault = None;
      layers = up_to_255 (1 + o.layers);
      kind = λ n. cond (n == name) (Some Private) (o.kind n);
      top = o.top;
      atoms = o.atoms;
      controls = o.controls;
      reads = o.reads;
      awaits = o.awaits;
    }

-- the kind of a name that both have: external only if it is so in both
abbrev pub shared : Kind → Kind → Kind
shared Private k = Private
shared Interface k = Interface
shared External k = k

abbrev pub joined_kind : Option Kind → Option Kind → Option Kind
joined_kind None k = k
joined_kind (Some j) None = Some j
joined_kind (Some j) (Some k) = Some (shared j k)

-- what the left part tells of its atom, or the right one of an atom past these
abbrev pub by_atom : {A : Type 0} → ℕ → (ℕ → A) → (ℕ → A) → ℕ → A
by_atom count left right a = cond (nat_lt a count) (left a) (right (a - count))

abbrev pub joined_tables : OutlineFacts → OutlineFacts → OutlineFacts
joined_tables l r =
    record {
      fault = None;
      layers = up_to_255 (1 + l.layers + r.layers);
      kind = λ n. joined_kind (l.kind n) (r.kind n);
      top = λ n. cond (is_some (l.kind n)) (l.top n) (r.top n);
      atoms = l.atoms + r.atoms;
      controls = λ x n. by_atom l.atoms (λ a. l.controls a n) (λ a. r.controls a n) x;
      reads = λ x n. by_atom l.atoms (λ a. l.reads a n) (λ a. r.reads a n) x;
      awaits = λ x n. by_atom l.atoms (λ a. l.awaits a n) (λ a. r.awaits a n) x;
    }

abbrev pub renamed_outline : OutlineFacts → ℕ → ℕ → OutlineFacts
renamed_outline o a b = outline_with (fault_of_renamed o a b) (renamed_tables o a b)

abbrev pub hidden_outline : OutlineFacts → ℕ → OutlineFacts
hidden_outline o n = outline_with (fault_of_hidden o n) (hidden_tables o n)

abbrev pub joined_outline : OutlineFacts → OutlineFacts → OutlineFacts
joined_outline l r = outline_with (fault_of_joined l r) (joined_tables l r)
