-- Why a command is refused that a line spells. Memory may be wanting besides.
use Rattle.std.specs.Prelude.{◌≡◌, ℕ, cond, ◌⊎◌, List, length, Some, None, vec_items, string_bytes, Option}
use Rattle.std.specs.Option.{option_or}
use Rattle.std.specs.Result.{result_err}
use Rattle.std.specs.Str.{bytes_eq as same_text}
use Rattle.script.specs.Bindings.{Binding, Bindings, binding_of}
use Rattle.script.specs.StateBytes.{state_of}
use Rattle.script.specs.declared.binding.Bound.TheVariants.{Drawing, SealedUnit}
use Rattle.script.specs.declared.command.Command.{Command}
use Rattle.script.specs.declared.command.Command.TheVariants.{New, Table, Gates, Join, Rename, Hide, Seal, Verdict, Outline, Ask}
use Rattle.script.specs.declared.mistake.Mistake.{Mistake}
use Rattle.script.specs.declared.mistake.Mistake.TheVariants.{UnknownName, UsedTwice, NotADrawing, NotAUnit, NotAState, Unreadable}
use Rattle.script.specs.declared.source.ByteSource.{ByteSource}
use Rattle.script.specs.declared.source.ByteSource.TheVariants.{Given, File}

-- where anything is wanted, a drawing, or a unit
abbrev pub binding_refusal : Option Binding → Option Mistake
binding_refusal None = Some UnknownName
binding_refusal (Some b) = None

abbrev pub drawing_refusal : Option Binding → Option Mistake
drawing_refusal None = Some UnknownName
drawing_refusal (Some (Drawing d)) = None
drawing_refusal (Some (SealedUnit u)) = Some NotADrawing

abbrev pub unit_refusal : Option Binding → Option Mistake
unit_refusal None = Some UnknownName
unit_refusal (Some (Drawing d)) = Some NotAUnit
unit_refusal (Some (SealedUnit u)) = None

-- where two drawings are wanted: they are two, and both are there; the right one is looked up first
abbrev pub join_refusal : Bindings → List ℕ → List ℕ → Option Mistake
join_refusal t left right =
    cond (same_text left right) (Some UsedTwice) (option_or (drawing_refusal (binding_of t right)) (drawing_refusal (binding_of t left)))

-- a file may be unreadable
abbrev pub IsUnreadable : ByteSource → Mistake → Type 0
IsUnreadable (Given bytes) e = ⊥
IsUnreadable (File path) e = e ≡ Unreadable

-- what is to be a state may be none: of bytes that the line gives it is known, a file may have any
abbrev pub IsNoState : ByteSource → Mistake → Type 0
IsNoState (Given bytes) e = result_err (state_of (vec_items bytes)) ≡ Some e
IsNoState (File path) e = (e ≡ Unreadable) ⊎ (e ≡ NotAState)

-- the source holds this state
abbrev pub HoldsState : ByteSource → List ℕ → Type 0
HoldsState (Given bytes) state = vec_items bytes ≡ state
HoldsState (File path) state = Unit {0}

-- the source holds some state
abbrev pub MayBeState : ByteSource → Type 0
MayBeState source = (state : List ℕ) × (length state ≡ 32) × HoldsState source state

-- Why the command is refused where names stand for this: the first of these that applies.
abbrev pub Refuses : Bindings → Command → Mistake → Type 0
Refuses t New e = ⊥
Refuses t (Table name bytes) e = IsUnreadable bytes e
Refuses t (Gates name bytes) e = IsUnreadable bytes e
Refuses t (Join name left right) e = join_refusal t (string_bytes left) (string_bytes right) ≡ Some e
Refuses t (Rename name below old new) e = drawing_refusal (binding_of t (string_bytes below)) ≡ Some e
Refuses t (Hide name below hidden) e = drawing_refusal (binding_of t (string_bytes below)) ≡ Some e
Refuses t (Seal name drawing number) e = drawing_refusal (binding_of t (string_bytes drawing)) ≡ Some e
Refuses t (Verdict name) e = unit_refusal (binding_of t (string_bytes name)) ≡ Some e
Refuses t (Outline name) e = binding_refusal (binding_of t (string_bytes name)) ≡ Some e
Refuses t (Ask name asked) e =
    IsNoState asked.old e
    ⊎ ((MayBeState asked.old × IsNoState asked.new e)
    ⊎ (MayBeState asked.old × MayBeState asked.new × (binding_refusal (binding_of t (string_bytes name)) ≡ Some e)))
