-- What a session does with a line: what is answered, what the names stand for then, and why a line is refused.
use Rattle.std.specs.Prelude.{◌≡◌, ℕ, ◌⊎◌, List, [], ◌∷◌, length, Some, None, Ok, Err, IsUtf8, vec_items, string_bytes, Option, Result}
use Rattle.std.specs.Borrow.{Bor}
use Rattle.any_drawing.specs.Leaves.{MeansGates, MeansTable}
use Rattle.any_drawing.specs.Piles.{Pile}
use Rattle.composition.specs.Meanings.{renamed, hidden, joined}
use Rattle.model.specs.Meanings.{Meaning}
use Rattle.model.specs.declared.Question.{Question}
use Rattle.script.specs.Answers.{TellsVerdict, TellsBinding, TellsOutlineOf, TellsChoiceOf}
use Rattle.script.specs.Bindings.{Binding, Bindings, meaning_of, unit_of, meaning_of_binding, binding_of, IsEmpty, SameBindings, BindsDrawing, IsUnit, Rebinds, UnbindsAll}
use Rattle.script.specs.Commands.{Asks, refusal_of_line}
use Rattle.script.specs.Refusals.{HoldsState, IsNoState, MayBeState, Refuses}
use Rattle.script.specs.Words.{Words}
use Rattle.script.specs.declared.answer.Answer.{Answer}
use Rattle.script.specs.declared.answer.Answer.TheVariants.{Forgotten}
use Rattle.script.specs.declared.binding.Bound.TheVariants.{Drawing, SealedUnit}
use Rattle.script.specs.declared.command.Command.{Command}
use Rattle.script.specs.declared.command.Command.TheVariants.{New, Table, Gates, Join, Rename, Hide, Seal, Verdict, Outline, Ask}
use Rattle.script.specs.declared.mistake.Mistake.{Mistake}
use Rattle.script.specs.declared.mistake.Mistake.TheVariants.{NotText, NoMemory}
use Rattle.script.specs.declared.source.ByteSource.{ByteSource}
use Rattle.script.specs.declared.source.ByteSource.TheVariants.{Given, File}
use Rattle.units.specs.Units.{seal}

-- it is a drawing of which this holds
abbrev pub IsDrawing : (Meaning → Type 0) → Binding → Type 0
IsDrawing P (Drawing d) = P (meaning_of d)
IsDrawing P (SealedUnit u) = ⊥

-- it is a drawing of these bytes, where the line gives them, else of some bytes
abbrev pub DrawnFrom : (List ℕ → Meaning → Type 0) → ByteSource → Binding → Type 0
DrawnFrom describes (Given bytes) b = IsDrawing (describes (vec_items bytes)) b
DrawnFrom describes (File path) b = (bytes : List ℕ) × IsDrawing (describes bytes) b

-- it is a drawing with this meaning
abbrev pub Means : Meaning → Binding → Type 0
Means m b = IsDrawing (λ n. n ≡ m) b

-- the two names stand for two drawings, and it is their join
pub record Joins (old : Bindings) (left right : List ℕ) (b : Binding) : Type 0 where
  pub apart : left ≡ right → ⊥
  pub left_drawing : Pile
  pub left_stands : BindsDrawing old left left_drawing
  pub right_drawing : Pile
  pub right_stands : BindsDrawing old right right_drawing
  pub joins : Means (joined (meaning_of left_drawing) (meaning_of right_drawing)) b

-- the name stands for a drawing, and it is what is made of that
pub record Changes (old : Bindings) (below : List ℕ) (change : Meaning → Meaning) (b : Binding) : Type 0 where
  pub drawing : Pile
  pub stands : BindsDrawing old below drawing
  pub changed : Means (change (meaning_of drawing)) b

-- the name stands for a drawing, and it is the unit that sealing makes of that
pub record Seals (old : Bindings) (name : List ℕ) (number : ℕ) (b : Binding) : Type 0 where
  pub drawing : Pile
  pub stands : BindsDrawing old name drawing
  pub sealed : IsUnit (λ u. unit_of u ≡ seal (meaning_of drawing) number) (Some b)

-- the state is one that the source holds
abbrev pub IsStateOf : ByteSource → List ℕ → Type 0
IsStateOf source state = (length state ≡ 32) × HoldsState source state

-- the question is that of the command, at the states that its sources hold
pub record IsQuestion (asked : Question ByteSource) (q : Question (List ℕ)) : Type 0 where
  pub round : q.round ≡ asked.round
  pub atom : q.atom ≡ asked.atom
  pub choice : q.choice ≡ asked.choice
  pub old : IsStateOf asked.old q.old
  pub new : IsStateOf asked.new q.new

-- why there is no question at the states of these sources, the old one first; memory may be wanting besides
abbrev pub IsNoQuestion : Question ByteSource → Mistake → Type 0
IsNoQuestion asked e = IsNoState asked.old e ⊎ ((MayBeState asked.old × IsNoState asked.new e) ⊎ (e ≡ NoMemory))

-- the name stands for something of which this holds
abbrev pub IsBound : Bindings → List ℕ → (Binding → Type 0) → Type 0
IsBound t name P = (b : Binding) × (binding_of t name ≡ Some b) × P b

-- the names that a command uses up
abbrev pub used_up : Command → List (List ℕ)
used_up New = []
used_up (Table name bytes) = []
used_up (Gates name bytes) = []
used_up (Join name left right) = string_bytes left ∷ string_bytes right ∷ []
used_up (Rename name below old new) = string_bytes below ∷ []
used_up (Hide name below hidden) = string_bytes below ∷ []
used_up (Seal name drawing number) = string_bytes drawing ∷ []
used_up (Verdict name) = []
used_up (Outline name) = []
used_up (Ask name asked) = []

-- Something was made of which this holds; the name stands for it, what was used up is gone, and the answer tells of it.
abbrev pub Makes : Bindings → Bindings → List (List ℕ) → List ℕ → (Binding → Type 0) → Answer → Type 0
Makes old new used name P answer = (b : Binding) × P b × Rebinds old new used name b × TellsBinding name b answer

-- what a command that is not refused makes of what the names stood for, and what is answered
abbrev pub Obeys : Command → Bindings → Bindings → Answer → Type 0
Obeys New old new answer = IsEmpty new × (answer ≡ Forgotten)
Obeys (Table name bytes) old new answer = Makes old new [] (string_bytes name) (DrawnFrom MeansTable bytes) answer
Obeys (Gates name bytes) old new answer = Makes old new [] (string_bytes name) (DrawnFrom MeansGates bytes) answer
Obeys (Join name left right) old new answer =
    Makes old new (string_bytes left ∷ string_bytes right ∷ []) (string_bytes name)
    (Joins old (string_bytes left) (string_bytes right)) answer
Obeys (Rename name below a b) old new answer =
    Makes old new (string_bytes below ∷ []) (string_bytes name) (Changes old (string_bytes below) (λ m. renamed m a b)) answer
Obeys (Hide name below n) old new answer =
    Makes old new (string_bytes below ∷ []) (string_bytes name) (Changes old (string_bytes below) (λ m. hidden m n)) answer
Obeys (Seal name drawing number) old new answer =
    Makes old new (string_bytes drawing ∷ []) (string_bytes name) (Seals old (string_bytes drawing) number) answer
Obeys (Verdict name) old new answer =
    SameBindings old new
    × IsUnit (λ u. TellsVerdict (string_bytes name) (unit_of u) answer) (binding_of old (string_bytes name))
Obeys (Outline name) old new answer =
    SameBindings old new × IsBound old (string_bytes name) (λ b. TellsOutlineOf (meaning_of_binding b) answer)
Obeys (Ask name asked) old new answer =
    SameBindings old new × ((q : Question (List ℕ)) × IsQuestion asked q
    × IsBound old (string_bytes name) (λ b. TellsChoiceOf (meaning_of_binding b) q answer))

-- A refused command alters nothing; but where memory is wanting it may have used up what it was to use up.
abbrev pub RefusesCommand : Command → Bindings → Bindings → Mistake → Type 0
RefusesCommand command old new e =
    (Refuses old command e × SameBindings old new)
    ⊎ ((e ≡ NoMemory) × (SameBindings old new ⊎ UnbindsAll old new (used_up command)))

-- Why a line is refused, and that nothing is altered: it is no text; its words are wrong; or the command that they spell is refused. Memory
-- may always be wanting.
abbrev pub RefusesLine : List ℕ → Bindings → Bindings → Mistake → Type 0
RefusesLine line old new e =
    ((e ≡ NotText) × (IsUtf8 line → ⊥) × SameBindings old new)
    ⊎ (((ws : List (Bor (List ℕ))) × Words line ws × (refusal_of_line ws ≡ Some e) × SameBindings old new)
    ⊎ (((ws : List (Bor (List ℕ))) × (command : Command) × Words line ws × Asks ws (Some command)
    × RefusesCommand command old new e)
    ⊎ ((e ≡ NoMemory) × SameBindings old new)))

-- A line that is answered does what its words ask for, and one that asks for nothing alters nothing.
abbrev pub Runs : List ℕ → Bindings → Bindings → Result (Option Answer) Mistake → Type 0
Runs line old new (Ok (Some answer)) =
    (ws : List (Bor (List ℕ))) × (command : Command) × Words line ws × Asks ws (Some command) × Obeys command old new answer
Runs line old new (Ok None) = (ws : List (Bor (List ℕ))) × Words line ws × Asks ws None × SameBindings old new
Runs line old new (Err e) = RefusesLine line old new e
