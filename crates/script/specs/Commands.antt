-- What the words of a line ask for.
use Rattle.std.specs.Prelude.{◌≡◌, ℕ, Bool, true, false, cond, List, [], ◌∷◌, length, Some, None, Ok, Err, string_bytes, ok_or, Option, Result, ◌==◌, ◌⊎◌, nat_lt, slice_index, slice_index_or}
use Rattle.std.specs.Borrow.{Bor}
use Rattle.std.specs.Option.{option_or}
use Rattle.std.specs.Result.{result_err}
use Rattle.model.specs.declared.Round.{Round}
use Rattle.model.specs.Rounds.{round_named}
use Rattle.script.specs.Numbers.{number_in}
use Rattle.script.specs.Sources.{source_in, states_in, source_of}
use Rattle.script.specs.Verbs.{verb_of, words_wanted}
use Rattle.script.specs.Words.{Words}
use Rattle.script.specs.declared.command.Command.{Command}
use Rattle.script.specs.declared.command.Command.TheVariants.{New, Table, Gates, Join, Rename, Hide, Seal, Verdict, Outline, Ask}
use Rattle.script.specs.declared.mistake.Mistake.{Mistake}
use Rattle.script.specs.declared.mistake.Mistake.TheVariants.{UnknownCommand, MissingWord, SuperfluousWord, BadRound, BadNumber, BadUnitNumber, NoMemory}
use Rattle.script.specs.declared.verb.Verb.{Verb}

-- the word at a place, empty where there is none
abbrev pub word : List (Bor (List ℕ)) → ℕ → List ℕ
word ws i = (slice_index_or ws i (record { ref_ptr = (0, 0); now = [] })).now

abbrev pub round_of : List ℕ → Result Round Mistake
round_of w = ok_or (round_named w) BadRound

abbrev pub number_of : List ℕ → Result ℕ Mistake
number_of w = number_in 256 BadNumber w

abbrev pub unit_number_of : List ℕ → Result ℕ Mistake
unit_number_of w = number_in 4294967296 BadUnitNumber w

-- the words after the command's own spell the command
abbrev pub Spell : List (Bor (List ℕ)) → Command → Type 0
Spell ws New = Unit {0}
Spell ws (Table name bytes) = (word ws 0 ≡ string_bytes name) × (source_in (word ws 1) ≡ Ok (source_of bytes))
Spell ws (Gates name bytes) = (word ws 0 ≡ string_bytes name) × (source_in (word ws 1) ≡ Ok (source_of bytes))
Spell ws (Join name left right) =
    (word ws 0 ≡ string_bytes name) × (word ws 1 ≡ string_bytes left) × (word ws 2 ≡ string_bytes right)
Spell ws (Rename name below old new) =
    (word ws 0 ≡ string_bytes name) × (word ws 1 ≡ string_bytes below)
    × (number_of (word ws 2) ≡ Ok old) × (number_of (word ws 3) ≡ Ok new)
Spell ws (Hide name below hidden) =
    (word ws 0 ≡ string_bytes name) × (word ws 1 ≡ string_bytes below) × (number_of (word ws 2) ≡ Ok hidden)
Spell ws (Seal name drawing number) =
    (word ws 0 ≡ string_bytes name) × (word ws 1 ≡ string_bytes drawing) × (unit_number_of (word ws 2) ≡ Ok number)
Spell ws (Verdict name) = word ws 0 ≡ string_bytes name
Spell ws (Outline name) = word ws 0 ≡ string_bytes name
Spell ws (Ask name asked) =
    (word ws 0 ≡ string_bytes name) × (round_of (word ws 1) ≡ Ok asked.round)
    × (number_of (word ws 2) ≡ Ok asked.atom) × (number_of (word ws 3) ≡ Ok asked.choice)
    × (states_in (word ws 4) ≡ Ok (source_of asked.old)) × (states_in (word ws 5) ≡ Ok (source_of asked.new))

-- the first mistake of the words after a verb, as many as it wants
abbrev pub wrong_word : Verb → List (Bor (List ℕ)) → Option Mistake
wrong_word Verb.New ws = None
wrong_word Verb.Table ws = result_err (source_in (word ws 1))
wrong_word Verb.Gates ws = result_err (source_in (word ws 1))
wrong_word Verb.Join ws = None
wrong_word Verb.Rename ws = option_or (result_err (number_of (word ws 2))) (result_err (number_of (word ws 3)))
wrong_word Verb.Hide ws = result_err (number_of (word ws 2))
wrong_word Verb.Seal ws = result_err (unit_number_of (word ws 2))
wrong_word Verb.Verdict ws = None
wrong_word Verb.Outline ws = None
wrong_word Verb.Ask ws =
    option_or (result_err (round_of (word ws 1)))
    (option_or (result_err (number_of (word ws 2)))
    (option_or (result_err (number_of (word ws 3)))
    (option_or (result_err (states_in (word ws 4))) (result_err (states_in (word ws 5))))))

-- what the command begins with
abbrev pub verb_in : Command → Verb
verb_in New = Verb.New
verb_in (Table name bytes) = Verb.Table
verb_in (Gates name bytes) = Verb.Gates
verb_in (Join name left right) = Verb.Join
verb_in (Rename name below old new) = Verb.Rename
verb_in (Hide name below hidden) = Verb.Hide
verb_in (Seal name drawing number) = Verb.Seal
verb_in (Verdict name) = Verb.Verdict
verb_in (Outline name) = Verb.Outline
verb_in (Ask name asked) = Verb.Ask

-- the verb, and as many words after it as it wants, are this command
pub record Says (v : Verb) (ws : List (Bor (List ℕ))) (c : Command) : Type 0 where
  pub verb : verb_in c ≡ v
  pub count : length ws ≡ words_wanted v
  pub words : Spell ws c

-- why a command is refused that has so many words, and wants another number
abbrev pub miscounted : ℕ → ℕ → Mistake
miscounted wanted there = cond (nat_lt there wanted) MissingWord SuperfluousWord

-- why the words after a verb are refused, if they are: for their number, or else for the first that is wrong
abbrev pub refusal_of_words : Verb → List (Bor (List ℕ)) → Option Mistake
refusal_of_words v ws = cond (length ws == words_wanted v) (wrong_word v ws) (Some (miscounted (words_wanted v) (length ws)))

-- What is read of the words after a verb: the command, or why they are refused. Memory may always be wanting.
abbrev pub ReadsWords : Verb → List (Bor (List ℕ)) → Result Command Mistake → Type 0
ReadsWords v ws (Ok command) = Says v ws command
ReadsWords v ws (Err e) = (refusal_of_words v ws ≡ Some e) ⊎ (e ≡ NoMemory)

-- the word is a verb, and the words after it spell the command
abbrev pub Means : Option Verb → List (Bor (List ℕ)) → Command → Type 0
Means None ws command = ⊥
Means (Some v) ws command = Says v ws command

-- a word that is no verb is refused as such, and else the words after it may be
abbrev pub refusal_after : Option Verb → List (Bor (List ℕ)) → Option Mistake
refusal_after None ws = Some UnknownCommand
refusal_after (Some v) ws = refusal_of_words v ws

abbrev pub begins_comment : List ℕ → Bool
begins_comment w = slice_index w 0 == 35

-- what the words of a line ask for: nothing where there are none or the first begins a comment, else the command that they spell
abbrev pub Asks : List (Bor (List ℕ)) → Option Command → Type 0
Asks [] None = Unit {0}
Asks [] (Some command) = ⊥
Asks (w ∷ ws) None = begins_comment w.now ≡ true
Asks (w ∷ ws) (Some command) = (begins_comment w.now ≡ false) × Means (verb_of w.now) ws command

-- why the words of a line are refused, if they are
abbrev pub refusal_of_line : List (Bor (List ℕ)) → Option Mistake
refusal_of_line [] = None
refusal_of_line (w ∷ ws) = cond (begins_comment w.now) None (refusal_after (verb_of w.now) ws)

-- a line is refused for its words, or for want of memory
abbrev pub Unread : List ℕ → Mistake → Type 0
Unread line e = ((ws : List (Bor (List ℕ))) × Words line ws × (refusal_of_line ws ≡ Some e)) ⊎ (e ≡ NoMemory)
