-- Byte tables: what they say, how they are written, how they are opened, and what they mean.
use Rattle.std.specs.Prelude.{◌≡◌, ℕ, zero, suc, ◌+◌, ◌*◌, ◌/◌, ◌%◌, ◌^◌, ◌<◌, ◌≤◌, Bool, true, false, cond, ◌&&◌, List, [], ◌∷◌, ◌++◌, length, take, drop, ℤ, pos, is_some, Some, None, Option, ◌==◌, nat_le, nat_lt}
use Rattle.std.specs.List.{flat_map, AllByRecursion, slice_get}
use Rattle.model.specs.Meanings.{Valuation, OutlineFacts, ChoiceFacts, most_choices}
use Rattle.model.specs.Tests.{every, some, implies, count}
use Rattle.model.specs.declared.Fault.{Fault}
use Rattle.model.specs.declared.Kind.{Kind}
use Rattle.model.specs.declared.Kind.TheVariants.{Private, Interface, External}
use Rattle.model.specs.declared.Round.{Round}
use Rattle.model.specs.declared.Round.TheVariants.{Initial, Update}
use Rattle.language.specs.Rules.{rule_fault}
use Rattle.language.specs.declared.rules.Rule.{Rule}
use Rattle.language.specs.declared.rules.Rule.TheVariants.{TooManyBytes, BytesMissing, WrongVariable, WrongAtom, WrongExpression, BytesLeftOver}
use Rattle.language.specs.Expressions.{Number, Truth, number_bytes, truth_bytes, number_value, truth_value, Seen, number_right, truth_right, byte_at, Reading, good, bad, whole_number, whole_truth}

pub record TableVariable : Type 0 where
  pub name : ℕ
  pub kind : Kind
  pub top : ℕ

-- a choice: where it is open, and what it gives to each controlled name, names rising
pub record TableChoice : Type 0 where
  pub guard : Truth
  pub gives : List Number

-- an atom: its sets of names, each as a number of 32 bits, and its choices
pub record TableAtom : Type 0 where
  pub controls : ℕ
  pub reads : ℕ
  pub awaits : ℕ
  pub initial : List TableChoice
  pub update : List TableChoice

pub record TableSyntax : Type 0 where
  pub variables : List TableVariable
  pub atoms : List TableAtom

abbrev pub no_table : TableSyntax
no_table = record { variables = []; atoms = [] }

-- is the name n in the set: bit n
abbrev pub bit : ℕ → ℕ → Bool
bit w n = w / 2 ^ n % 2 == 1

-- how many names are in the set
abbrev pub size : ℕ → ℕ
size w = count (bit w) 32

-- ---- the written form

abbrev pub kind_byte : Kind → ℕ
kind_byte Private = 0
kind_byte Interface = 1
kind_byte External = 2

abbrev pub variable_bytes : TableVariable → List ℕ
variable_bytes v = v.name ∷ kind_byte v.kind ∷ v.top ∷ []

-- a set is four bytes, the highest first
abbrev pub word_bytes : ℕ → List ℕ
word_bytes w = w / 2 ^ 24 % 256 ∷ w / 2 ^ 16 % 256 ∷ w / 2 ^ 8 % 256 ∷ w % 256 ∷ []

-- an expression follows a byte with its length
abbrev pub with_length : List ℕ → List ℕ
with_length bs = length bs ∷ bs

abbrev pub number_item : Number → List ℕ
number_item e = with_length (number_bytes e)

abbrev pub choice_bytes : TableChoice → List ℕ
choice_bytes c = with_length (truth_bytes c.guard) ++ flat_map number_item c.gives

abbrev pub counts_bytes : TableAtom → List ℕ
counts_bytes a = length a.initial ∷ length a.update ∷ []

abbrev pub atom_bytes : TableAtom → List ℕ
atom_bytes a =
    word_bytes a.controls ++ (word_bytes a.reads ++ (word_bytes a.awaits ++ (counts_bytes a ++ (flat_map choice_bytes a.initial ++ flat_map choice_bytes a.update))))

abbrev pub table_bytes : TableSyntax → List ℕ
table_bytes t = length t.variables ∷ (flat_map variable_bytes t.variables ++ (length t.atoms ∷ flat_map atom_bytes t.atoms))

-- ---- what is right

abbrev pub variable_at : List TableVariable → ℕ → Option TableVariable
variable_at [] n = None
variable_at (v ∷ vs) n = cond (v.name == n) (Some v) (variable_at vs n)

abbrev pub own_kind : Kind → Bool
own_kind Private = true
own_kind Interface = true
own_kind External = false

-- a variable that is not external
abbrev pub is_own : Option TableVariable → Bool
is_own None = false
is_own (Some v) = own_kind v.kind

-- a set names only variables of the table
abbrev pub names_variables : List TableVariable → ℕ → Bool
names_variables vs w = every (λ n. implies (bit w n) (is_some (variable_at vs n))) 32

-- a controlled set is not empty, and names only variables that are not external
abbrev pub names_own : List TableVariable → ℕ → Bool
names_own vs w = some (bit w) 32 && every (λ n. implies (bit w n) (is_own (variable_at vs n))) 32

-- what a choice of the atom sees: new values of awaited names and, in an update, old values of read names
abbrev pub seen_in : Round → ℕ → ℕ → Seen
seen_in Initial reads awaits = record { old = λ n. false; new = bit awaits }
seen_in Update reads awaits = record { old = bit reads; new = bit awaits }

pub record VariableRight (lowest : ℕ) (v : TableVariable) : Type 0 where
  pub name_low : lowest ≤ v.name
  pub name_high : v.name ≤ 31
  pub top_low : 1 ≤ v.top
  pub top_high : v.top ≤ 255

-- right variables, names rising from `lowest`
abbrev pub VariablesRight : ℕ → List TableVariable → Type 0
VariablesRight lowest [] = Unit {0}
VariablesRight lowest (v ∷ vs) = VariableRight lowest v × VariablesRight (v.name + 1) vs

-- an expression nests at most eight levels deep and has at most 64 bytes
pub record TruthFits (s : Seen) (p : Truth) : Type 0 where
  pub right : truth_right 8 s p ≡ true
  pub short_enough : length (truth_bytes p) ≤ 64

pub record NumberFits (s : Seen) (e : Number) : Type 0 where
  pub right : number_right 8 s e ≡ true
  pub short_enough : length (number_bytes e) ≤ 64

pub record ChoiceRight (s : Seen) (count : ℕ) (c : TableChoice) : Type 0 where
  pub guard_fits : TruthFits s c.guard
  pub gives_count : length c.gives ≡ count
  pub gives_fit : AllByRecursion (NumberFits s) c.gives

-- right choices, at least one and as many as the round allows
pub record ChoicesRight (r : Round) (s : Seen) (count : ℕ) (cs : List TableChoice) : Type 0 where
  pub some_choice : 1 ≤ length cs
  pub few_choices : length cs ≤ most_choices r
  pub each : AllByRecursion (ChoiceRight s count) cs

pub record AtomRight (vs : List TableVariable) (a : TableAtom) : Type 0 where
  pub controls_word : a.controls < 2 ^ 32
  pub reads_word : a.reads < 2 ^ 32
  pub awaits_word : a.awaits < 2 ^ 32
  pub controls_own : names_own vs a.controls ≡ true
  pub reads_known : names_variables vs a.reads ≡ true
  pub awaits_known : names_variables vs a.awaits ≡ true
  pub initial_right : ChoicesRight Initial (seen_in Initial a.reads a.awaits) (size a.controls) a.initial
  pub update_right : ChoicesRight Update (seen_in Update a.reads a.awaits) (size a.controls) a.update

pub record TableRight (t : TableSyntax) : Type 0 where
  pub few_variables : length t.variables ≤ 32
  pub variables_right : VariablesRight 0 t.variables
  pub few_atoms : length t.atoms ≤ 16
  pub atoms_right : AllByRecursion (AtomRight t.variables) t.atoms

-- ---- opening

-- What reading a part gives: the part and the place after it; a fault, by the rule that is broken, its place and the end of
-- the item that was judged; or that bytes are missing.
pub data Step (X : Type 0) : Type 0 where
  fine : X → ℕ → Step X
  wrong : Rule → ℕ → ℕ → Step X
  short : Step X

abbrev pub and_then : {X Y : Type 0} → Step X → (X → ℕ → Step Y) → Step Y
and_then (fine x end) next = next x end
and_then (wrong rule place end) next = wrong rule place end
and_then short next = short

-- an item is judged when it is all there
abbrev pub judgement : {X : Type 0} → Rule → ℕ → ℕ → Option X → Step X
judgement rule place end None = wrong rule place end
judgement rule place end (Some x) = fine x end

abbrev pub item : {A X : Type 0} → Rule → ℕ → ℕ → (A → Option X) → Option A → Step X
item rule place end judge None = short
item rule place end judge (Some a) = judgement rule place end (judge a)

-- a byte at place k; if it is wrong this rule is broken
abbrev pub byte_item : {X : Type 0} → Rule → (ℕ → Option X) → List ℕ → ℕ → Step X
byte_item rule judge bs k = item rule k (k + 1) judge (byte_at bs k)

abbrev pub if_passes : {A : Type 0} → (A → Bool) → A → Option A
if_passes test a = cond (test a) (Some a) None

abbrev pub between : ℕ → ℕ → ℕ → Option ℕ
between low high = if_passes (λ b. nat_le low b && nat_le b high)

abbrev pub kind_of : ℕ → Option Kind
kind_of b = cond (b == 0) (Some Private) (cond (b == 1) (Some Interface) (cond (b == 2) (Some External) None))

-- the number that four bytes make, if all are there
abbrev pub joined_bytes : Option ℕ → Option ℕ → Option ℕ
joined_bytes None b = None
joined_bytes (Some a) None = None
joined_bytes (Some a) (Some b) = Some (a * 256 + b)

abbrev pub word_at : List ℕ → ℕ → Option ℕ
word_at bs k = joined_bytes (joined_bytes (joined_bytes (byte_at bs k) (byte_at bs (k + 1))) (byte_at bs (k + 2))) (byte_at bs (k + 3))

abbrev pub set_item : (ℕ → Bool) → List ℕ → ℕ → Step ℕ
set_item test bs k = item WrongAtom k (k + 4) (if_passes test) (word_at bs k)

-- the bytes from place k on, as many as said, if all are there
abbrev pub part_at : List ℕ → ℕ → ℕ → Option (List ℕ)
part_at bs k size = cond (nat_le (k + size) (length bs)) (Some (take size (drop k bs))) None

-- an expression that stands from place k up to `end`
abbrev pub expression_judged : {X : Type 0} → ℕ → ℕ → Reading X → Step X
expression_judged k end (good x _) = fine x end
expression_judged k end (bad place) = wrong WrongExpression (k + place) end

abbrev pub expression_of : {X : Type 0} → (List ℕ → Reading X) → ℕ → ℕ → Option (List ℕ) → Step X
expression_of whole k end None = short
expression_of whole k end (Some part) = expression_judged k end (whole part)

abbrev pub expression_body : {X : Type 0} → (List ℕ → Reading X) → List ℕ → ℕ → ℕ → Step X
expression_body whole bs size k = expression_of whole k (k + size) (part_at bs k size)

abbrev pub expression_item : {X : Type 0} → (List ℕ → Reading X) → List ℕ → ℕ → Step X
expression_item whole bs k = and_then (byte_item WrongExpression (between 1 64) bs k) (expression_body whole bs)

-- so many parts, one after the other
unfoldable pub many : {X : Type 0} → (List ℕ → ℕ → Step X) → ℕ → List ℕ → ℕ → Step (List X)
many read zero bs k = fine [] k
many read (suc n) bs k = and_then (read bs k) (λ x next. and_then (many read n bs next) (λ xs end. fine (x ∷ xs) end))

unfoldable pub read_variable : ℕ → List ℕ → ℕ → Step TableVariable
read_variable lowest bs k =
    and_then (byte_item WrongVariable (between lowest 31) bs k) (λ name k.
    and_then (byte_item WrongVariable kind_of bs k) (λ kind k.
    and_then (byte_item WrongVariable (between 1 255) bs k) (λ top end.
    fine (record { name = name; kind = kind; top = top }) end)))

-- so many variables, names rising from `lowest`
unfoldable pub read_variables : ℕ → ℕ → List ℕ → ℕ → Step (List TableVariable)
read_variables lowest zero bs k = fine [] k
read_variables lowest (suc n) bs k =
    and_then (read_variable lowest bs k) (λ v k. and_then (read_variables (v.name + 1) n bs k) (λ vs end. fine (v ∷ vs) end))

unfoldable pub read_choice : Seen → ℕ → List ℕ → ℕ → Step TableChoice
read_choice s count bs k =
    and_then (expression_item (whole_truth 8 s) bs k) (λ guard k.
    and_then (many (expression_item (whole_number 8 s)) count bs k) (λ gives end.
    fine (record { guard = guard; gives = gives }) end))

unfoldable pub read_atom : List TableVariable → List ℕ → ℕ → Step TableAtom
read_atom vs bs k =
    and_then (set_item (names_own vs) bs k) (λ controls k.
    and_then (set_item (names_variables vs) bs k) (λ reads k.
    and_then (set_item (names_variables vs) bs k) (λ awaits k.
    and_then (byte_item WrongAtom (between 1 (most_choices Initial)) bs k) (λ initials k.
    and_then (byte_item WrongAtom (between 1 (most_choices Update)) bs k) (λ updates k.
    and_then (many (read_choice (seen_in Initial reads awaits) (size controls)) initials bs k) (λ initial k.
    and_then (many (read_choice (seen_in Update reads awaits) (size controls)) updates bs k) (λ update end.
    fine (record { controls = controls; reads = reads; awaits = awaits; initial = initial; update = update }) end)))))))

unfoldable pub read_table : List ℕ → ℕ → Step TableSyntax
read_table bs k =
    and_then (byte_item WrongVariable (between 0 32) bs k) (λ count k.
    and_then (read_variables 0 count bs k) (λ variables k.
    and_then (byte_item WrongAtom (between 0 16) bs k) (λ count k.
    and_then (many (read_atom variables) count bs k) (λ atoms end.
    fine (record { variables = variables; atoms = atoms }) end))))

-- a table, or the rule and the place of the first fault
pub data Opening : Type 0 where
  opens_as : TableSyntax → Opening
  breaks : Rule → ℕ → Opening

-- what reading a string of so many bytes comes to
abbrev pub at_end : ℕ → Step TableSyntax → Opening
at_end all (fine t end) = cond (end == all) (opens_as t) (breaks BytesLeftOver end)
at_end all (wrong rule place end) = breaks rule place
at_end all short = breaks BytesMissing all

abbrev pub opening_of : List ℕ → Opening
opening_of bs = cond (nat_lt 4096 (length bs)) (breaks TooManyBytes 0) (at_end (length bs) (read_table bs 0))

abbrev pub fault_of : Opening → Option Fault
fault_of (opens_as t) = None
fault_of (breaks rule place) = Some (rule_fault rule place)

abbrev pub syntax_of : Opening → TableSyntax
syntax_of (opens_as t) = t
syntax_of (breaks rule place) = no_table

abbrev pub table_fault : List ℕ → Option Fault
table_fault bs = fault_of (opening_of bs)

-- the table, or one without variables and atoms where there is a fault
abbrev pub table_of : List ℕ → TableSyntax
table_of bs = syntax_of (opening_of bs)

-- ---- what a table means

abbrev pub variable_kind : Option TableVariable → Option Kind
variable_kind None = None
variable_kind (Some v) = Some v.kind

abbrev pub variable_top : Option TableVariable → ℕ
variable_top None = 0
variable_top (Some v) = v.top

abbrev pub in_set : (TableAtom → ℕ) → Option TableAtom → ℕ → Bool
in_set set None n = false
in_set set (Some a) n = bit (set a) n

abbrev pub syntax_outline : Option Fault → TableSyntax → OutlineFacts
syntax_outline fault t =
    record {
      fault = fault;
      layers = 1;
      kind = λ n. variable_kind (variable_at t.variables n);
      top = λ n. variable_top (variable_at t.variables n);
      atoms = length t.atoms;
      controls = λ a. in_set (λ x. x.controls) (slice_get t.atoms a);
      reads = λ a. in_set (λ x. x.reads) (slice_get t.atoms a);
      awaits = λ a. in_set (λ x. x.awaits) (slice_get t.atoms a);
    }

abbrev pub table_outline : List ℕ → OutlineFacts
table_outline bs = syntax_outline (table_fault bs) (table_of bs)

abbrev pub choices_in : Round → Option TableAtom → List TableChoice
choices_in Initial None = []
choices_in Update None = []
choices_in Initial (Some a) = a.initial
choices_in Update (Some a) = a.update

abbrev pub choice_opens : Option TableChoice → Valuation → Valuation → Bool
choice_opens None old new = false
choice_opens (Some c) old new = truth_value c.guard old new

abbrev pub numbers_of : Option TableChoice → List Number
numbers_of None = []
numbers_of (Some c) = c.gives

abbrev pub value_of : Option Number → Valuation → Valuation → ℤ
value_of None old new = pos 0
value_of (Some e) old new = number_value e old new

-- what the choice gives to the name n of the set: its number for the place of n among the names in the set, rising
abbrev pub given : Bool → ℕ → Option TableChoice → Valuation → Valuation → ℤ
given false place c old new = pos 0
given true place c old new = value_of (slice_get (numbers_of c) place) old new

abbrev pub atom_gives : Round → Option TableAtom → ℕ → ℕ → Valuation → Valuation → ℤ
atom_gives r None k n old new = pos 0
atom_gives r (Some a) k n old new = given (bit a.controls n) (count (bit a.controls) n) (slice_get (choices_in r (Some a)) k) old new

abbrev pub table_acts : TableSyntax → ChoiceFacts
table_acts t =
    record {
      choices = λ r a. length (choices_in r (slice_get t.atoms a));
      opens = λ r a k. choice_opens (slice_get (choices_in r (slice_get t.atoms a)) k);
      gives = λ r a. atom_gives r (slice_get t.atoms a);
    }
