-- What a choice's expressions are worth is what the table means.
use Rattle.model.specs.Tests.{count}
use Rattle.std.proofs.Common.{◌≡◌, ℕ, Bool, true, false, List, [], ℤ, pos, Some, None, Option, sym, refl, ap, ◌∙◌, subst}
use Rattle.std.proofs.ByRecursion.{All-get_or}
use Rattle.std.proofs.lemmas.Option.{get_or_from_slice_get}
use Rattle.std.specs.List.{AllByRecursion as All, slice_get}
use Rattle.model.specs.States.{value}
use Rattle.model.specs.declared.Round.{Round}
use Rattle.model.specs.declared.Round.TheVariants.{Initial, Update}
use Rattle.expression.specs.Evaluation.{evaluated_number, evaluated_truth, NumberEvaluated, TruthEvaluated}
use Rattle.language.specs.laws.Expressions.{none_some, nth_inside}
use Rattle.language.specs.Expressions.{Number, Seen, read_number, read_truth}
use Rattle.language.specs.laws.Tables.{table_sound}
use Rattle.language.specs.Tables.{TableVariable, TableAtom, TableChoice, bit, size, seen_in, NumberFits, ChoiceRight, ChoicesRight, AtomRight, table_of, choices_in, choice_opens, numbers_of, value_of, given, atom_gives}
use Rattle.table.specs.Table.{contents, atom_of, choice_of, guard_bytes, number_if, number_for, bytes_of_number, number_bytes_of}
use Rattle.table.specs.declared.table.Table.{Table}

each : {X : Type 0} (P : X → Type 0) (xs : List X) (i : ℕ) (x : X) → All P xs → slice_get xs i ≡ Some x → P x
each P xs i x all e = subst P (get_or_from_slice_get xs i x x e) (All-get_or P xs i x (nth_inside xs i x e) all)

choices_right : (r : Round) {vs : List TableVariable} (a : TableAtom) → AtomRight vs a → ChoicesRight r (seen_in r a.reads a.awaits) (size a.controls) (choices_in r (Some a))
choices_right Initial a h = h.initial_right
choices_right Update a h = h.update_right

none_there : {P : Type 0} (r : Round) (k : ℕ) (c : TableChoice) → slice_get (choices_in r None) k ≡ Some c → P
none_there Initial k c e = none_some c e
none_there Update k c e = none_some c e

-- a choice of an opened table is right, by what its atom sees
choice_right : (t : Table) (r : Round) (i k : ℕ) (c : TableChoice) → choice_of t r i k ≡ Some c → (s : Seen) × (count : ℕ) × ChoiceRight s count c
choice_right t r i k c e = go (atom_of t i) refl e
  where
    go : (o : Option TableAtom) → atom_of t i ≡ o → slice_get (choices_in r o) k ≡ Some c → (s : Seen) × (count : ℕ) × ChoiceRight s count c
    go None is e = none_there r k c e
    go (Some a) is e =
        let right = (table_sound (contents t)).right in
        let atom = each (AtomRight (table_of (contents t)).variables) (table_of (contents t)).atoms i a right.atoms_right is in
        let s = seen_in r a.reads a.awaits in let count = size a.controls in
        (s, count, each (ChoiceRight s count) (choices_in r (Some a)) k c (choices_right r a atom).each e)

nothing_holds : (old new : List ℕ) → evaluated_truth [] old new ≡ false
unfolding read_truth
nothing_holds old new = refl

nothing_worth : (old new : List ℕ) → evaluated_number [] old new ≡ pos 0
unfolding read_number
nothing_worth old new = refl

pub opens : (t : Table) (r : Round) (i k : ℕ) (bs old new : List ℕ) (answer : Bool) → bs ≡ guard_bytes (choice_of t r i k) → answer ≡ evaluated_truth bs old new → TruthEvaluated bs old new answer → answer ≡ choice_opens (choice_of t r i k) (value old) (value new)
opens t r i k bs old new answer form is means = go (choice_of t r i k) refl form
  where
    go : (o : Option TableChoice) → choice_of t r i k ≡ o → bs ≡ guard_bytes o → answer ≡ choice_opens o (value old) (value new)
    go None there form = is ∙ ap (λ xs. evaluated_truth xs old new) form ∙ nothing_holds old new
    go (Some c) there form = let right = choice_right t r i k c there in means.written right.0 c.guard right.2.guard_fits.right form

-- what an atom gives is the value of its number for the name
gives_value : (r : Round) (o : Option TableAtom) (k n : ℕ) (old new : List ℕ) → atom_gives r o k n (value old) (value new) ≡ value_of (number_for o n (slice_get (choices_in r o) k)) (value old) (value new)
gives_value r None k n old new = refl
gives_value r (Some a) k n old new = go (bit a.controls n)
  where
    go : (b : Bool) → given b (count (bit a.controls) n) (slice_get (choices_in r (Some a)) k) (value old) (value new) ≡ value_of (number_if b (count (bit a.controls) n) (slice_get (choices_in r (Some a)) k)) (value old) (value new)
    go true = refl
    go false = refl

-- a number for a name is one of its choice's numbers
number_fits : (t : Table) (r : Round) (i k n : ℕ) (e : Number) → number_for (atom_of t i) n (choice_of t r i k) ≡ Some e → (s : Seen) × NumberFits s e
number_fits t r i k n e h = go (atom_of t i) h
  where
    from : (c : Option TableChoice) → choice_of t r i k ≡ c → (m : ℕ) → slice_get (numbers_of c) m ≡ Some e → (s : Seen) × NumberFits s e
    from None there m h = none_some e h
    from (Some c) there m h = let right = choice_right t r i k c there in (right.0, each (NumberFits right.0) c.gives m e right.2.gives_fit h)

    by : (b : Bool) (m : ℕ) → number_if b m (choice_of t r i k) ≡ Some e → (s : Seen) × NumberFits s e
    by false m h = none_some e h
    by true m h = from (choice_of t r i k) refl m h

    go : (o : Option TableAtom) → number_for o n (choice_of t r i k) ≡ Some e → (s : Seen) × NumberFits s e
    go None h = none_some e h
    go (Some a) h = by (bit a.controls n) (count (bit a.controls) n) h

pub gives : (t : Table) (r : Round) (i k n : ℕ) (bs old new : List ℕ) (answer : ℤ) → bs ≡ number_bytes_of t r i k n → answer ≡ evaluated_number bs old new → NumberEvaluated bs old new answer → answer ≡ atom_gives r (atom_of t i) k n (value old) (value new)
gives t r i k n bs old new answer form is means = go (number_for (atom_of t i) n (choice_of t r i k)) refl form ∙ sym (gives_value r (atom_of t i) k n old new)
  where
    go : (o : Option Number) → number_for (atom_of t i) n (choice_of t r i k) ≡ o → bs ≡ bytes_of_number o → answer ≡ value_of o (value old) (value new)
    go None there form = is ∙ ap (λ xs. evaluated_number xs old new) form ∙ nothing_worth old new
    go (Some e) there form = let fits = number_fits t r i k n e there in means.written fits.0 e fits.1.right form
