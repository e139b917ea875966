-- Opening the written form of a right table gives that table.
use Rattle.std.proofs.Common.{◌≡◌, ℕ, suc, ◌+◌, ◌*◌, ◌/◌, ◌%◌, ◌^◌, ◌<◌, ◌≤◌, Bool, true, false, cond, eqb, ltb, leb, List, [], ◌∷◌, ◌++◌, length, take, drop, Some, None, Option, sym, refl, ap, ◌∙◌, subst, ap₂, zero-le, le_refl, zero-add, arith, lit≤}
use Rattle.std.proofs.ByRecursion.{All-append}
use Rattle.std.proofs.lemmas.List.{length-append, append-nil, take_at, drop_all}
use Rattle.std.proofs.lemmas.Bool.{and_from, and_parts, le-leb, eq-eqb, eqb-true, cond-true}
use Rattle.std.specs.List.{flat_map, AllByRecursion as All, slice_get}
use Rattle.model.specs.Meanings.{most_choices}
use Rattle.model.specs.declared.Kind.{Kind}
use Rattle.model.specs.declared.Kind.TheVariants.{Private, Interface, External}
use Rattle.model.specs.declared.Round.{Round}
use Rattle.model.specs.declared.Round.TheVariants.{Initial, Update}
use Rattle.language.specs.laws.Expressions.{nth_inside, byte_is, Stands, stands_left, stands_right}
use Rattle.language.specs.Expressions.{Number, constant, old_value, new_value, sum, difference, Truth, equal, less, negation, conjunction, disjunction, always, number_bytes, truth_bytes, number_levels, truth_levels, Seen, number_sees, truth_sees, byte_at, Reading, good, read_number, read_truth, to_the_end, whole_number, whole_truth}
use Rattle.language.specs.Statements.{TablesReadBack}
use Rattle.language.specs.laws.Reading.{fine_same, table_read}
use Rattle.language.specs.declared.rules.Rule.{Rule}
use Rattle.language.specs.declared.rules.Rule.TheVariants.{TooManyBytes, BytesMissing, WrongVariable, WrongAtom, WrongExpression, BytesLeftOver}
use Rattle.language.specs.Tables.{TableVariable, TableChoice, TableAtom, TableSyntax, size, kind_byte, variable_bytes, word_bytes, with_length, number_item, choice_bytes, counts_bytes, atom_bytes, table_bytes, names_variables, names_own, seen_in, VariableRight, VariablesRight, TruthFits, NumberFits, ChoiceRight, ChoicesRight, AtomRight, TableRight, Step, fine, wrong, short, and_then, judgement, item, byte_item, if_passes, between, kind_of, joined_bytes, word_at, set_item, part_at, expression_judged, expression_of, expression_body, expression_item, many, read_variable, read_variables, read_choice, read_atom, read_table, opens_as, breaks, at_end, opening_of}
use Rattle.language.proofs.Bytes.{stands_drop}
use Rattle.language.proofs.Expressions.{itself, number_good, truth_good, number_in_bytes, truth_in_bytes}
use Rattle.language.proofs.TableFronts.{opened_within}

then_fine : {X Y : Type 0} (r : Step X) (next : X → ℕ → Step Y) (x : X) (place : ℕ) (s : Step Y) → r ≡ fine x place → next x place ≡ s → and_then r next ≡ s
then_fine r next x place s e h = ap (λ r. and_then r next) e ∙ h

fine_at : {X : Type 0} (x : X) (i j : ℕ) → i ≡ j → fine x i ≡ fine x j
fine_at x i j e = ap (fine x) e

stands_inside : (bs : List ℕ) (k : ℕ) (xs : List ℕ) → k ≤ length bs → Stands bs k xs → k + length xs ≤ length bs
stands_inside bs k [] h stands = omega arith
stands_inside bs k (x ∷ xs) h stands =
    let here : k < length bs = nth_inside bs k x (byte_is (slice_get bs k) x stands.0) in
    omega (arith, stands_inside bs (k + 1) xs (omega arith) stands.1)

byte_fine : {X : Type 0} (rule : Rule) (judge : ℕ → Option X) (bs : List ℕ) (k b : ℕ) (x : X) → byte_at bs k ≡ Some b → judge b ≡ Some x → byte_item rule judge bs k ≡ fine x (k + 1)
byte_fine rule judge bs k b x e h = ap (item rule k (k + 1) judge) e ∙ ap (judgement rule k (k + 1)) h

limited_fine : (rule : Rule) (low high : ℕ) (bs : List ℕ) (k b : ℕ) → byte_at bs k ≡ Some b → low ≤ b → b ≤ high → byte_item rule (between low high) bs k ≡ fine b (k + 1)
limited_fine rule low high bs k b e l h = byte_fine rule (between low high) bs k b b e (cond-true _ _ _ (and_from (leb low b) (leb b high) (le-leb low b l) (le-leb b high h)))

kind_back : (kind : Kind) → kind_of (kind_byte kind) ≡ Some kind
kind_back Private = refl
kind_back Interface = refl
kind_back External = refl

variable_fine : (lowest : ℕ) (bs : List ℕ) (k : ℕ) (v : TableVariable) → VariableRight lowest v → Stands bs k (variable_bytes v) → read_variable lowest bs k ≡ fine v (k + length (variable_bytes v))
unfolding read_variable
variable_fine lowest bs k v h stands =
    then_fine (byte_item WrongVariable (between lowest 31) bs k) _ v.name (k + 1) _ (limited_fine WrongVariable lowest 31 bs k v.name stands.0 h.name_low h.name_high)
    (then_fine (byte_item WrongVariable kind_of bs (k + 1)) _ v.kind (k + 1 + 1) _ (byte_fine WrongVariable kind_of bs (k + 1) (kind_byte v.kind) v.kind stands.1.0 (kind_back v.kind))
    (then_fine (byte_item WrongVariable (between 1 255) bs (k + 1 + 1)) _ v.top (k + 1 + 1 + 1) _ (limited_fine WrongVariable 1 255 bs (k + 1 + 1) v.top stands.1.1.0 h.top_low h.top_high)
    (fine_at v (k + 1 + 1 + 1) (k + 3) (omega arith))))

variables_fine : (lowest : ℕ) (bs : List ℕ) (k : ℕ) (vs : List TableVariable) → VariablesRight lowest vs → Stands bs k (flat_map variable_bytes vs) → read_variables lowest (length vs) bs k ≡ fine vs (k + length (flat_map variable_bytes vs))
unfolding read_variables
variables_fine lowest bs k [] h stands = fine_at [] k (k + 0) (omega arith)
variables_fine lowest bs k (v ∷ vs) h stands =
    let next : ℕ = k + length (variable_bytes v) in
    then_fine (read_variable lowest bs k) _ v next _ (variable_fine lowest bs k v h.0 (stands_left bs k (variable_bytes v) (flat_map variable_bytes vs) stands))
    (then_fine (read_variables (v.name + 1) (length vs) bs next) _ vs (next + length (flat_map variable_bytes vs)) _ (variables_fine (v.name + 1) bs next vs h.1 (stands_right bs k next (variable_bytes v) (flat_map variable_bytes vs) refl stands))
    (fine_at (v ∷ vs) (next + length (flat_map variable_bytes vs)) _ (omega (arith, length-append (variable_bytes v) (flat_map variable_bytes vs)))))

word_back : (w : ℕ) → w < 2 ^ 32 → ((w / 2 ^ 24 % 256 * 256 + w / 2 ^ 16 % 256) * 256 + w / 2 ^ 8 % 256) * 256 + w % 256 ≡ w
word_back w h =
    let x : ℕ = w / 256 in let y : ℕ = x / 256 in let z : ℕ = y / 256 in
    let second : w / 65536 ≡ y = omega arith in
    let third : w / 16777216 ≡ z = omega arith in
    let small : z < 256 = omega arith in
    let whole : ((z % 256 * 256 + y % 256) * 256 + x % 256) * 256 + w % 256 ≡ w = omega arith in
    ap₂ (λ p q. ((p % 256 * 256 + q % 256) * 256 + x % 256) * 256 + w % 256) third second ∙ whole

set_fine : (test : ℕ → Bool) (bs : List ℕ) (k w : ℕ) → w < 2 ^ 32 → test w ≡ true → Stands bs k (word_bytes w) → set_item test bs k ≡ fine w (k + 4)
set_fine test bs k w small passes stands =
    let third : byte_at bs (k + 2) ≡ Some (w / 2 ^ 8 % 256) = subst (λ i. byte_at bs i ≡ Some (w / 2 ^ 8 % 256)) (two_on k) stands.1.1.0 in
    let fourth : byte_at bs (k + 3) ≡ Some (w % 256) = subst (λ i. byte_at bs i ≡ Some (w % 256)) (three_on k) stands.1.1.1.0 in
    let found : word_at bs k ≡ Some w =
    ap₂ joined_bytes (ap₂ joined_bytes (ap₂ joined_bytes stands.0 stands.1.0) third) fourth ∙ ap Some (word_back w small) in
    ap (item WrongAtom k (k + 4) (if_passes test)) found ∙ ap (judgement WrongAtom k (k + 4)) (cond-true (test w) (Some w) None passes)
  where
    two_on : (k : ℕ) → k + 1 + 1 ≡ k + 2
    two_on k = omega arith

    three_on : (k : ℕ) → k + 1 + 1 + 1 ≡ k + 3
    three_on k = omega arith

module _ {X : Type 0} (read : List ℕ → ℕ → Reading X) (form : X → List ℕ) (bs : List ℕ) (k : ℕ) (x : X) where
  expression_fine : read (form x) 0 ≡ good x (0 + length (form x)) → 1 ≤ length (form x) → length (form x) ≤ 64 → k ≤ length bs → Stands bs k (with_length (form x)) → expression_item (λ part. to_the_end (length part) (read part 0)) bs k ≡ fine x (k + length (with_length (form x)))
  expression_fine reads low high within stands =
      let n : ℕ = length (form x) in
      let whole : List ℕ → Reading X = λ part. to_the_end (length part) (read part 0) in
      let room : k + 1 + n ≤ length bs = omega (arith, stands_inside bs k (with_length (form x)) within stands) in
      let part : take n (drop (k + 1) bs) ≡ form x =
      ap (take n) (stands_drop bs (k + 1) (k + 1 + n) (form x) stands.1 refl) ∙ take_at (form x) (drop (k + 1 + n) bs) n refl in
      let there : part_at bs (k + 1) n ≡ Some (form x) = cond-true _ _ _ (le-leb (k + 1 + n) (length bs) room) ∙ ap Some part in
      let judged : whole (form x) ≡ good x (0 + n) = ap (to_the_end n) reads ∙ cond-true _ _ _ (eq-eqb (0 + n) n (omega arith)) in
      then_fine (byte_item WrongExpression (between 1 64) bs k) (expression_body whole bs) n (k + 1) _ (limited_fine WrongExpression 1 64 bs k n stands.0 low high)
      (ap (expression_of whole (k + 1) (k + 1 + n)) there ∙ ap (expression_judged (k + 1) (k + 1 + n)) judged ∙ fine_at x (k + 1 + n) (k + suc n) (omega arith))

number_some : (e : Number) → 1 ≤ length (number_bytes e)
number_some (constant v) = lit≤ tt
number_some (old_value n) = lit≤ tt
number_some (new_value n) = lit≤ tt
number_some (sum a b) = omega arith
number_some (difference a b) = omega arith

truth_some : (p : Truth) → 1 ≤ length (truth_bytes p)
truth_some (equal a b) = omega arith
truth_some (less a b) = omega arith
truth_some (negation p) = omega arith
truth_some (conjunction p q) = omega arith
truth_some (disjunction p q) = omega arith
truth_some always = omega arith

truth_sees_of : (s : Seen) (p : Truth) → TruthFits s p → truth_sees s p ≡ true
truth_sees_of s p f = (and_parts (leb (truth_levels p) 8) (truth_sees s p) f.right).1

number_sees_of : (s : Seen) (e : Number) → NumberFits s e → number_sees s e ≡ true
number_sees_of s e f = (and_parts (leb (number_levels e) 8) (number_sees s e) f.right).1

truth_fine : (s : Seen) (bs : List ℕ) (k : ℕ) (p : Truth) → TruthFits s p → k ≤ length bs → Stands bs k (with_length (truth_bytes p)) → expression_item (whole_truth 8 s) bs k ≡ fine p (k + length (with_length (truth_bytes p)))
truth_fine s bs k p f within stands =
    expression_fine (read_truth 8 s) truth_bytes bs k p (truth_good 8 s (truth_bytes p) 0 p f.right (itself (truth_bytes p) (truth_in_bytes s p (truth_sees_of s p f)))) (truth_some p) f.short_enough within stands

number_fine : (s : Seen) (bs : List ℕ) (k : ℕ) (e : Number) → NumberFits s e → k ≤ length bs → Stands bs k (number_item e) → expression_item (whole_number 8 s) bs k ≡ fine e (k + length (number_item e))
number_fine s bs k e f within stands =
    expression_fine (read_number 8 s) number_bytes bs k e (number_good 8 s (number_bytes e) 0 e f.right (itself (number_bytes e) (number_in_bytes s e (number_sees_of s e f)))) (number_some e) f.short_enough within stands

many_fine : {X : Type 0} (read : List ℕ → ℕ → Step X) (form : X → List ℕ) (P : X → Type 0) → ((bs : List ℕ) (k : ℕ) (x : X) → P x → k ≤ length bs → Stands bs k (form x) → read bs k ≡ fine x (k + length (form x))) → (bs : List ℕ) (k : ℕ) (xs : List X) → All P xs → k ≤ length bs → Stands bs k (flat_map form xs) → many read (length xs) bs k ≡ fine xs (k + length (flat_map form xs))
unfolding many
many_fine read form P is bs k [] h within stands = fine_at [] k (k + 0) (omega arith)
many_fine read form P is bs k (x ∷ xs) h within stands =
    let next : ℕ = k + length (form x) in
    let first : Stands bs k (form x) = stands_left bs k (form x) (flat_map form xs) stands in
    then_fine (read bs k) _ x next _ (is bs k x h.0 within first)
    (then_fine (many read (length xs) bs next) _ xs (next + length (flat_map form xs)) _ (many_fine read form P is bs next xs h.1 (stands_inside bs k (form x) within first) (stands_right bs k next (form x) (flat_map form xs) refl stands))
    (fine_at (x ∷ xs) (next + length (flat_map form xs)) _ (omega (arith, length-append (form x) (flat_map form xs)))))

many_sized : {X : Type 0} (read : List ℕ → ℕ → Step X) (n : ℕ) (bs : List ℕ) (k : ℕ) (xs : List X) (s : Step (List X)) → length xs ≡ n → many read (length xs) bs k ≡ s → many read n bs k ≡ s
many_sized read n bs k xs s e h = ap (λ i. many read i bs k) (sym e) ∙ h

choice_fine : (s : Seen) (count : ℕ) (bs : List ℕ) (k : ℕ) (c : TableChoice) → ChoiceRight s count c → k ≤ length bs → Stands bs k (choice_bytes c) → read_choice s count bs k ≡ fine c (k + length (choice_bytes c))
unfolding read_choice
choice_fine s count bs k c h within stands =
    let guard = with_length (truth_bytes c.guard) in let gives = flat_map number_item c.gives in
    let next : ℕ = k + length guard in
    let first : Stands bs k guard = stands_left bs k guard gives stands in
    then_fine (expression_item (whole_truth 8 s) bs k) _ c.guard next _ (truth_fine s bs k c.guard h.guard_fits within first)
    (then_fine (many (expression_item (whole_number 8 s)) count bs next) _ c.gives (next + length gives) _
    (many_sized (expression_item (whole_number 8 s)) count bs next c.gives _ h.gives_count (many_fine (expression_item (whole_number 8 s)) number_item (NumberFits s) (number_fine s) bs next c.gives h.gives_fit (stands_inside bs k guard within first) (stands_right bs k next guard gives refl stands)))
    (fine_at c (next + length gives) _ (omega (arith, length-append guard gives))))

atom_fine : (vs : List TableVariable) (bs : List ℕ) (k : ℕ) (a : TableAtom) → AtomRight vs a → k ≤ length bs → Stands bs k (atom_bytes a) → read_atom vs bs k ≡ fine a (k + length (atom_bytes a))
unfolding read_atom
atom_fine vs bs k a h within stands =
    let rest₁ = word_bytes a.reads ++ rest₂ in
    let s₁ : Stands bs k (word_bytes a.controls) = stands_left bs k (word_bytes a.controls) rest₁ stands in
    let t₁ : Stands bs (k + 4) rest₁ = stands_right bs k (k + 4) (word_bytes a.controls) rest₁ refl stands in
    let s₂ : Stands bs (k + 4) (word_bytes a.reads) = stands_left bs (k + 4) (word_bytes a.reads) rest₂ t₁ in
    let t₂ : Stands bs (k + 4 + 4) rest₂ = stands_right bs (k + 4) (k + 4 + 4) (word_bytes a.reads) rest₂ refl t₁ in
    let s₃ : Stands bs (k + 4 + 4) (word_bytes a.awaits) = stands_left bs (k + 4 + 4) (word_bytes a.awaits) rest₃ t₂ in
    let t₃ : Stands bs (k + 4 + 4 + 4) rest₃ = stands_right bs (k + 4 + 4) (k + 4 + 4 + 4) (word_bytes a.awaits) rest₃ refl t₂ in
    then_fine (set_item (names_own vs) bs k) _ a.controls (k + 4) _ (set_fine (names_own vs) bs k a.controls h.controls_word h.controls_own s₁)
    (then_fine (set_item (names_variables vs) bs (k + 4)) _ a.reads (k + 4 + 4) _ (set_fine (names_variables vs) bs (k + 4) a.reads h.reads_word h.reads_known s₂)
    (then_fine (set_item (names_variables vs) bs (k + 4 + 4)) _ a.awaits (k + 4 + 4 + 4) _ (set_fine (names_variables vs) bs (k + 4 + 4) a.awaits h.awaits_word h.awaits_known s₃)
    (choices (k + 4 + 4 + 4) t₃ (roomy k (length (initial ++ update)) (length (atom_bytes a)) (length bs) sized (stands_inside bs k (atom_bytes a) within stands)) ∙ fine_at a _ _ (total k (length initial) (length update) (length (initial ++ update)) (length (atom_bytes a)) (length-append initial update) sized))))
  where
    initial : List ℕ
    initial = flat_map choice_bytes a.initial

    update : List ℕ
    update = flat_map choice_bytes a.update

    rest₃ : List ℕ
    rest₃ = counts_bytes a ++ (initial ++ update)

    rest₂ : List ℕ
    rest₂ = word_bytes a.awaits ++ rest₃

    sized : length (atom_bytes a) ≡ 14 + length (initial ++ update)
    sized = omega arith

    roomy : (k n l m : ℕ) → l ≡ 14 + n → k + l ≤ m → k + 4 + 4 + 4 + 1 + 1 ≤ m
    roomy k n l m e h = omega arith

    total : (k i u n l : ℕ) → n ≡ i + u → l ≡ 14 + n → k + 4 + 4 + 4 + 1 + 1 + i + u ≡ k + l
    total k i u n l e f = omega arith

    seen : (r : Round) → Seen
    seen r = seen_in r a.reads a.awaits

    choices : (j : ℕ) → Stands bs j rest₃ → j + 1 + 1 ≤ length bs →
        and_then (byte_item WrongAtom (between 1 (most_choices Initial)) bs j) (λ initials k.
        and_then (byte_item WrongAtom (between 1 (most_choices Update)) bs k) (λ updates k.
        and_then (many (read_choice (seen_in Initial a.reads a.awaits) (size a.controls)) initials bs k) (λ initial k.
        and_then (many (read_choice (seen_in Update a.reads a.awaits) (size a.controls)) updates bs k) (λ update end.
        fine (record { controls = a.controls; reads = a.reads; awaits = a.awaits; initial = initial; update = update }) end)))) ≡ fine a (j + 1 + 1 + length initial + length update)
    choices j stands room =
        let i = h.initial_right in let u = h.update_right in
        let next : ℕ = j + 1 + 1 + length initial in
        let first : Stands bs (j + 1 + 1) initial = stands_left bs (j + 1 + 1) initial update stands.1.1 in
        then_fine (byte_item WrongAtom (between 1 (most_choices Initial)) bs j) _ (length a.initial) (j + 1) _ (limited_fine WrongAtom 1 (most_choices Initial) bs j (length a.initial) stands.0 i.some_choice i.few_choices)
        (then_fine (byte_item WrongAtom (between 1 (most_choices Update)) bs (j + 1)) _ (length a.update) (j + 1 + 1) _ (limited_fine WrongAtom 1 (most_choices Update) bs (j + 1) (length a.update) stands.1.0 u.some_choice u.few_choices)
        (then_fine (many (read_choice (seen_in Initial a.reads a.awaits) (size a.controls)) (length a.initial) bs (j + 1 + 1)) _ a.initial next _
        (many_fine (read_choice (seen Initial) (size a.controls)) choice_bytes (ChoiceRight (seen Initial) (size a.controls)) (choice_fine (seen Initial) (size a.controls)) bs (j + 1 + 1) a.initial i.each room first)
        (then_fine (many (read_choice (seen_in Update a.reads a.awaits) (size a.controls)) (length a.update) bs next) _ a.update (next + length update) _
        (many_fine (read_choice (seen Update) (size a.controls)) choice_bytes (ChoiceRight (seen Update) (size a.controls)) (choice_fine (seen Update) (size a.controls)) bs next a.update u.each (stands_inside bs (j + 1 + 1) initial room first) (stands_right bs (j + 1 + 1) next initial update refl stands.1.1))
        refl)))

table_fine : (bs : List ℕ) (k : ℕ) (t : TableSyntax) → TableRight t → k ≤ length bs → Stands bs k (table_bytes t) → read_table bs k ≡ fine t (k + length (table_bytes t))
unfolding read_table
table_fine bs k t h within stands =
    let variables = flat_map variable_bytes t.variables in let atoms = flat_map atom_bytes t.atoms in
    let next : ℕ = k + 1 + length variables in
    let second : Stands bs (k + 1) variables = stands_left bs (k + 1) variables (length t.atoms ∷ atoms) stands.1 in
    let rest : Stands bs next (length t.atoms ∷ atoms) = stands_right bs (k + 1) next variables (length t.atoms ∷ atoms) refl stands.1 in
    let all = length-append variables (length t.atoms ∷ atoms) in
    then_fine (byte_item WrongVariable (between 0 32) bs k) _ (length t.variables) (k + 1) _ (limited_fine WrongVariable 0 32 bs k (length t.variables) stands.0 (zero-le) h.few_variables)
    (then_fine (read_variables 0 (length t.variables) bs (k + 1)) _ t.variables next _ (variables_fine 0 bs (k + 1) t.variables h.variables_right second)
    (then_fine (byte_item WrongAtom (between 0 16) bs next) _ (length t.atoms) (next + 1) _ (limited_fine WrongAtom 0 16 bs next (length t.atoms) rest.0 (zero-le) h.few_atoms)
    (then_fine (many (read_atom t.variables) (length t.atoms) bs (next + 1)) _ t.atoms (next + 1 + length atoms) _
    (many_fine (read_atom t.variables) atom_bytes (AtomRight t.variables) (atom_fine t.variables) bs (next + 1) t.atoms h.atoms_right (reached k (length variables) (length atoms) (length (variables ++ (length t.atoms ∷ atoms))) (length bs) all (stands_inside bs k (table_bytes t) within stands)) rest.1)
    (fine_at t (next + 1 + length atoms) _ (total k (length variables) (length atoms) (length (variables ++ (length t.atoms ∷ atoms))) all)))))
  where
    reached : (k v a n m : ℕ) → n ≡ v + suc a → k + suc n ≤ m → k + 1 + v + 1 ≤ m
    reached k v a n m e h = omega arith

    total : (k v a n : ℕ) → n ≡ v + suc a → k + 1 + v + 1 + a ≡ k + suc n
    total k v a n e = omega arith

-- ---- a right table is written in bytes

all_joined : {X : Type 0} (P : X → Type 0) (form : X → List ℕ) → ((x : X) → P x → All (λ b. b < 256) (form x)) → (xs : List X) → All P xs → All (λ b. b < 256) (flat_map form xs)
all_joined P form each [] h = tt
all_joined P form each (x ∷ xs) h = All-append (λ b. b < 256) (form x) (flat_map form xs) (each x h.0) (all_joined P form each xs h.1)

kind_small : (kind : Kind) → kind_byte kind < 256
kind_small Private = lit≤ tt
kind_small Interface = lit≤ tt
kind_small External = lit≤ tt

variables_in_bytes : (lowest : ℕ) (vs : List TableVariable) → VariablesRight lowest vs → All (λ b. b < 256) (flat_map variable_bytes vs)
variables_in_bytes lowest [] h = tt
variables_in_bytes lowest (v ∷ vs) h =
    (omega (arith, h.0.name_high), (kind_small v.kind, (omega (arith, h.0.top_high), variables_in_bytes (v.name + 1) vs h.1)))

word_in_bytes : (w : ℕ) → All (λ b. b < 256) (word_bytes w)
word_in_bytes w = (omega arith, (omega arith, (omega arith, (omega arith, tt))))

choice_in_bytes : (s : Seen) (count : ℕ) (c : TableChoice) → ChoiceRight s count c → All (λ b. b < 256) (choice_bytes c)
choice_in_bytes s count c h =
    All-append (λ b. b < 256) (with_length (truth_bytes c.guard)) (flat_map number_item c.gives)
    (omega (arith, h.guard_fits.short_enough), truth_in_bytes s c.guard (truth_sees_of s c.guard h.guard_fits))
    (all_joined (NumberFits s) number_item (λ e f. (omega (arith, f.short_enough), number_in_bytes s e (number_sees_of s e f))) c.gives h.gives_fit)

choices_in_bytes : (r : Round) (s : Seen) (count : ℕ) (cs : List TableChoice) → ChoicesRight r s count cs → All (λ b. b < 256) (flat_map choice_bytes cs)
choices_in_bytes r s count cs h = all_joined (ChoiceRight s count) choice_bytes (choice_in_bytes s count) cs h.each

atom_in_bytes : (vs : List TableVariable) (a : TableAtom) → AtomRight vs a → All (λ b. b < 256) (atom_bytes a)
atom_in_bytes vs a h =
    let P : ℕ → Type 0 = λ b. b < 256 in
    let choices = flat_map choice_bytes a.initial ++ flat_map choice_bytes a.update in
    All-append P (word_bytes a.controls) (word_bytes a.reads ++ (word_bytes a.awaits ++ (counts_bytes a ++ choices))) (word_in_bytes a.controls)
    (All-append P (word_bytes a.reads) (word_bytes a.awaits ++ (counts_bytes a ++ choices)) (word_in_bytes a.reads)
    (All-append P (word_bytes a.awaits) (counts_bytes a ++ choices) (word_in_bytes a.awaits)
    (All-append P (counts_bytes a) choices (omega (arith, h.initial_right.few_choices), (omega (arith, h.update_right.few_choices), tt))
    (All-append P (flat_map choice_bytes a.initial) (flat_map choice_bytes a.update) (choices_in_bytes Initial _ _ a.initial h.initial_right) (choices_in_bytes Update _ _ a.update h.update_right)))))

table_in_bytes : (t : TableSyntax) → TableRight t → All (λ b. b < 256) (table_bytes t)
table_in_bytes t h = (
  omega (arith, h.few_variables),
  All-append (λ b. b < 256) (flat_map variable_bytes t.variables) (length t.atoms ∷ flat_map atom_bytes t.atoms) (variables_in_bytes 0 t.variables h.variables_right)
      (omega (arith, h.few_atoms), all_joined (AtomRight t.variables) atom_bytes (atom_in_bytes t.variables) t.atoms h.atoms_right),
)

-- ---- openings

form_read : (t : TableSyntax) → TableRight t → read_table (table_bytes t) 0 ≡ fine t (length (table_bytes t))
form_read t h = table_fine (table_bytes t) 0 t h (zero-le) (itself (table_bytes t) (table_in_bytes t h)) ∙ fine_at t (0 + length (table_bytes t)) (length (table_bytes t)) (zero-add (length (table_bytes t)))

back : (t : TableSyntax) → TableRight t → length (table_bytes t) ≤ 4096 → opening_of (table_bytes t) ≡ opens_as t
back t h few =
    opened_within (table_bytes t) few ∙ ap (at_end (length (table_bytes t))) (form_read t h) ∙ cond-true _ _ _ (eq-eqb (length (table_bytes t)) (length (table_bytes t)) refl)

breaks_opens : {P : Type 0} (rule : Rule) (place : ℕ) (t : TableSyntax) → breaks rule place ≡ opens_as t → P
breaks_opens rule place t e = let z : ◌≡◌ {A = ℕ} 0 1 = cc in absurd (omega arith)

opened_same : (t u : TableSyntax) → opens_as t ≡ opens_as u → t ≡ u
opened_same t u e = cc

whole_read : (bs : List ℕ) (t : TableSyntax) → opening_of bs ≡ opens_as t → read_table bs 0 ≡ fine t (length bs)
whole_read bs t e = go (ltb 4096 (length bs)) e
  where
    test : (u : TableSyntax) (end : ℕ) → read_table bs 0 ≡ fine u end → (b : Bool) → eqb end (length bs) ≡ b → cond b (opens_as u) (breaks BytesLeftOver end) ≡ opens_as t → read_table bs 0 ≡ fine t (length bs)
    test u end is true f e = is ∙ ap₂ fine (opened_same u t e) (eqb-true end (length bs) f)
    test u end is false f e = breaks_opens BytesLeftOver end t e

    by : (r : Step TableSyntax) → read_table bs 0 ≡ r → at_end (length bs) r ≡ opens_as t → read_table bs 0 ≡ fine t (length bs)
    by (fine u end) is e = test u end is (eqb end (length bs)) refl e
    by (wrong rule place end) is e = breaks_opens rule place t e
    by short is e = breaks_opens BytesMissing (length bs) t e

    go : (b : Bool) → cond b (breaks TooManyBytes 0) (at_end (length bs) (read_table bs 0)) ≡ opens_as t → read_table bs 0 ≡ fine t (length bs)
    go true e = breaks_opens TooManyBytes 0 t e
    go false e = by (read_table bs 0) refl e

pub tables_read_back : TablesReadBack
tables_read_back =
    record {
      read_back = back;
      written = λ bs t e.
          let r = table_read bs 0 t (length bs) (whole_read bs t e) in
          (r.holds, stands_drop bs 0 (length bs) (table_bytes t) r.stands r.ends ∙ ap (λ l. table_bytes t ++ l) (drop_all (length bs) bs (le_refl (length bs))) ∙ append-nil (table_bytes t));
      once = λ t u h g e. fine_same t u _ _ (sym (form_read t h) ∙ ap (λ bs. read_table bs 0) e ∙ form_read u g);
    }
