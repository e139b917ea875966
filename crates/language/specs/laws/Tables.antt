-- Tables keep the laws of drawings.
use Rattle.std.specs.Prelude.{◌≡◌, ℕ, zero, suc, ◌+◌, ◌/◌, ◌%◌, ◌^◌, ◌<◌, ◌≤◌, Bool, true, false, cond, ◌⊎◌, List, [], ◌∷◌, length, ℤ, pos, negsuc, ◌≤ℤ◌, is_some, Some, None, Option, ◌==◌, ◌≢◌, nat_eq, nat_le, nat_lt, refl}
use Rattle.std.proofs.Common.{inl, inr, sym, ap, subst, zero-le, ◌∙◌, le_of_suc-le-suc, not-suc-le-zero, lt_of_lt_of_le, arith, lit≤, pow_mono}
use Rattle.std.proofs.Math.Nat.{div-eq_of_lt}
use Rattle.std.proofs.lemmas.Int.{ints}
use Rattle.std.proofs.lemmas.Option.{slice_get_past}
use Rattle.std.proofs.lemmas.Bool.{and_parts, eqb-true, both_ways, false≢true, cases_lt}
use Rattle.std.specs.List.{AllByRecursion, slice_get}
use Rattle.model.proofs.Bounded.{every_decides}
use Rattle.model.specs.Meanings.{Valuation, AreBytes, OutlineLaws, ChoiceLaws, Alike, most_choices}
use Rattle.model.specs.Tests.{every, some, implies, count}
use Rattle.model.specs.declared.Fault.{Fault}
use Rattle.model.specs.declared.Kind.TheVariants.{External}
use Rattle.model.specs.declared.Round.{Round}
use Rattle.model.specs.declared.Round.TheVariants.{Initial, Update}
use Rattle.language.specs.laws.Expressions.{none_some, nth_inside, number_low, number_high, number_by_sight, truth_by_sight}
use Rattle.language.specs.Expressions.{Agree, Number, number_levels, number_value, Seen, number_sees, truth_levels, truth_sees, Reading, good, bad, byte_at, whole_number, whole_truth}
use Rattle.language.specs.laws.Reading.{table_read}
use Rattle.language.specs.Rules.{judges_items, rule_fault, rule_number}
use Rattle.language.specs.declared.rules.Rule.{Rule}
use Rattle.language.specs.declared.rules.Rule.TheVariants.{TooManyBytes, BytesMissing, WrongVariable, WrongAtom, WrongExpression, BytesLeftOver}
use Rattle.language.specs.Tables.{TableVariable, TableChoice, TableAtom, TableSyntax, no_table, bit, size, own_kind, variable_at, is_own, names_variables, names_own, seen_in, VariablesRight, NumberFits, ChoiceRight, ChoicesRight, AtomRight, TableRight, Step, fine, wrong, short, and_then, judgement, item, byte_item, if_passes, between, kind_of, word_at, set_item, part_at, expression_judged, expression_of, expression_body, expression_item, many, read_variable, read_variables, read_choice, read_atom, read_table, Opening, opens_as, breaks, at_end, opening_of, fault_of, syntax_of, variable_kind, variable_top, in_set, syntax_outline, choices_in, choice_opens, numbers_of, value_of, given, atom_gives, table_acts}

-- ---- what breaks while reading are rules of items

abbrev pub OfItems : {X : Type 0} → Step X → Type 0
OfItems (fine x end) = Unit {0}
OfItems (wrong rule place end) = judges_items rule ≡ true
OfItems short = Unit {0}

of_items_then : {X Y : Type 0} (r : Step X) (next : X → ℕ → Step Y) → OfItems r → ((x : X) (k : ℕ) → OfItems (next x k)) → OfItems (and_then r next)
of_items_then (fine x end) next h g = g x end
of_items_then (wrong rule place end) next h g = h
of_items_then short next h g = tt

of_items_item : {A X : Type 0} (rule : Rule) (place end : ℕ) (judge : A → Option X) (found : Option A) → judges_items rule ≡ true → OfItems (item rule place end judge found)
of_items_item rule place end judge None right = tt
of_items_item {A} {X} rule place end judge (Some a) right = go (judge a)
  where
    go : (o : Option X) → OfItems (judgement rule place end o)
    go None = right
    go (Some x) = tt

of_items_byte : {X : Type 0} (rule : Rule) (judge : ℕ → Option X) (bs : List ℕ) (k : ℕ) → judges_items rule ≡ true → OfItems (byte_item rule judge bs k)
of_items_byte rule judge bs k right = of_items_item rule k (k + 1) judge (byte_at bs k) right

of_items_set : (test : ℕ → Bool) (bs : List ℕ) (k : ℕ) → OfItems (set_item test bs k)
of_items_set test bs k = of_items_item WrongAtom k (k + 4) (if_passes test) (word_at bs k) refl

of_items_expression : {X : Type 0} (whole : List ℕ → Reading X) (bs : List ℕ) (k : ℕ) → OfItems (expression_item whole bs k)
of_items_expression {X} whole bs k = of_items_then (byte_item WrongExpression (between 1 64) bs k) (expression_body whole bs) (of_items_byte WrongExpression (between 1 64) bs k refl) (λ n k. from k (k + n) (part_at bs k n))
  where
    judged : (k end : ℕ) (r : Reading X) → OfItems (expression_judged k end r)
    judged k end (good x j) = tt
    judged k end (bad place) = refl

    from : (k end : ℕ) (o : Option (List ℕ)) → OfItems (expression_of whole k end o)
    from k end None = tt
    from k end (Some part) = judged k end (whole part)

of_items_many : {X : Type 0} (read : List ℕ → ℕ → Step X) → ((bs : List ℕ) (k : ℕ) → OfItems (read bs k)) → (n : ℕ) (bs : List ℕ) (k : ℕ) → OfItems (many read n bs k)
unfolding many
of_items_many read h zero bs k = tt
of_items_many read h (suc n) bs k = of_items_then (read bs k) _ (h bs k) (λ x next. of_items_then (many read n bs next) _ (of_items_many read h n bs next) (λ xs end. tt))

of_items_variables : (lowest n : ℕ) (bs : List ℕ) (k : ℕ) → OfItems (read_variables lowest n bs k)
unfolding read_variables read_variable
of_items_variables lowest zero bs k = tt
of_items_variables lowest (suc n) bs k =
    of_items_then (read_variable lowest bs k) _
    (of_items_then (byte_item WrongVariable (between lowest 31) bs k) _ (of_items_byte WrongVariable (between lowest 31) bs k refl) (λ name k.
    of_items_then (byte_item WrongVariable kind_of bs k) _ (of_items_byte WrongVariable kind_of bs k refl) (λ kind k.
    of_items_then (byte_item WrongVariable (between 1 255) bs k) _ (of_items_byte WrongVariable (between 1 255) bs k refl) (λ top end. tt))))
    (λ v k. of_items_then (read_variables (v.name + 1) n bs k) _ (of_items_variables (v.name + 1) n bs k) (λ vs end. tt))

of_items_choice : (s : Seen) (count : ℕ) (bs : List ℕ) (k : ℕ) → OfItems (read_choice s count bs k)
unfolding read_choice
of_items_choice s count bs k =
    of_items_then (expression_item (whole_truth 8 s) bs k) _ (of_items_expression (whole_truth 8 s) bs k) (λ guard k.
    of_items_then (many (expression_item (whole_number 8 s)) count bs k) _ (of_items_many (expression_item (whole_number 8 s)) (of_items_expression (whole_number 8 s)) count bs k) (λ gives end. tt))

of_items_atom : (vs : List TableVariable) (bs : List ℕ) (k : ℕ) → OfItems (read_atom vs bs k)
unfolding read_atom
of_items_atom vs bs k =
    of_items_then (set_item (names_own vs) bs k) _ (of_items_set (names_own vs) bs k) (λ controls k.
    of_items_then (set_item (names_variables vs) bs k) _ (of_items_set (names_variables vs) bs k) (λ reads k.
    of_items_then (set_item (names_variables vs) bs k) _ (of_items_set (names_variables vs) bs k) (λ awaits k.
    of_items_then (byte_item WrongAtom (between 1 (most_choices Initial)) bs k) _ (of_items_byte WrongAtom (between 1 (most_choices Initial)) bs k refl) (λ initials k.
    of_items_then (byte_item WrongAtom (between 1 (most_choices Update)) bs k) _ (of_items_byte WrongAtom (between 1 (most_choices Update)) bs k refl) (λ updates k.
    of_items_then (many (read_choice (seen_in Initial reads awaits) (size controls)) initials bs k) _ (of_items_many (read_choice (seen_in Initial reads awaits) (size controls)) (of_items_choice (seen_in Initial reads awaits) (size controls)) initials bs k) (λ initial k.
    of_items_then (many (read_choice (seen_in Update reads awaits) (size controls)) updates bs k) _ (of_items_many (read_choice (seen_in Update reads awaits) (size controls)) (of_items_choice (seen_in Update reads awaits) (size controls)) updates bs k) (λ update end. tt)))))))

pub of_items_table : (bs : List ℕ) (k : ℕ) → OfItems (read_table bs k)
unfolding read_table
of_items_table bs k =
    of_items_then (byte_item WrongVariable (between 0 32) bs k) _ (of_items_byte WrongVariable (between 0 32) bs k refl) (λ count k.
    of_items_then (read_variables 0 count bs k) _ (of_items_variables 0 count bs k) (λ variables k.
    of_items_then (byte_item WrongAtom (between 0 16) bs k) _ (of_items_byte WrongAtom (between 0 16) bs k refl) (λ count k.
    of_items_then (many (read_atom variables) count bs k) _ (of_items_many (read_atom variables) (of_items_atom variables) count bs k) (λ atoms end. tt))))

-- ---- what opening gives

no_table_right : TableRight no_table
no_table_right = record { few_variables = lit≤ tt; variables_right = tt; few_atoms = lit≤ tt; atoms_right = tt }

-- what an opening that goes well gives is right, and any other has a number above 0
pub record Sound (o : Opening) : Type 0 where
  pub right : TableRight (syntax_of o)
  pub numbered : (f : Fault) → fault_of o ≡ Some f → 1 ≤ f.number
  pub empty : is_some (fault_of o) ≡ true → syntax_of o ≡ no_table

some_same : {X : Type 0} (x y : X) → Some x ≡ Some y → x ≡ y
some_same x y e = cc

opened_sound : (t : TableSyntax) → TableRight t → Sound (opens_as t)
opened_sound t h = record { right = h; numbered = λ f e. none_some f e; empty = λ e. absurd (false≢true e) }

number_some : (rule : Rule) → 1 ≤ rule_number rule
number_some TooManyBytes = lit≤ tt
number_some BytesMissing = lit≤ tt
number_some WrongVariable = lit≤ tt
number_some WrongAtom = lit≤ tt
number_some WrongExpression = lit≤ tt
number_some BytesLeftOver = lit≤ tt

refused_sound : (rule : Rule) (place : ℕ) → Sound (breaks rule place)
refused_sound rule place =
    record {
      right = no_table_right;
      numbered = λ f e. subst (λ g. 1 ≤ g.number) (some_same (rule_fault rule place) f e) (number_some rule);
      empty = λ e. refl;
    }

sound_by : (t : Bool) (x y : Opening) → Sound x → Sound y → Sound (cond t x y)
sound_by true x y h g = h
sound_by false x y h g = g

end_sound : (all : ℕ) (r : Step TableSyntax) → ((t : TableSyntax) (end : ℕ) → r ≡ fine t end → TableRight t) → Sound (at_end all r)
end_sound all (fine t end) h = sound_by (end == all) (opens_as t) (breaks BytesLeftOver end) (opened_sound t (h t end refl)) (refused_sound BytesLeftOver end)
end_sound all (wrong rule place end) h = refused_sound rule place
end_sound all short h = refused_sound BytesMissing all

pub table_sound : (bs : List ℕ) → Sound (opening_of bs)
table_sound bs =
    sound_by (nat_lt 4096 (length bs)) (breaks TooManyBytes 0) (at_end (length bs) (read_table bs 0)) (refused_sound TooManyBytes 0)
    (end_sound (length bs) (read_table bs 0) (λ t end e. (table_read bs 0 t end e).holds))

-- ---- the outline

all_nth : {X : Type 0} (P : X → Type 0) (xs : List X) (i : ℕ) (x : X) → AllByRecursion P xs → slice_get xs i ≡ Some x → P x
all_nth P [] i x h e = none_some x e
all_nth P (y ∷ xs) zero x h e = let same : y ≡ x = some_same y x e in subst P same h.0
all_nth P (y ∷ xs) (suc i) x h e = all_nth P xs i x h.1 e

-- an element that is there
found : {X : Type 0} (xs : List X) (i : ℕ) → i < length xs → (x : X) × (slice_get xs i ≡ Some x)
found [] i h = absurd (not-suc-le-zero h)
found (y ∷ xs) zero h = (y, refl)
found (y ∷ xs) (suc i) h = found xs i (le_of_suc-le-suc h)

pub bit_high : (w n : ℕ) → w < 2 ^ 32 → 32 ≤ n → bit w n ≡ false
bit_high w n h l = let none : w / 2 ^ n ≡ 0 = div-eq_of_lt (lt_of_lt_of_le h (pow_mono l)) in ap (λ x. nat_eq (x % 2) 1) none

bit_name : (w n : ℕ) → w < 2 ^ 32 → bit w n ≡ true → n < 32
bit_name w n h e = go (cases_lt n 32)
  where
    go : (n < 32) ⊎ (32 ≤ n) → n < 32
    go (inl l) = l
    go (inr l) = absurd (both_ways (bit w n) (bit_high w n h l) e)

-- a variable that is found
pub record Found (n : ℕ) (v : TableVariable) : Type 0 where
  pub named : v.name ≡ n
  pub below : n < 32
  pub top_low : 1 ≤ v.top
  pub top_high : v.top ≤ 255

variable_found : (lowest : ℕ) (vs : List TableVariable) (n : ℕ) (v : TableVariable) → VariablesRight lowest vs → variable_at vs n ≡ Some v → Found n v
variable_found lowest [] n v h e = none_some v e
variable_found lowest (u ∷ vs) n v h e = go (u.name == n) refl e (variable_found (u.name + 1) vs n v h.1)
  where
    go : (t : Bool) → (u.name == n) ≡ t → cond t (Some u) (variable_at vs n) ≡ Some v → (variable_at vs n ≡ Some v → Found n v) → Found n v
    go true here e later =
        let same : u.name ≡ n = eqb-true u.name n here in
        subst (Found n) (some_same u v e) (record { named = same; below = omega (arith, h.0.name_high); top_low = h.0.top_low; top_high = h.0.top_high })
    go false here e later = later e

implied : (p q : Bool) → implies p q ≡ true → p ≡ true → q ≡ true
implied true q h e = h
implied false q h e = absurd (false≢true e)

module _ (t : TableSyntax) (right : TableRight t) where
  variable_known : (n : ℕ) (v : TableVariable) → variable_at t.variables n ≡ Some v → Found n v
  variable_known n v e = variable_found 0 t.variables n v right.variables_right e

  atom_known : (a : ℕ) (x : TableAtom) → slice_get t.atoms a ≡ Some x → AtomRight t.variables x
  atom_known a x e = all_nth (AtomRight t.variables) t.atoms a x right.atoms_right e

  kind_found : (n : ℕ) (o : Option TableVariable) → variable_at t.variables n ≡ o → is_some (variable_kind o) ≡ true → (n < 32) × (1 ≤ variable_top o)
  kind_found n None e h = absurd (false≢true h)
  kind_found n (Some v) e h = let f = variable_known n v e in (f.below, f.top_low)

  top_found : (n : ℕ) (o : Option TableVariable) → variable_at t.variables n ≡ o → variable_top o ≤ 255
  top_found n None e = lit≤ tt
  top_found n (Some v) e = (variable_known n v e).top_high

  no_kind : (o : Option TableVariable) → variable_kind o ≡ None → variable_top o ≡ 0
  no_kind None e = refl
  no_kind (Some v) e = none_some v.kind (sym e)

  some_kind : (o : Option TableVariable) → is_some o ≡ true → is_some (variable_kind o) ≡ true
  some_kind None h = h
  some_kind (Some v) h = refl

  own_some : (o : Option TableVariable) → is_own o ≡ true → is_some (variable_kind o) ≡ true
  own_some None h = h
  own_some (Some v) h = refl

  own_not_external : (o : Option TableVariable) → is_own o ≡ true → variable_kind o ≢ Some External
  own_not_external None h e = none_some External e
  own_not_external (Some v) h e = false≢true (sym (ap own_kind (some_same v.kind External e)) ∙ h)

  -- each name of the set passes the test that all names of the set below 32 pass
  named_pass : (w : ℕ) (test : Option TableVariable → Bool) (n : ℕ) → w < 2 ^ 32 → every (λ n. implies (bit w n) (test (variable_at t.variables n))) 32 ≡ true → bit w n ≡ true → test (variable_at t.variables n) ≡ true
  named_pass w test n small all here =
      implied (bit w n) (test (variable_at t.variables n)) ((every_decides (λ n. implies (bit w n) (test (variable_at t.variables n))) 32).0 all n (bit_name w n small here)) here

  -- an atom in whose set the name is
  pub record SetFound (set : TableAtom → ℕ) (a n : ℕ) : Type 0 where
    pub atom : TableAtom
    pub is : slice_get t.atoms a ≡ Some atom
    pub here : bit (set atom) n ≡ true

  set_found : (set : TableAtom → ℕ) (a n : ℕ) → in_set set (slice_get t.atoms a) n ≡ true → SetFound set a n
  set_found set a n e = go (slice_get t.atoms a) refl e
    where
      go : (o : Option TableAtom) → slice_get t.atoms a ≡ o → in_set set o n ≡ true → SetFound set a n
      go None is e = absurd (false≢true e)
      go (Some x) is e = record { atom = x; is = is; here = e }

  controls_pass : (a n : ℕ) (f : SetFound (λ x. x.controls) a n) → is_own (variable_at t.variables n) ≡ true
  controls_pass a n f =
      let r = atom_known a f.atom f.is in
      named_pass f.atom.controls is_own n r.controls_word (and_parts (some (bit f.atom.controls) 32) _ r.controls_own).1 f.here

  pub outline_laws : (fault : Option Fault) → ((f : Fault) → fault ≡ Some f → 1 ≤ f.number) → (is_some fault ≡ true → t ≡ no_table) → OutlineLaws (syntax_outline fault t)
  outline_laws fault numbered empty =
      record {
        some_layer = lit≤ tt;
        layers_told = lit≤ tt;
        names = λ n h. (kind_found n (variable_at t.variables n) refl h).0;
        top_from_1 = λ n h. (kind_found n (variable_at t.variables n) refl h).1;
        top_to_255 = λ n. top_found n (variable_at t.variables n) refl;
        no_top = λ n h. no_kind (variable_at t.variables n) h;
        few_atoms = right.few_atoms;
        controls_known = λ a n h.
            let f = set_found (λ x. x.controls) a n h in
            (nth_inside t.atoms a f.atom f.is, own_some (variable_at t.variables n) (controls_pass a n f));
        reads_known = λ a n h.
            let f = set_found (λ x. x.reads) a n h in let r = atom_known a f.atom f.is in
            (nth_inside t.atoms a f.atom f.is, some_kind (variable_at t.variables n) (named_pass f.atom.reads is_some n r.reads_word r.reads_known f.here));
        awaits_known = λ a n h.
            let f = set_found (λ x. x.awaits) a n h in let r = atom_known a f.atom f.is in
            (nth_inside t.atoms a f.atom f.is, some_kind (variable_at t.variables n) (named_pass f.atom.awaits is_some n r.awaits_word r.awaits_known f.here));
        controls_some = λ a h.
            let f = found t.atoms a h in let r = atom_known a f.0 f.1 in
            ap (λ o. some (in_set (λ x. x.controls) o) 32) f.1 ∙ (and_parts (some (bit f.0.controls) 32) _ r.controls_own).0;
        controls_own = λ a n h e. own_not_external (variable_at t.variables n) (controls_pass a n (set_found (λ x. x.controls) a n h)) e;
        fault_numbered = numbered;
        fault_empty = λ h. (ap (λ x. length x.atoms) (empty h), λ n. ap (λ x. variable_kind (variable_at x.variables n)) (empty h));
      }

  -- ---- the choices

  choices_right : (r : Round) (a : ℕ) (x : TableAtom) → slice_get t.atoms a ≡ Some x → ChoicesRight r (seen_in r x.reads x.awaits) (size x.controls) (choices_in r (Some x))
  choices_right Initial a x e = (atom_known a x e).initial_right
  choices_right Update a x e = (atom_known a x e).update_right

  no_choices : (r : Round) → length (choices_in r None) ≡ 0
  no_choices Initial = refl
  no_choices Update = refl

  none_there : (r : Round) (k : ℕ) → slice_get (choices_in r None) k ≡ None
  none_there Initial k = refl
  none_there Update k = refl

  few : (r : Round) (a : ℕ) (o : Option TableAtom) → slice_get t.atoms a ≡ o → length (choices_in r o) ≤ most_choices r
  few r a None e = subst (λ n. n ≤ most_choices r) (sym (no_choices r)) zero-le
  few r a (Some x) e = (choices_right r a x e).few_choices

  given_none : (b : Bool) (place : ℕ) (old new : Valuation) → given b place None old new ≡ pos 0
  given_none true place old new = refl
  given_none false place old new = refl

  gives_absent : (r : Round) (o : Option TableAtom) (k n : ℕ) (old new : Valuation) → length (choices_in r o) ≤ k → atom_gives r o k n old new ≡ pos 0
  gives_absent r None k n old new h = refl
  gives_absent r (Some x) k n old new h =
      ap (λ c. given (bit x.controls n) (count (bit x.controls) n) c old new) (slice_get_past (choices_in r (Some x)) k h) ∙ given_none (bit x.controls n) (count (bit x.controls) n) old new

  gives_other : (r : Round) (o : Option TableAtom) (k n : ℕ) (old new : Valuation) → in_set (λ x. x.controls) o n ≡ false → atom_gives r o k n old new ≡ pos 0
  gives_other r None k n old new h = refl
  gives_other r (Some x) k n old new h = ap (λ b. given b (count (bit x.controls) n) (slice_get (choices_in r (Some x)) k) old new) h

  -- whatever a choice gives is 0 or the value of a number that fits
  module _ (P : ℤ → Type 0) (old new : Valuation) (nought : P (pos 0)) where
    given_by : (s : Seen) (count : ℕ) → ((e : Number) → NumberFits s e → P (number_value e old new)) → (b : Bool) (place : ℕ) (cs : List TableChoice) (k : ℕ) → AllByRecursion (ChoiceRight s count) cs → P (given b place (slice_get cs k) old new)
    given_by s count each false place cs k all = nought
    given_by s count each true place cs k all = from (slice_get cs k) refl
      where
        value : (c : TableChoice) → ChoiceRight s count c → (o : Option Number) → slice_get c.gives place ≡ o → P (value_of o old new)
        value c right None e = nought
        value c right (Some x) e = each x (all_nth (NumberFits s) c.gives place x right.gives_fit e)

        from : (o : Option TableChoice) → slice_get cs k ≡ o → P (value_of (slice_get (numbers_of o) place) old new)
        from None e = nought
        from (Some c) e = value c (all_nth (ChoiceRight s count) cs k c all e) (slice_get c.gives place) refl

    gives_by : ((s : Seen) (e : Number) → NumberFits s e → P (number_value e old new)) → (r : Round) (a : ℕ) (o : Option TableAtom) → slice_get t.atoms a ≡ o → (k n : ℕ) → P (atom_gives r o k n old new)
    gives_by each r a None e k n = nought
    gives_by each r a (Some x) e k n =
        given_by (seen_in r x.reads x.awaits) (size x.controls) (each (seen_in r x.reads x.awaits)) (bit x.controls n) (count (bit x.controls) n) (choices_in r (Some x)) k (choices_right r a x e).each

  fits_seen : (s : Seen) (e : Number) → NumberFits s e → number_sees s e ≡ true
  fits_seen s e f = (and_parts (nat_le (number_levels e) 8) (number_sees s e) f.right).1

  low_enough : (s : Seen) (old new : Valuation) → AreBytes old → AreBytes new → (e : Number) → NumberFits s e → negsuc 32767 ≤ℤ number_value e old new
  low_enough s old new p q e f = omega (arith, ints, number_low s e old new (fits_seen s e f) p q f.short_enough)

  high_enough : (s : Seen) (old new : Valuation) → AreBytes old → AreBytes new → (e : Number) → NumberFits s e → number_value e old new ≤ℤ pos 32767
  high_enough s old new p q e f = omega (arith, ints, number_high s e old new (fits_seen s e f) p q f.short_enough)

  -- values that look alike to the atom agree on what its choices see
  agree : (fault : Option Fault) (r : Round) (a : ℕ) (x : TableAtom) (old new old' new' : Valuation) → slice_get t.atoms a ≡ Some x → Alike (syntax_outline fault t) r a old new old' new' → Agree (seen_in r x.reads x.awaits) old new old' new'
  agree fault Initial a x old new old' new' e alike =
      record { old_same = λ n h. absurd (false≢true h); new_same = λ n h. alike.awaited n (ap (λ o. in_set (λ x. x.awaits) o n) e ∙ h) }
  agree fault Update a x old new old' new' e alike =
      record { old_same = λ n h. alike.read refl n (ap (λ o. in_set (λ x. x.reads) o n) e ∙ h); new_same = λ n h. alike.awaited n (ap (λ o. in_set (λ x. x.awaits) o n) e ∙ h) }

  opens_alike : (fault : Option Fault) (r : Round) (a : ℕ) (o : Option TableAtom) → slice_get t.atoms a ≡ o → (k : ℕ) (old new old' new' : Valuation) → Alike (syntax_outline fault t) r a old new old' new' → choice_opens (slice_get (choices_in r o) k) old new ≡ choice_opens (slice_get (choices_in r o) k) old' new'
  opens_alike fault r a None e k old new old' new' alike = ap (λ c. choice_opens c old new) (none_there r k) ∙ sym (ap (λ c. choice_opens c old' new') (none_there r k))
  opens_alike fault r a (Some x) e k old new old' new' alike = go (slice_get (choices_in r (Some x)) k) refl
    where
      go : (c : Option TableChoice) → slice_get (choices_in r (Some x)) k ≡ c → choice_opens c old new ≡ choice_opens c old' new'
      go None is = refl
      go (Some c) is =
          let s = seen_in r x.reads x.awaits in
          let right = all_nth (ChoiceRight s (size x.controls)) (choices_in r (Some x)) k c (choices_right r a x e).each is in
          truth_by_sight s old new old' new' (agree fault r a x old new old' new' e alike) c.guard (and_parts (nat_le (truth_levels c.guard) 8) (truth_sees s c.guard) right.guard_fits.right).1

  gives_alike : (fault : Option Fault) (r : Round) (a : ℕ) (o : Option TableAtom) → slice_get t.atoms a ≡ o → (k n : ℕ) (old new old' new' : Valuation) → Alike (syntax_outline fault t) r a old new old' new' → atom_gives r o k n old new ≡ atom_gives r o k n old' new'
  gives_alike fault r a None e k n old new old' new' alike = refl
  gives_alike fault r a (Some x) e k n old new old' new' alike = by (bit x.controls n)
    where
      place : ℕ
      place = count (bit x.controls) n

      s : Seen
      s = seen_in r x.reads x.awaits

      number : (c : TableChoice) → ChoiceRight s (size x.controls) c → (o : Option Number) → slice_get c.gives place ≡ o → value_of o old new ≡ value_of o old' new'
      number c right None is = refl
      number c right (Some y) is =
          number_by_sight s old new old' new' (agree fault r a x old new old' new' e alike) y (fits_seen s y (all_nth (NumberFits s) c.gives place y right.gives_fit is))

      from : (c : Option TableChoice) → slice_get (choices_in r (Some x)) k ≡ c → value_of (slice_get (numbers_of c) place) old new ≡ value_of (slice_get (numbers_of c) place) old' new'
      from None is = refl
      from (Some c) is = number c (all_nth (ChoiceRight s (size x.controls)) (choices_in r (Some x)) k c (choices_right r a x e).each is) (slice_get c.gives place) refl

      by : (b : Bool) → given b place (slice_get (choices_in r (Some x)) k) old new ≡ given b place (slice_get (choices_in r (Some x)) k) old' new'
      by true = from (slice_get (choices_in r (Some x)) k) refl
      by false = refl

  pub choice_laws : (fault : Option Fault) → ChoiceLaws (syntax_outline fault t) (table_acts t)
  choice_laws fault =
      record {
        some_choice = λ r a h. let f = found t.atoms a h in subst (λ o. 1 ≤ length (choices_in r o)) (sym f.1) (choices_right r a f.0 f.1).some_choice;
        few_choices = λ r a. few r a (slice_get t.atoms a) refl;
        no_choice = λ r a h. ap (λ o. length (choices_in r o)) (slice_get_past t.atoms a h) ∙ no_choices r;
        absent_closed = λ r a k old new h. ap (λ c. choice_opens c old new) (slice_get_past (choices_in r (slice_get t.atoms a)) k h);
        absent_gives = λ r a k n old new h. gives_absent r (slice_get t.atoms a) k n old new h;
        other_gives = λ r a k n old new h. gives_other r (slice_get t.atoms a) k n old new h;
        gives_low = λ r a k n old new p q. gives_by (λ z. negsuc 32767 ≤ℤ z) old new (omega (arith, ints)) (λ s e f. low_enough s old new p q e f) r a (slice_get t.atoms a) refl k n;
        gives_high = λ r a k n old new p q. gives_by (λ z. z ≤ℤ pos 32767) old new (omega (arith, ints)) (λ s e f. high_enough s old new p q e f) r a (slice_get t.atoms a) refl k n;
        opens_by_sight = λ r a k old new old' new' alike. opens_alike fault r a (slice_get t.atoms a) refl k old new old' new' alike;
        gives_by_sight = λ r a k n old new old' new' alike. gives_alike fault r a (slice_get t.atoms a) refl k n old new old' new' alike;
      }
