-- Whatever table is read is right, and stands there as it is written.
use Rattle.std.specs.Prelude.{◌≡◌, ℕ, zero, suc, ◌+◌, ◌*◌, ◌/◌, ◌%◌, ◌^◌, ◌<◌, ◌≤◌, Bool, true, false, cond, ◌&&◌, List, [], ◌∷◌, ◌++◌, length, take, drop, Some, None, Option, ◌==◌, nat_le}
use Rattle.std.proofs.Math.Path.{refl, ap, subst}
use Rattle.std.proofs.Common.{sym, ◌∙◌}
use native.Mathlib.Omega.{arith}
use Rattle.std.proofs.lemmas.List.{length-append, length-take-le, length-drop}
use Rattle.std.proofs.lemmas.Bool.{and_parts, eqb-true, leb-true}
use Rattle.std.specs.List.{flat_map, AllByRecursion, slice_get}
use Rattle.model.specs.declared.Kind.{Kind}
use Rattle.model.specs.declared.Kind.TheVariants.{Private, Interface, External}
use Rattle.model.specs.Meanings.{most_choices}
use Rattle.model.specs.declared.Round.{Round}
use Rattle.model.specs.declared.Round.TheVariants.{Initial, Update}
use Rattle.language.specs.laws.Expressions.{none_some, bad_good, Stands, stands_append, byte_small, byte_is, ReadAs, number_read, truth_read}
use Rattle.language.specs.Expressions.{Number, Truth, number_bytes, truth_bytes, Seen, number_right, truth_right, as_byte, byte_at, Reading, good, bad, read_number, read_truth, to_the_end, whole_number, whole_truth}
use Rattle.language.specs.declared.rules.Rule.{Rule}
use Rattle.language.specs.declared.rules.Rule.TheVariants.{WrongVariable, WrongAtom, WrongExpression}
use Rattle.language.specs.Tables.{TableVariable, TableChoice, TableAtom, TableSyntax, size, kind_byte, variable_bytes, word_bytes, with_length, number_item, choice_bytes, counts_bytes, atom_bytes, table_bytes, names_variables, names_own, seen_in, VariableRight, VariablesRight, TruthFits, NumberFits, ChoiceRight, ChoicesRight, AtomRight, TableRight, Step, fine, wrong, short, and_then, judgement, item, byte_item, if_passes, between, kind_of, joined_bytes, word_at, set_item, part_at, expression_judged, expression_of, expression_body, expression_item, many, read_variable, read_variables, read_choice, read_atom, read_table}

short_fine : {X P : Type 0} (x : X) (end : ℕ) → short ≡ fine x end → P
short_fine x end e = let z : ◌≡◌ {A = ℕ} 0 1 = cc in absurd (omega arith)

wrong_fine : {X P : Type 0} (rule : Rule) (place upto : ℕ) (x : X) (end : ℕ) → wrong rule place upto ≡ fine x end → P
wrong_fine rule place upto x end e = let z : ◌≡◌ {A = ℕ} 0 1 = cc in absurd (omega arith)

pub fine_same : {X : Type 0} (x y : X) (i j : ℕ) → fine x i ≡ fine y j → x ≡ y
fine_same x y i j e = cc

fine_ends : {X : Type 0} (x y : X) (i j : ℕ) → fine x i ≡ fine y j → i ≡ j
fine_ends x y i j e = cc

-- What was read from place k up to `end` is written so, and P holds of it.
pub record Got (bs : List ℕ) (k : ℕ) (form : List ℕ) (P : Type 0) (end : ℕ) : Type 0 where
  pub stands : Stands bs k form
  pub ends : end ≡ k + length form
  pub holds : P

-- what was read first, and where the rest begins
pub record ThenRead {X Y : Type 0} (r : Step X) (next : X → ℕ → Step Y) (y : Y) (end : ℕ) : Type 0 where
  pub first : X
  pub place : ℕ
  pub first_read : r ≡ fine first place
  pub rest_read : next first place ≡ fine y end

pub then_read : {X Y : Type 0} (r : Step X) (next : X → ℕ → Step Y) (y : Y) (end : ℕ) → and_then r next ≡ fine y end → ThenRead r next y end
then_read (fine x place) next y end e = record { first = x; place = place; first_read = refl; rest_read = e }
then_read (wrong rule place upto) next y end e = wrong_fine rule place upto y end e
then_read short next y end e = short_fine y end e

by_parts : {X Y : Type 0} (P : Type 0) (r : Step X) (next : X → ℕ → Step Y) (y : Y) (end : ℕ) → and_then r next ≡ fine y end → ((x : X) (place : ℕ) → r ≡ fine x place → next x place ≡ fine y end → P) → P
by_parts P r next y end e f = let t = then_read r next y end e in f t.first t.place t.first_read t.rest_read

-- an item that passed
pub record ItemRead {A X : Type 0} (judge : A → Option X) (found : Option A) (x : X) (last end : ℕ) : Type 0 where
  pub raw : A
  pub here : found ≡ Some raw
  pub means : judge raw ≡ Some x
  pub ends : last ≡ end

pub item_read : {A X : Type 0} (rule : Rule) (place end : ℕ) (judge : A → Option X) (found : Option A) (x : X) (last : ℕ) → item rule place end judge found ≡ fine x last → ItemRead judge found x last end
item_read rule place end judge None x last e = short_fine x last e
item_read {A} {X} rule place end judge (Some a) x last e = go (judge a) refl e
  where
    go : (o : Option X) → judge a ≡ o → judgement rule place end o ≡ fine x last → ItemRead judge (Some a) x last end
    go None h e = wrong_fine rule place end x last e
    go (Some y) h e = let same : y ≡ x = cc in let ends : end ≡ last = cc in record { raw = a; here = refl; means = h ∙ ap Some same; ends = sym ends }

passed : {A : Type 0} (test : A → Bool) (a x : A) → if_passes test a ≡ Some x → (a ≡ x) × (test x ≡ true)
passed {A} test a x e = go (test a) refl e
  where
    go : (t : Bool) → test a ≡ t → cond t (Some a) None ≡ Some x → (a ≡ x) × (test x ≡ true)
    go true h e = let same : a ≡ x = cc in (same, ap test (sym same) ∙ h)
    go false h e = none_some x e

-- a byte that lies between two limits
pub record Limited (bs : List ℕ) (k low high x end : ℕ) : Type 0 where
  pub here : byte_at bs k ≡ Some x
  pub above : low ≤ x
  pub below : x ≤ high
  pub ends : end ≡ k + 1

pub limited_read : (rule : Rule) (low high : ℕ) (bs : List ℕ) (k x end : ℕ) → byte_item rule (between low high) bs k ≡ fine x end → Limited bs k low high x end
limited_read rule low high bs k x end e =
    let r = item_read rule k (k + 1) (between low high) (byte_at bs k) x end e in
    let p = passed (λ b. nat_le low b && nat_le b high) r.raw x r.means in
    let q = and_parts (nat_le low x) (nat_le x high) p.1 in
    record { here = r.here ∙ ap Some p.0; above = leb-true low x q.0; below = leb-true x high q.1; ends = r.ends }

kind_is : (b : ℕ) (kind : Kind) → kind_of b ≡ Some kind → b ≡ kind_byte kind
kind_is b kind e = go (b == 0) (b == 1) (b == 2) refl refl refl e
  where
    go : (s t u : Bool) → (b == 0) ≡ s → (b == 1) ≡ t → (b == 2) ≡ u → cond s (Some Private) (cond t (Some Interface) (cond u (Some External) None)) ≡ Some kind → b ≡ kind_byte kind
    go true t u h g f e = let same : Private ≡ kind = cc in eqb-true b 0 h ∙ ap kind_byte same
    go false true u h g f e = let same : Interface ≡ kind = cc in eqb-true b 1 g ∙ ap kind_byte same
    go false false true h g f e = let same : External ≡ kind = cc in eqb-true b 2 f ∙ ap kind_byte same
    go false false false h g f e = none_some kind e

-- ---- variables

pub variable_read : (lowest : ℕ) (bs : List ℕ) (k : ℕ) (v : TableVariable) (end : ℕ) → read_variable lowest bs k ≡ fine v end → Got bs k (variable_bytes v) (VariableRight lowest v) end
unfolding read_variable
variable_read lowest bs k v end e =
    let named = then_read (byte_item WrongVariable (between lowest 31) bs k) _ v end e in
    let kinded = then_read (byte_item WrongVariable kind_of bs named.place) _ v end named.rest_read in
    let topped = then_read (byte_item WrongVariable (between 1 255) bs kinded.place) _ v end kinded.rest_read in
    let name = limited_read WrongVariable lowest 31 bs k named.first named.place named.first_read in
    let kind = item_read WrongVariable named.place (named.place + 1) kind_of (byte_at bs named.place) kinded.first kinded.place kinded.first_read in
    let top = limited_read WrongVariable 1 255 bs kinded.place topped.first topped.place topped.first_read in
    let last = topped.rest_read in
    let made : TableVariable = record { name = named.first; kind = kinded.first; top = topped.first } in
    let same : made ≡ v = fine_same made v topped.place end last in let ends : topped.place ≡ end = fine_ends made v topped.place end last in
    let second : byte_at bs (k + 1) ≡ Some (kind_byte kinded.first) = subst (λ i. byte_at bs i ≡ Some (kind_byte kinded.first)) name.ends (kind.here ∙ ap Some (kind_is kind.raw kinded.first kind.means)) in
    let third-place : kinded.place ≡ k + 1 + 1 = kind.ends ∙ ap (λ i. i + 1) name.ends in
    let third : byte_at bs (k + 1 + 1) ≡ Some topped.first = subst (λ i. byte_at bs i ≡ Some topped.first) third-place top.here in
    subst (λ u. Got bs k (variable_bytes u) (VariableRight lowest u) end) same
    (record {
      stands = (name.here, (second, (third, tt)));
      ends = omega (arith, ends, top.ends, third-place);
      holds = record { name_low = name.above; name_high = name.below; top_low = top.above; top_high = top.below };
    })

pub variables_read : (lowest n : ℕ) (bs : List ℕ) (k : ℕ) (vs : List TableVariable) (end : ℕ) → read_variables lowest n bs k ≡ fine vs end → Got bs k (flat_map variable_bytes vs) ((length vs ≡ n) × VariablesRight lowest vs) end
unfolding read_variables
variables_read lowest zero bs k vs end e =
    let same : [] ≡ vs = cc in let ends : k ≡ end = cc in
    subst (λ l. Got bs k (flat_map variable_bytes l) ((length l ≡ 0) × VariablesRight lowest l) end) same (record { stands = tt; ends = omega arith; holds = (refl, tt) })
variables_read lowest (suc n) bs k vs end e =
    let r = then_read (read_variable lowest bs k) (λ v k. and_then (read_variables (v.name + 1) n bs k) (λ vs end. fine (v ∷ vs) end)) vs end e in
    let q = then_read (read_variables (r.first.name + 1) n bs r.place) (λ vs end. fine (r.first ∷ vs) end) vs end r.rest_read in
    let last = q.rest_read in
    let same : r.first ∷ q.first ≡ vs = cc last in let ends : q.place ≡ end = cc last in
    let first = variable_read lowest bs k r.first r.place r.first_read in
    let rest = variables_read (r.first.name + 1) n bs r.place q.first q.place q.first_read in
    subst (λ l. Got bs k (flat_map variable_bytes l) ((length l ≡ suc n) × VariablesRight lowest l) end) same
    (record {
      stands = stands_append bs k r.place (variable_bytes r.first) (flat_map variable_bytes q.first) first.ends first.stands rest.stands;
      ends = omega (arith, ends, first.ends, rest.ends, length-append (variable_bytes r.first) (flat_map variable_bytes q.first));
      holds = (ap suc rest.holds.0, (first.holds, rest.holds.1));
    })

-- ---- sets

-- two bytes, or what they are joined to, that are both there
pub record JoinedRead (a b : Option ℕ) (w : ℕ) : Type 0 where
  pub high : ℕ
  pub low : ℕ
  pub high_is : a ≡ Some high
  pub low_is : b ≡ Some low
  pub made : w ≡ high * 256 + low

joined_read : (a b : Option ℕ) (w : ℕ) → joined_bytes a b ≡ Some w → JoinedRead a b w
joined_read None b w e = none_some w e
joined_read (Some a) None w e = none_some w e
joined_read (Some a) (Some b) w e = let same : a * 256 + b ≡ w = cc in record { high = a; low = b; high_is = refl; low_is = refl; made = sym same }

pub word_read : (bs : List ℕ) (k w : ℕ) → word_at bs k ≡ Some w → Stands bs k (word_bytes w) × (w < 2 ^ 32)
word_read bs k w e =
    let r = joined_read (joined_bytes (joined_bytes (byte_at bs k) (byte_at bs (k + 1))) (byte_at bs (k + 2))) (byte_at bs (k + 3)) w e in
    let q = joined_read (joined_bytes (byte_at bs k) (byte_at bs (k + 1))) (byte_at bs (k + 2)) r.high r.high_is in
    let p = joined_read (byte_at bs k) (byte_at bs (k + 1)) q.high q.high_is in
    go p.high p.low q.low r.low p.high_is p.low_is q.low_is r.low_is (omega (arith, p.made, q.made, r.made))
  where
    go : (a b c d : ℕ) → byte_at bs k ≡ Some a → byte_at bs (k + 1) ≡ Some b → byte_at bs (k + 2) ≡ Some c → byte_at bs (k + 3) ≡ Some d → w ≡ 16777216 * a + 65536 * b + 256 * c + d → Stands bs k (word_bytes w) × (w < 2 ^ 32)
    go a b c d ha hb hc hd made =
        let sa : a < 256 = byte_small (slice_get bs k) a ha in let sb : b < 256 = byte_small (slice_get bs (k + 1)) b hb in
        let sc : c < 256 = byte_small (slice_get bs (k + 2)) c hc in let sd : d < 256 = byte_small (slice_get bs (k + 3)) d hd in
        let ea : a ≡ w / 16777216 % 256 = omega arith in let eb : b ≡ w / 65536 % 256 = omega arith in
        let ec : c ≡ w / 256 % 256 = omega arith in let ed : d ≡ w % 256 = omega arith in
        let third : k + 2 ≡ k + 1 + 1 = omega arith in let fourth : k + 3 ≡ k + 1 + 1 + 1 = omega arith in
        ((ha ∙ ap Some ea, (hb ∙ ap Some eb, (subst (λ i. byte_at bs i ≡ Some (w / 256 % 256)) third (hc ∙ ap Some ec), (subst (λ i. byte_at bs i ≡ Some (w % 256)) fourth (hd ∙ ap Some ed), tt)))), omega arith)

pub set_read : (test : ℕ → Bool) (bs : List ℕ) (k w end : ℕ) → set_item test bs k ≡ fine w end → Got bs k (word_bytes w) ((w < 2 ^ 32) × (test w ≡ true)) end
set_read test bs k w end e =
    let r = item_read WrongAtom k (k + 4) (if_passes test) (word_at bs k) w end e in
    let p = passed test r.raw w r.means in
    let word = word_read bs k w (r.here ∙ ap Some p.0) in
    record { stands = word.0; ends = r.ends; holds = (word.1, p.1) }

-- ---- expressions

pub nth_taken : (n : ℕ) (xs : List ℕ) (i x : ℕ) → slice_get (take n xs) i ≡ Some x → slice_get xs i ≡ Some x
nth_taken zero xs i x e = none_some x e
nth_taken (suc n) [] i x e = none_some x e
nth_taken (suc n) (y ∷ xs) zero x e = e
nth_taken (suc n) (y ∷ xs) (suc i) x e = nth_taken n xs i x e

pub nth_dropped : (k : ℕ) (xs : List ℕ) (i : ℕ) → slice_get (drop k xs) i ≡ slice_get xs (k + i)
nth_dropped zero xs i = let same : i ≡ 0 + i = omega arith in ap (slice_get xs) same
nth_dropped (suc k) [] i = let same : suc k + i ≡ suc (k + i) = omega arith in sym (ap (slice_get []) same)
nth_dropped (suc k) (x ∷ xs) i = let same : suc k + i ≡ suc (k + i) = omega arith in nth_dropped k xs i ∙ sym (ap (slice_get (x ∷ xs)) same)

-- what stands in a part stands in the whole
pub stands_part : (bs : List ℕ) (k n i : ℕ) (xs : List ℕ) → Stands (take n (drop k bs)) i xs → Stands bs (k + i) xs
stands_part bs k n i [] h = tt
stands_part bs k n i (x ∷ xs) h =
    let inner = byte_is (slice_get (take n (drop k bs)) i) x h.0 in
    let outer : slice_get bs (k + i) ≡ Some x = sym (nth_dropped k bs i) ∙ nth_taken n (drop k bs) i x inner in
    let next : k + (i + 1) ≡ k + i + 1 = omega arith in
    (ap as_byte (outer ∙ sym inner) ∙ h.0, subst (λ j. Stands bs j xs) next (stands_part bs k n (i + 1) xs h.1))

pub record PartRead (bs : List ℕ) (k n : ℕ) (part : List ℕ) : Type 0 where
  pub inside : k + n ≤ length bs
  pub is : part ≡ take n (drop k bs)
  pub sized : length part ≡ n

pub part_read : (bs : List ℕ) (k n : ℕ) (part : List ℕ) → part_at bs k n ≡ Some part → PartRead bs k n part
part_read bs k n part e = go (nat_le (k + n) (length bs)) refl e
  where
    go : (t : Bool) → nat_le (k + n) (length bs) ≡ t → cond t (Some (take n (drop k bs))) None ≡ Some part → PartRead bs k n part
    go false h e = none_some part e
    go true h e =
        let same : take n (drop k bs) ≡ part = cc in
        let room : k + n ≤ length bs = leb-true (k + n) (length bs) h in
        record { inside = room; is = sym same; sized = ap length (sym same) ∙ length-take-le n (drop k bs) (omega (arith, length-drop k bs)) }

pub end_read : {X : Type 0} (all : ℕ) (r : Reading X) (x : X) (end : ℕ) → to_the_end all r ≡ good x end → (r ≡ good x end) × (end ≡ all)
end_read all (bad p) x end e = bad_good p x end e
end_read {X} all (good y j) x end e = go (j == all) refl e
  where
    go : (t : Bool) → (j == all) ≡ t → cond t (good y j) (bad j) ≡ good x end → (good y j ≡ good x end) × (end ≡ all)
    go true h e = let ends : j ≡ end = cc in (e, sym ends ∙ eqb-true j all h)
    go false h e = bad_good j x end e

module _ {X : Type 0} (read : List ℕ → ℕ → Reading X) (form : X → List ℕ) (right : X → Bool) (is : (bs : List ℕ) (k : ℕ) (x : X) (end : ℕ) → read bs k ≡ good x end → ReadAs bs k (form x) (right x) end) where
  whole : List ℕ → Reading X
  whole part = to_the_end (length part) (read part 0)

  body_read : (bs : List ℕ) (n k : ℕ) (x : X) (end : ℕ) → expression_body whole bs n k ≡ fine x end → Got bs k (form x) ((right x ≡ true) × (length (form x) ≡ n)) end
  unfolding whole
  body_read bs n k x end e = from (part_at bs k n) refl e
    where
      judge : (part : List ℕ) → PartRead bs k n part → (r : Reading X) → whole part ≡ r → expression_judged k (k + n) r ≡ fine x end → Got bs k (form x) ((right x ≡ true) × (length (form x) ≡ n)) end
      judge part p (bad place) h e = wrong_fine WrongExpression (k + place) (k + n) x end e
      judge part p (good y j) h e =
          let same : y ≡ x = cc in let ends : k + n ≡ end = cc in
          let done = end_read (length part) (read part 0) y j h in
          let r = is part 0 y j done.0 in
          let sized : length (form y) ≡ n = omega (arith, r.ends, done.1, p.sized) in
          let here : k + 0 ≡ k = omega arith in
          let stands : Stands bs k (form y) = subst (λ i. Stands bs i (form y)) here (stands_part bs k n 0 (form y) (subst (λ l. Stands l 0 (form y)) p.is r.stands)) in
          subst (λ z. Got bs k (form z) ((right z ≡ true) × (length (form z) ≡ n)) end) same (record { stands = stands; ends = omega arith; holds = (r.passes, sized) })

      from : (o : Option (List ℕ)) → part_at bs k n ≡ o → expression_of whole k (k + n) o ≡ fine x end → Got bs k (form x) ((right x ≡ true) × (length (form x) ≡ n)) end
      from None h e = short_fine x end e
      from (Some part) h e = judge part (part_read bs k n part h) (whole part) refl e

  pub expression_read : (bs : List ℕ) (k : ℕ) (x : X) (end : ℕ) → expression_item (λ part. to_the_end (length part) (read part 0)) bs k ≡ fine x end → Got bs k (with_length (form x)) ((right x ≡ true) × (length (form x) ≤ 64)) end
  unfolding whole
  expression_read bs k x end e =
      let r = then_read (byte_item WrongExpression (between 1 64) bs k) (expression_body whole bs) x end e in
      let sized = limited_read WrongExpression 1 64 bs k r.first r.place r.first_read in
      let body = body_read bs r.first r.place x end r.rest_read in
      record {
        stands = (sized.here ∙ ap Some (sym body.holds.1), subst (λ i. Stands bs i (form x)) sized.ends body.stands);
        ends = omega (arith, body.ends, sized.ends);
        holds = (body.holds.0, omega (arith, body.holds.1, sized.below));
      }

pub truth_item_read : (s : Seen) (bs : List ℕ) (k : ℕ) (p : Truth) (end : ℕ) → expression_item (whole_truth 8 s) bs k ≡ fine p end → Got bs k (with_length (truth_bytes p)) (TruthFits s p) end
truth_item_read s bs k p end e =
    let r = expression_read (read_truth 8 s) truth_bytes (truth_right 8 s) (truth_read 8 s) bs k p end e in
    record { stands = r.stands; ends = r.ends; holds = record { right = r.holds.0; short_enough = r.holds.1 } }

pub number_item_read : (s : Seen) (bs : List ℕ) (k : ℕ) (x : Number) (end : ℕ) → expression_item (whole_number 8 s) bs k ≡ fine x end → Got bs k (number_item x) (NumberFits s x) end
number_item_read s bs k x end e =
    let r = expression_read (read_number 8 s) number_bytes (number_right 8 s) (number_read 8 s) bs k x end e in
    record { stands = r.stands; ends = r.ends; holds = record { right = r.holds.0; short_enough = r.holds.1 } }

-- ---- choices, atoms, tables

pub many_read : {X : Type 0} (read : List ℕ → ℕ → Step X) (form : X → List ℕ) (P : X → Type 0) → ((bs : List ℕ) (k : ℕ) (x : X) (end : ℕ) → read bs k ≡ fine x end → Got bs k (form x) (P x) end) → (n : ℕ) (bs : List ℕ) (k : ℕ) (xs : List X) (end : ℕ) → many read n bs k ≡ fine xs end → Got bs k (flat_map form xs) ((length xs ≡ n) × AllByRecursion P xs) end
unfolding many
many_read read form P is zero bs k xs end e =
    let same : [] ≡ xs = cc in let ends : k ≡ end = cc in
    subst (λ l. Got bs k (flat_map form l) ((length l ≡ 0) × AllByRecursion P l) end) same (record { stands = tt; ends = omega arith; holds = (refl, tt) })
many_read read form P is (suc n) bs k xs end e =
    let r = then_read (read bs k) (λ x next. and_then (many read n bs next) (λ xs end. fine (x ∷ xs) end)) xs end e in
    let q = then_read (many read n bs r.place) (λ xs end. fine (r.first ∷ xs) end) xs end r.rest_read in
    let last = q.rest_read in
    let same : r.first ∷ q.first ≡ xs = cc last in let ends : q.place ≡ end = cc last in
    let first = is bs k r.first r.place r.first_read in
    let rest = many_read read form P is n bs r.place q.first q.place q.first_read in
    subst (λ l. Got bs k (flat_map form l) ((length l ≡ suc n) × AllByRecursion P l) end) same
    (record {
      stands = stands_append bs k r.place (form r.first) (flat_map form q.first) first.ends first.stands rest.stands;
      ends = omega (arith, ends, first.ends, rest.ends, length-append (form r.first) (flat_map form q.first));
      holds = (ap suc rest.holds.0, (first.holds, rest.holds.1));
    })

pub choice_read : (s : Seen) (count : ℕ) (bs : List ℕ) (k : ℕ) (c : TableChoice) (end : ℕ) → read_choice s count bs k ≡ fine c end → Got bs k (choice_bytes c) (ChoiceRight s count c) end
unfolding read_choice
choice_read s count bs k c end e =
    let r = then_read (expression_item (whole_truth 8 s) bs k) (λ guard k. and_then (many (expression_item (whole_number 8 s)) count bs k) (λ gives end. fine (record { guard = guard; gives = gives }) end)) c end e in
    let q = then_read (many (expression_item (whole_number 8 s)) count bs r.place) (λ gives end. fine (record { guard = r.first; gives = gives }) end) c end r.rest_read in
    let last = q.rest_read in
    let made : TableChoice = record { guard = r.first; gives = q.first } in
    let same : made ≡ c = fine_same made c q.place end last in let ends : q.place ≡ end = fine_ends made c q.place end last in
    let guard = truth_item_read s bs k r.first r.place r.first_read in
    let gives = many_read (expression_item (whole_number 8 s)) number_item (NumberFits s) (number_item_read s) count bs r.place q.first q.place q.first_read in
    subst (λ x. Got bs k (choice_bytes x) (ChoiceRight s count x) end) same
    (record {
      stands = stands_append bs k r.place (with_length (truth_bytes r.first)) (flat_map number_item q.first) guard.ends guard.stands gives.stands;
      ends = omega (arith, ends, guard.ends, gives.ends, length-append (with_length (truth_bytes r.first)) (flat_map number_item q.first));
      holds = record { guard_fits = guard.holds; gives_count = gives.holds.0; gives_fit = gives.holds.1 };
    })

-- two parts that stand one after the other
both_stand : (bs : List ℕ) (k j end : ℕ) (xs ys : List ℕ) (P Q : Type 0) → Got bs k xs P j → Got bs j ys Q end → Got bs k (xs ++ ys) (P × Q) end
both_stand bs k j end xs ys P Q g h =
    record { stands = stands_append bs k j xs ys g.ends g.stands h.stands; ends = omega (arith, g.ends, h.ends, length-append xs ys); holds = (g.holds, h.holds) }

at_most : (a b c : ℕ) → a ≡ b → b ≤ c → a ≤ c
at_most a b c e h = omega arith

choices_read : (r : Round) (s : Seen) (count n : ℕ) (bs : List ℕ) (k : ℕ) (cs : List TableChoice) (end : ℕ) → 1 ≤ n → n ≤ most_choices r → many (read_choice s count) n bs k ≡ fine cs end → Got bs k (flat_map choice_bytes cs) ((length cs ≡ n) × ChoicesRight r s count cs) end
choices_read r s count n bs k cs end low high e =
    let got = many_read (read_choice s count) choice_bytes (ChoiceRight s count) (choice_read s count) n bs k cs end e in
    let sized = got.holds.0 in
    record { stands = got.stands; ends = got.ends; holds = (sized, record { some_choice = omega arith; few_choices = at_most (length cs) n (most_choices r) sized high; each = got.holds.1 }) }

two_on : (k i j : ℕ) → i ≡ k + 1 → j ≡ i + 1 → j ≡ k + 2
two_on k i j e h = omega arith

-- an atom from its parts
atom_whole : (vs : List TableVariable) (bs : List ℕ) (k k₁ k₂ k₃ k₄ k₅ k₆ end m n : ℕ) (a : TableAtom) →
    Got bs k (word_bytes a.controls) ((a.controls < 2 ^ 32) × (names_own vs a.controls ≡ true)) k₁ →
    Got bs k₁ (word_bytes a.reads) ((a.reads < 2 ^ 32) × (names_variables vs a.reads ≡ true)) k₂ →
    Got bs k₂ (word_bytes a.awaits) ((a.awaits < 2 ^ 32) × (names_variables vs a.awaits ≡ true)) k₃ →
    Limited bs k₃ 1 (most_choices Initial) m k₄ → Limited bs k₄ 1 (most_choices Update) n k₅ →
    Got bs k₅ (flat_map choice_bytes a.initial) ((length a.initial ≡ m) × ChoicesRight Initial (seen_in Initial a.reads a.awaits) (size a.controls) a.initial) k₆ →
    Got bs k₆ (flat_map choice_bytes a.update) ((length a.update ≡ n) × ChoicesRight Update (seen_in Update a.reads a.awaits) (size a.controls) a.update) end →
    Got bs k (atom_bytes a) (AtomRight vs a) end
atom_whole vs bs k k₁ k₂ k₃ k₄ k₅ k₆ end m n a controls reads awaits initials updates initial update =
    let counts : Got bs k₃ (counts_bytes a) (Unit {0}) k₅ =
    record {
      stands = (initials.here ∙ ap Some (sym initial.holds.0), (subst (λ i. byte_at bs i ≡ Some (length a.update)) initials.ends (updates.here ∙ ap Some (sym update.holds.0)), tt));
      ends = two_on k₃ k₄ k₅ initials.ends updates.ends;
      holds = tt;
    } in
    let all = both_stand bs k k₁ end _ _ _ _ controls (both_stand bs k₁ k₂ end _ _ _ _ reads (both_stand bs k₂ k₃ end _ _ _ _ awaits (both_stand bs k₃ k₅ end _ _ _ _ counts (both_stand bs k₅ k₆ end _ _ _ _ initial update)))) in
    record {
      stands = all.stands;
      ends = all.ends;
      holds = record {
        controls_word = controls.holds.0;
        reads_word = reads.holds.0;
        awaits_word = awaits.holds.0;
        controls_own = controls.holds.1;
        reads_known = reads.holds.1;
        awaits_known = awaits.holds.1;
        initial_right = initial.holds.1;
        update_right = update.holds.1;
      };
    }

pub atom_read : (vs : List TableVariable) (bs : List ℕ) (k : ℕ) (a : TableAtom) (end : ℕ) → read_atom vs bs k ≡ fine a end → Got bs k (atom_bytes a) (AtomRight vs a) end
unfolding read_atom
atom_read vs bs k a end e =
    let P : Type 0 = Got bs k (atom_bytes a) (AtomRight vs a) end in
    by_parts P (set_item (names_own vs) bs k) _ a end e (λ controls k₁ e₁ rest.
    by_parts P (set_item (names_variables vs) bs k₁) _ a end rest (λ reads k₂ e₂ rest.
    by_parts P (set_item (names_variables vs) bs k₂) _ a end rest (λ awaits k₃ e₃ rest.
    by_parts P (byte_item WrongAtom (between 1 (most_choices Initial)) bs k₃) _ a end rest (λ m k₄ e₄ rest.
    by_parts P (byte_item WrongAtom (between 1 (most_choices Update)) bs k₄) _ a end rest (λ n k₅ e₅ rest.
    by_parts P (many (read_choice (seen_in Initial reads awaits) (size controls)) m bs k₅) _ a end rest (λ initial k₆ e₆ rest.
    by_parts P (many (read_choice (seen_in Update reads awaits) (size controls)) n bs k₆) _ a end rest (λ update k₇ e₇ last.
    let made : TableAtom = record { controls = controls; reads = reads; awaits = awaits; initial = initial; update = update } in
    let initials = limited_read WrongAtom 1 (most_choices Initial) bs k₃ m k₄ e₄ in let updates = limited_read WrongAtom 1 (most_choices Update) bs k₄ n k₅ e₅ in
    subst (λ x. Got bs k (atom_bytes x) (AtomRight vs x) end) (fine_same made a k₇ end last)
    (subst (λ i. Got bs k (atom_bytes made) (AtomRight vs made) i) (fine_ends made a k₇ end last)
    (atom_whole vs bs k k₁ k₂ k₃ k₄ k₅ k₆ k₇ m n made (set_read (names_own vs) bs k controls k₁ e₁) (set_read (names_variables vs) bs k₁ reads k₂ e₂) (set_read (names_variables vs) bs k₂ awaits k₃ e₃) initials updates
    (choices_read Initial (seen_in Initial reads awaits) (size controls) m bs k₅ initial k₆ initials.above initials.below e₆) (choices_read Update (seen_in Update reads awaits) (size controls) n bs k₆ update k₇ updates.above updates.below e₇))))))))))

pub table_read : (bs : List ℕ) (k : ℕ) (t : TableSyntax) (end : ℕ) → read_table bs k ≡ fine t end → Got bs k (table_bytes t) (TableRight t) end
unfolding read_table
table_read bs k t end e =
    let P : Type 0 = Got bs k (table_bytes t) (TableRight t) end in
    by_parts P (byte_item WrongVariable (between 0 32) bs k) _ t end e (λ m k₁ e₁ rest.
    by_parts P (read_variables 0 m bs k₁) _ t end rest (λ vs k₂ e₂ rest.
    by_parts P (byte_item WrongAtom (between 0 16) bs k₂) _ t end rest (λ n k₃ e₃ rest.
    by_parts P (many (read_atom vs) n bs k₃) _ t end rest (λ xs k₄ e₄ last.
    let made : TableSyntax = record { variables = vs; atoms = xs } in
    let few = limited_read WrongVariable 0 32 bs k m k₁ e₁ in let fewer = limited_read WrongAtom 0 16 bs k₂ n k₃ e₃ in
    let variables = variables_read 0 m bs k₁ vs k₂ e₂ in
    let atoms = many_read (read_atom vs) atom_bytes (AtomRight vs) (atom_read vs) n bs k₃ xs k₄ e₄ in
    let first : Got bs k (length vs ∷ []) (Unit {0}) k₁ = record { stands = (few.here ∙ ap Some (sym variables.holds.0), tt); ends = few.ends; holds = tt } in
    let third : Got bs k₂ (length xs ∷ []) (Unit {0}) k₃ = record { stands = (fewer.here ∙ ap Some (sym atoms.holds.0), tt); ends = fewer.ends; holds = tt } in
    let all = both_stand bs k k₁ k₄ _ _ _ _ first (both_stand bs k₁ k₂ k₄ _ _ _ _ variables (both_stand bs k₂ k₃ k₄ _ _ _ _ third atoms)) in
    subst (λ x. Got bs k (table_bytes x) (TableRight x) end) (fine_same made t k₄ end last)
    (record {
      stands = all.stands;
      ends = sym (fine_ends made t k₄ end last) ∙ all.ends;
      holds = record { few_variables = at_most _ _ _ variables.holds.0 few.below; variables_right = variables.holds.1; few_atoms = at_most _ _ _ atoms.holds.0 fewer.below; atoms_right = atoms.holds.1 };
    })))))
