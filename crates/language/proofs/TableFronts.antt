-- Tables are read from the front.
use Rattle.std.proofs.Common.{◌≡◌, ℕ, zero, suc, ◌+◌, ◌<◌, ◌≤◌, Bool, true, false, cond, eqb, ◌⊎◌, List, [], ◌∷◌, length, get_or, take, drop, Some, None, Option, sym, refl, ap, ◌∙◌, subst, ap₂, inl, inr, zero-le, not-suc-le-zero, arith, lit≤}
use Rattle.std.proofs.lemmas.List.{length-take-le, length-drop, get_or-take, get_or-drop, same_lists}
use Rattle.std.proofs.lemmas.Option.{slice_get_past, slice_get-get_or}
use Rattle.std.proofs.lemmas.Bool.{cases_lt, le-leb, lt-leb, cond-true, cond-false, le-ltb, lt-ltb, eq-eqb, false≢true}
use Rattle.std.specs.List.{slice_get}
use Rattle.model.specs.Meanings.{most_choices}
use Rattle.model.specs.declared.Round.TheVariants.{Initial, Update}
use Rattle.language.specs.laws.Expressions.{none_some, nth_inside}
use Rattle.language.specs.Expressions.{Seen, as_byte, byte_at, Reading, good, bad, read_number, read_truth, to_the_end, whole_number, whole_truth}
use Rattle.language.specs.Fronts.{Same, EndsBefore, looked, FromFront}
use Rattle.language.specs.Statements.{FirstFault, LeftOver, FaultsAreTheFirst}
use Rattle.language.specs.laws.Tables.{OfItems, of_items_table}
use Rattle.language.specs.laws.Reading.{nth_dropped, PartRead, part_read}
use Rattle.language.specs.Rules.{judges_items, rule_number}
use Rattle.language.specs.declared.rules.Rule.{Rule}
use Rattle.language.specs.declared.rules.Rule.TheVariants.{TooManyBytes, BytesMissing, WrongVariable, WrongAtom, WrongExpression, BytesLeftOver}
use Rattle.language.specs.Tables.{TableVariable, TableSyntax, size, names_variables, names_own, seen_in, Step, fine, wrong, short, and_then, judgement, item, byte_item, if_passes, between, kind_of, joined_bytes, word_at, set_item, part_at, expression_judged, expression_of, expression_body, expression_item, many, read_variable, read_variables, read_choice, read_atom, read_table, opens_as, breaks, at_end, opening_of}
use Rattle.language.proofs.Expressions.{end_placed}
use Rattle.language.proofs.Fronts.{number_front, truth_front, fewer}

-- the end of the last item judged
abbrev judged_to : {X : Type 0} → Step X → Option ℕ
judged_to (fine x end) = Some end
judged_to (wrong rule place end) = Some end
judged_to short = None

-- bytes cut at n leave an item that ends there unfinished
abbrev Before : ℕ → Option ℕ → Type 0
Before n None = Unit {0}
Before n (Some end) = n < end

record Front {X : Type 0} (read : List ℕ → ℕ → Step X) : Type 0 where
  onward : (bs : List ℕ) (k end : ℕ) → judged_to (read bs k) ≡ Some end → k ≤ end
  inside : (bs : List ℕ) (k end : ℕ) → k ≤ length bs → judged_to (read bs k) ≡ Some end → end ≤ length bs
  placed : (bs : List ℕ) (k : ℕ) (rule : Rule) (place end : ℕ) → read bs k ≡ wrong rule place end → (k ≤ place) × (place ≤ end)
  settled : (bs cs : List ℕ) (k end : ℕ) → judged_to (read bs k) ≡ Some end → Same bs cs end → read cs k ≡ read bs k
  decided : (bs cs : List ℕ) (k : ℕ) (rule : Rule) (place end : ℕ) → read bs k ≡ wrong rule place end → (rule ≡ WrongAtom → ⊥) → end ≤ length cs → Same bs cs (place + 1) → read cs k ≡ wrong rule place end
  cut : (bs cs : List ℕ) (k n : ℕ) → k ≤ n → Before n (judged_to (read bs k)) → Same bs cs n → EndsBefore cs n → read cs k ≡ short

fine_wrong : {X P : Type 0} (x : X) (i : ℕ) (rule : Rule) (place end : ℕ) → fine x i ≡ wrong rule place end → P
fine_wrong x i rule place end e = let z : ◌≡◌ {A = ℕ} 0 1 = cc in absurd (omega arith)

short_wrong : {X P : Type 0} (rule : Rule) (place end : ℕ) → ◌≡◌ {A = Step X} short (wrong rule place end) → P
short_wrong rule place end e = let z : ◌≡◌ {A = ℕ} 0 1 = cc in absurd (omega arith)

front_done : {X : Type 0} (x : X) → Front (λ bs k. fine x k)
front_done x =
    record {
      onward = λ bs k end e. let same : k ≡ end = cc in omega arith;
      inside = λ bs k end h e. let same : k ≡ end = cc in omega arith;
      placed = λ bs k rule place end e. fine_wrong x k rule place end e;
      settled = λ bs cs k end e same. refl;
      decided = λ bs cs k rule place end e other room same. fine_wrong x k rule place end e;
      cut = λ bs cs k n h before same ends. absurd (omega arith);
    }

-- one reading after another
module _ {X Y : Type 0} (first : List ℕ → ℕ → Step X) (next : X → List ℕ → ℕ → Step Y) (F : Front first) (G : (x : X) → Front (next x)) where
  abbrev both : List ℕ → ℕ → Step Y
  both bs k = and_then (first bs k) (λ x j. next x bs j)

  both_is : (bs : List ℕ) (k : ℕ) (r : Step X) → first bs k ≡ r → both bs k ≡ and_then r (λ x j. next x bs j)
  both_is bs k r e = ap (λ r. and_then r (λ x j. next x bs j)) e

  onward_by : (bs : List ℕ) (k end : ℕ) (r : Step X) → first bs k ≡ r → judged_to (and_then r (λ x j. next x bs j)) ≡ Some end → k ≤ end
  onward_by bs k end short e h = none_some end h
  onward_by bs k end (wrong rule place upto) e h = F.onward bs k end (ap judged_to e ∙ h)
  onward_by bs k end (fine x j) e h =
      let low : k ≤ j = F.onward bs k j (ap judged_to e) in let high : j ≤ end = (G x).onward bs j end h in omega arith

  inside_by : (bs : List ℕ) (k end : ℕ) → k ≤ length bs → (r : Step X) → first bs k ≡ r → judged_to (and_then r (λ x j. next x bs j)) ≡ Some end → end ≤ length bs
  inside_by bs k end l short e h = none_some end h
  inside_by bs k end l (wrong rule place upto) e h = F.inside bs k end l (ap judged_to e ∙ h)
  inside_by bs k end l (fine x j) e h = (G x).inside bs j end (F.inside bs k j l (ap judged_to e)) h

  placed_by : (bs : List ℕ) (k : ℕ) (rule : Rule) (place end : ℕ) (r : Step X) → first bs k ≡ r → and_then r (λ x j. next x bs j) ≡ wrong rule place end → (k ≤ place) × (place ≤ end)
  placed_by bs k rule place end short e h = short_wrong {X = Y} rule place end h
  placed_by bs k rule place end (wrong n p upto) e h =
      let same_place : p ≡ place = cc in let same_end : upto ≡ end = cc in
      let r = F.placed bs k n p upto e in (omega arith, omega arith)
  placed_by bs k rule place end (fine x j) e h =
      let low : k ≤ j = F.onward bs k j (ap judged_to e) in let r = (G x).placed bs j rule place end h in (omega arith, omega arith)

  settled_by : (bs cs : List ℕ) (k end : ℕ) (r : Step X) → first bs k ≡ r → judged_to (and_then r (λ x j. next x bs j)) ≡ Some end → Same bs cs end → both cs k ≡ and_then r (λ x j. next x bs j)
  settled_by bs cs k end short e h same = none_some end h
  settled_by bs cs k end (wrong rule place upto) e h same = both_is cs k _ (F.settled bs cs k end (ap judged_to e ∙ h) same ∙ e)
  settled_by bs cs k end (fine x j) e h same =
      both_is cs k (fine x j) (F.settled bs cs k j (ap judged_to e) (fewer bs cs j end ((G x).onward bs j end h) same) ∙ e) ∙ (G x).settled bs cs j end h same

  decided_by : (bs cs : List ℕ) (k : ℕ) (rule : Rule) (place end : ℕ) (r : Step X) → first bs k ≡ r → and_then r (λ x j. next x bs j) ≡ wrong rule place end → (rule ≡ WrongAtom → ⊥) → end ≤ length cs → Same bs cs (place + 1) → both cs k ≡ wrong rule place end
  decided_by bs cs k rule place end short e h other room same = short_wrong {X = Y} rule place end h
  decided_by bs cs k rule place end (wrong n p upto) e h other room same =
      let a : n ≡ rule = cc in let b : p ≡ place = cc in let c : upto ≡ end = cc in
      both_is cs k (wrong rule place end) (F.decided bs cs k rule place end (e ∙ ap (λ i. wrong i p upto) a ∙ ap₂ (λ i j. wrong rule i j) b c) other room same)
  decided_by bs cs k rule place end (fine x j) e h other room same =
      let low : j ≤ place = ((G x).placed bs j rule place end h).0 in
      both_is cs k (fine x j) (F.settled bs cs k j (ap judged_to e) (fewer bs cs j (place + 1) (omega arith) same) ∙ e) ∙ (G x).decided bs cs j rule place end h other room same

  cut_by : (bs cs : List ℕ) (k n : ℕ) → k ≤ n → (r : Step X) → first bs k ≡ r → Before n (judged_to (and_then r (λ x j. next x bs j))) → Same bs cs n → EndsBefore cs n → both cs k ≡ short
  cut_by bs cs k n h short e before same ends = both_is cs k short (F.cut bs cs k n h (subst (λ o. Before n o) (sym (ap judged_to e)) tt) same ends)
  cut_by bs cs k n h (wrong rule place upto) e before same ends = both_is cs k short (F.cut bs cs k n h (subst (λ o. Before n o) (sym (ap judged_to e)) before) same ends)
  cut_by bs cs k n h (fine x j) e before same ends = go (cases_lt n j)
    where
      go : (n < j) ⊎ (j ≤ n) → both cs k ≡ short
      go (inl l) = both_is cs k short (F.cut bs cs k n h (subst (λ o. Before n o) (sym (ap judged_to e)) l) same ends)
      go (inr l) = both_is cs k (fine x j) (F.settled bs cs k j (ap judged_to e) (fewer bs cs j n l same) ∙ e) ∙ (G x).cut bs cs j n l before same ends

  front_then : Front both
  front_then =
      record {
        onward = λ bs k end h. onward_by bs k end (first bs k) refl h;
        inside = λ bs k end l h. inside_by bs k end l (first bs k) refl h;
        placed = λ bs k rule place end h. placed_by bs k rule place end (first bs k) refl h;
        settled = λ bs cs k end h same. settled_by bs cs k end (first bs k) refl h same;
        decided = λ bs cs k rule place end h other room same. decided_by bs cs k rule place end (first bs k) refl h other room same;
        cut = λ bs cs k n h before same ends. cut_by bs cs k n h (first bs k) refl before same ends;
      }

-- ---- items

-- the raw bytes of an item of so many bytes
record Finds {A : Type 0} (found : List ℕ → ℕ → Option A) (size : ℕ) : Type 0 where
  inside : (bs : List ℕ) (k : ℕ) (a : A) → found bs k ≡ Some a → k + size ≤ length bs
  same : (bs cs : List ℕ) (k : ℕ) → Same bs cs (k + size) → found cs k ≡ found bs k
  cut : (cs : List ℕ) (k n : ℕ) → k ≤ n → n < k + size → EndsBefore cs n → found cs k ≡ None

module _ {A X : Type 0} (found : List ℕ → ℕ → Option A) (size : ℕ) (D : Finds found size) (judge : ℕ → Option A → Step X) (missing : (k : ℕ) → judge k None ≡ short) (to : (k : ℕ) (a : A) → judged_to (judge k (Some a)) ≡ Some (k + size)) (within : (bs : List ℕ) (k : ℕ) (a : A) (rule : Rule) (place end : ℕ) → found bs k ≡ Some a → judge k (Some a) ≡ wrong rule place end → (k ≤ place) × (place ≤ end)) (by_place : (bs cs : List ℕ) (k : ℕ) (a : A) (rule : Rule) (place end : ℕ) → found bs k ≡ Some a → judge k (Some a) ≡ wrong rule place end → (rule ≡ WrongAtom → ⊥) → end ≤ length cs → Same bs cs (place + 1) → judge k (found cs k) ≡ wrong rule place end) where
  record Reach (k end : ℕ) (o : Option A) : Type 0 where
    raw : A
    is : o ≡ Some raw
    ends : end ≡ k + size

  reach : (k end : ℕ) (o : Option A) → judged_to (judge k o) ≡ Some end → Reach k end o
  reach k end None h = none_some end (sym (ap judged_to (missing k)) ∙ h)
  reach k end (Some a) h = let both = sym (to k a) ∙ h in let same : k + size ≡ end = cc both in record { raw = a; is = refl; ends = sym same }

  placed_found : (bs : List ℕ) (k : ℕ) (rule : Rule) (place end : ℕ) (o : Option A) → found bs k ≡ o → judge k o ≡ wrong rule place end → (k ≤ place) × (place ≤ end)
  placed_found bs k rule place end None e h = short_wrong {X = X} rule place end (sym (missing k) ∙ h)
  placed_found bs k rule place end (Some a) e h = within bs k a rule place end e h

  decided_found : (bs cs : List ℕ) (k : ℕ) (rule : Rule) (place end : ℕ) (o : Option A) → found bs k ≡ o → judge k o ≡ wrong rule place end → (rule ≡ WrongAtom → ⊥) → end ≤ length cs → Same bs cs (place + 1) → judge k (found cs k) ≡ wrong rule place end
  decided_found bs cs k rule place end None e h other room same = short_wrong {X = X} rule place end (sym (missing k) ∙ h)
  decided_found bs cs k rule place end (Some a) e h other room same = by_place bs cs k a rule place end e h other room same

  late : (bs cs : List ℕ) (k n : ℕ) → k + size ≤ n → (o : Option A) → found bs k ≡ o → Before n (judged_to (judge k o)) → Same bs cs n → judge k (found cs k) ≡ short
  late bs cs k n l None e before same = ap (judge k) (D.same bs cs k (fewer bs cs (k + size) n l same) ∙ e) ∙ missing k
  late bs cs k n l (Some a) e before same = absurd (omega (arith, subst (Before n) (to k a) before))

  front_found : Front (λ bs k. judge k (found bs k))
  front_found =
      record {
        onward = λ bs k end h. omega (arith, (reach k end (found bs k) h).ends);
        inside = λ bs k end l h. let r = reach k end (found bs k) h in omega (arith, D.inside bs k r.raw r.is, r.ends);
        placed = λ bs k rule place end h. placed_found bs k rule place end (found bs k) refl h;
        settled = λ bs cs k end h same. ap (judge k) (D.same bs cs k (subst (Same bs cs) (reach k end (found bs k) h).ends same));
        decided = λ bs cs k rule place end h other room same. decided_found bs cs k rule place end (found bs k) refl h other room same;
        cut = λ bs cs k n h before same ends. go bs cs k n h before same ends (cases_lt n (k + size));
      }
    where
      go : (bs cs : List ℕ) (k n : ℕ) → k ≤ n → Before n (judged_to (judge k (found bs k))) → Same bs cs n → EndsBefore cs n → (n < k + size) ⊎ (k + size ≤ n) → judge k (found cs k) ≡ short
      go bs cs k n h before same ends (inl l) = ap (judge k) (D.cut cs k n h l ends) ∙ missing k
      go bs cs k n h before same ends (inr l) = late bs cs k n l (found bs k) refl before same

-- an item that is at fault, if at all, at its first byte: a byte, or a set
module _ {A X : Type 0} (rule : Rule) (found : List ℕ → ℕ → Option A) (size : ℕ) (D : Finds found size) (judge : A → Option X) (kind : (rule ≡ WrongAtom) ⊎ (size ≡ 1)) where
  item_to : (k : ℕ) (o : Option X) → judged_to (judgement rule k (k + size) o) ≡ Some (k + size)
  item_to k None = refl
  item_to k (Some x) = refl

  item_placed : (k : ℕ) (n : Rule) (place end : ℕ) (o : Option X) → judgement rule k (k + size) o ≡ wrong n place end → (k ≤ place) × (place ≤ end)
  item_placed k n place end None h = let here : k ≡ place = cc in let there : k + size ≡ end = cc in (omega arith, omega arith)
  item_placed k n place end (Some x) h = fine_wrong x (k + size) n place end h

  item_numbered : (k : ℕ) (n : Rule) (place end : ℕ) (o : Option X) → judgement rule k (k + size) o ≡ wrong n place end → (rule ≡ n) × (k ≡ place)
  item_numbered k n place end None h = let same : rule ≡ n = cc in let here : k ≡ place = cc in (same, here)
  item_numbered k n place end (Some x) h = fine_wrong x (k + size) n place end h

  item_decided : (bs cs : List ℕ) (k : ℕ) (a : A) (n : Rule) (place end : ℕ) → found bs k ≡ Some a → judgement rule k (k + size) (judge a) ≡ wrong n place end → (n ≡ WrongAtom → ⊥) → Same bs cs (place + 1) → item rule k (k + size) judge (found cs k) ≡ wrong n place end
  item_decided bs cs k a n place end e h other same = go kind (item_numbered k n place end (judge a) h)
    where
      go : (rule ≡ WrongAtom) ⊎ (size ≡ 1) → (rule ≡ n) × (k ≡ place) → item rule k (k + size) judge (found cs k) ≡ wrong n place end
      go (inl atom) is = absurd (other (sym is.0 ∙ atom))
      go (inr single) is =
          let all : place + 1 ≡ k + size = omega (arith, is.1) in
          ap (item rule k (k + size) judge) (D.same bs cs k (subst (Same bs cs) all same) ∙ e) ∙ h

  front_item : Front (λ bs k. item rule k (k + size) judge (found bs k))
  front_item =
      front_found found size D (λ k o. item rule k (k + size) judge o) (λ k. refl) (λ k a. item_to k (judge a)) (λ bs k a n place end e h. item_placed k n place end (judge a) h)
      (λ bs cs k a n place end e h other room same. item_decided bs cs k a n place end e h other same)

byte_inside : (bs : List ℕ) (k : ℕ) (o : Option ℕ) → slice_get bs k ≡ o → (b : ℕ) → as_byte o ≡ Some b → k + 1 ≤ length bs
byte_inside bs k None e b h = none_some b h
byte_inside bs k (Some c) e b h = omega (arith, nth_inside bs k c e)

byte_cut : (cs : List ℕ) (k n : ℕ) → k ≡ n → EndsBefore cs n → byte_at cs k ≡ None
byte_cut cs k n e h = ap as_byte (subst (EndsBefore cs) (sym e) h)

byte_found : Finds byte_at 1
byte_found =
    record {
      inside = λ bs k a e. byte_inside bs k (slice_get bs k) refl a e;
      same = λ bs cs k same. ap as_byte (same k (omega arith));
      cut = λ cs k n h l ends. byte_cut cs k n (omega arith) ends;
    }

front_byte : {X : Type 0} (rule : Rule) (judge : ℕ → Option X) → Front (byte_item rule judge)
front_byte rule judge = front_item rule byte_at 1 byte_found judge (inr refl)

no_join : (a : Option ℕ) → joined_bytes a None ≡ None
no_join None = refl
no_join (Some a) = refl

join_low : (a b : Option ℕ) (w : ℕ) → joined_bytes a b ≡ Some w → (c : ℕ) × (b ≡ Some c)
join_low None b w e = none_some w e
join_low (Some a) None w e = none_some w e
join_low (Some a) (Some b) w e = (b, refl)

word_cut : (cs : List ℕ) (k n : ℕ) → k ≤ n → n < k + 4 → EndsBefore cs n → word_at cs k ≡ None
word_cut cs k n h l ends = go (cases_lt n (k + 1)) (cases_lt n (k + 2)) (cases_lt n (k + 3))
  where
    go : (n < k + 1) ⊎ (k + 1 ≤ n) → (n < k + 2) ⊎ (k + 2 ≤ n) → (n < k + 3) ⊎ (k + 3 ≤ n) → word_at cs k ≡ None
    go (inl a) b c = ap (λ o. joined_bytes (joined_bytes (joined_bytes o (byte_at cs (k + 1))) (byte_at cs (k + 2))) (byte_at cs (k + 3))) (byte_cut cs k n (omega arith) ends)
    go (inr a) (inl b) c =
        ap (λ o. joined_bytes (joined_bytes (joined_bytes (byte_at cs k) o) (byte_at cs (k + 2))) (byte_at cs (k + 3))) (byte_cut cs (k + 1) n (omega arith) ends)
        ∙ ap (λ o. joined_bytes (joined_bytes o (byte_at cs (k + 2))) (byte_at cs (k + 3))) (no_join (byte_at cs k))
    go (inr a) (inr b) (inl c) =
        ap (λ o. joined_bytes (joined_bytes (joined_bytes (byte_at cs k) (byte_at cs (k + 1))) o) (byte_at cs (k + 3))) (byte_cut cs (k + 2) n (omega arith) ends)
        ∙ ap (λ o. joined_bytes o (byte_at cs (k + 3))) (no_join (joined_bytes (byte_at cs k) (byte_at cs (k + 1))))
    go (inr a) (inr b) (inr c) =
        ap (joined_bytes (joined_bytes (joined_bytes (byte_at cs k) (byte_at cs (k + 1))) (byte_at cs (k + 2)))) (byte_cut cs (k + 3) n (omega arith) ends) ∙ no_join _

word_found : Finds word_at 4
word_found =
    record {
      inside = λ bs k w e.
          let low = join_low (joined_bytes (joined_bytes (byte_at bs k) (byte_at bs (k + 1))) (byte_at bs (k + 2))) (byte_at bs (k + 3)) w e in
          omega (arith, byte_inside bs (k + 3) (slice_get bs (k + 3)) refl low.0 low.1);
      same = λ bs cs k same.
          let byte : (i : ℕ) → i < k + 4 → byte_at cs i ≡ byte_at bs i = λ i h. ap as_byte (same i h) in
          ap₂ joined_bytes (ap₂ joined_bytes (ap₂ joined_bytes (byte k (omega arith)) (byte (k + 1) (omega arith))) (byte (k + 2) (omega arith))) (byte (k + 3) (omega arith));
      cut = word_cut;
    }

front_set : (test : ℕ → Bool) → Front (set_item test)
front_set test = front_item WrongAtom word_at 4 word_found (if_passes test) (inl refl)

-- ---- expressions

nth_some : (bs : List ℕ) (i : ℕ) → i < length bs → (b : ℕ) × (slice_get bs i ≡ Some b)
nth_some [] i h = absurd (not-suc-le-zero h)
nth_some (x ∷ bs) zero h = (x, refl)
nth_some (x ∷ bs) (suc i) h = nth_some bs i (omega arith)

-- strings that agree below n both reach n or both do not
same_reach : (bs cs : List ℕ) (n : ℕ) → Same bs cs n → n ≤ length bs → n ≤ length cs
same_reach bs cs zero same h = omega arith
same_reach bs cs (suc n) same h = let b = nth_some bs n h in nth_inside cs n b.0 (same n (omega arith) ∙ b.1)

same_back : (bs cs : List ℕ) (n : ℕ) → Same bs cs n → Same cs bs n
same_back bs cs n same i l = sym (same i l)

nth_same_getD : (bs cs : List ℕ) (i d : ℕ) → i < length bs → i < length cs → slice_get cs i ≡ slice_get bs i → get_or cs i d ≡ get_or bs i d
nth_same_getD bs cs i d h l e = let p = slice_get-get_or bs i d h in let q = slice_get-get_or cs i d l in cc (p, q)

part_same : (bs cs : List ℕ) (k n : ℕ) → k + n ≤ length bs → k + n ≤ length cs → Same bs cs (k + n) → take n (drop k cs) ≡ take n (drop k bs)
part_same bs cs k n h l same =
    same_lists (take n (drop k cs)) (take n (drop k bs)) (sized cs l ∙ sym (sized bs h))
    (λ i d within.
    let below : i < n = omega (arith, sized cs l) in
    get_or-take n (drop k cs) i d below ∙ get_or-drop k cs i d ∙ nth_same_getD bs cs (k + i) d (omega arith) (omega arith) (same (k + i) (omega arith)) ∙ sym (get_or-take n (drop k bs) i d below ∙ get_or-drop k bs i d))
  where
    sized : (xs : List ℕ) → k + n ≤ length xs → length (take n (drop k xs)) ≡ n
    sized xs h = length-take-le n (drop k xs) (omega (arith, length-drop k xs))

part_there : (bs : List ℕ) (k n : ℕ) → k + n ≤ length bs → part_at bs k n ≡ Some (take n (drop k bs))
part_there bs k n h = cond-true _ _ _ (le-leb (k + n) (length bs) h)

part_missing : (bs : List ℕ) (k n : ℕ) → length bs < k + n → part_at bs k n ≡ None
part_missing bs k n h = cond-false _ _ _ (lt-leb (k + n) (length bs) h)

ends_length : (cs : List ℕ) (n : ℕ) → EndsBefore cs n → length cs ≤ n
ends_length cs n e = go (cases_lt n (length cs))
  where
    go : (n < length cs) ⊎ (length cs ≤ n) → length cs ≤ n
    go (inl l) = let b = nth_some cs n l in none_some b.0 (sym e ∙ b.1)
    go (inr l) = l

part_found : (n : ℕ) → Finds (λ bs k. part_at bs k n) n
part_found n =
    record {
      inside = λ bs k part e. within bs k part e (cases_lt (length bs) (k + n));
      same = λ bs cs k same. go bs cs k same (cases_lt (length bs) (k + n));
      cut = λ cs k m h l ends. part_missing cs k n (omega (arith, ends_length cs m ends));
    }
  where
    within : (bs : List ℕ) (k : ℕ) (part : List ℕ) → part_at bs k n ≡ Some part → (length bs < k + n) ⊎ (k + n ≤ length bs) → k + n ≤ length bs
    within bs k part e (inl l) = none_some part (sym (part_missing bs k n l) ∙ e)
    within bs k part e (inr l) = l

    go : (bs cs : List ℕ) (k : ℕ) → Same bs cs (k + n) → (length bs < k + n) ⊎ (k + n ≤ length bs) → part_at cs k n ≡ part_at bs k n
    go bs cs k same (inr l) = let r = same_reach bs cs (k + n) same l in part_there cs k n r ∙ ap Some (part_same bs cs k n l r same) ∙ sym (part_there bs k n l)
    go bs cs k same (inl l) = not_there (cases_lt (length cs) (k + n))
      where
        not_there : (length cs < k + n) ⊎ (k + n ≤ length cs) → part_at cs k n ≡ part_at bs k n
        not_there (inl m) = part_missing cs k n m ∙ sym (part_missing bs k n l)
        not_there (inr m) = absurd (omega (arith, same_reach cs bs (k + n) (same_back bs cs (k + n) same) m))

taken_same : (m : ℕ) (bs : List ℕ) → Same bs (take m bs) m
taken_same zero bs i h = absurd (not-suc-le-zero h)
taken_same (suc m) [] i h = refl
taken_same (suc m) (x ∷ bs) zero h = refl
taken_same (suc m) (x ∷ bs) (suc i) h = taken_same m bs i (omega arith)

taken_ends : (m : ℕ) (bs : List ℕ) → EndsBefore (take m bs) m
taken_ends zero bs = refl
taken_ends (suc m) [] = refl
taken_ends (suc m) (x ∷ bs) = taken_ends m bs

nth_part : (bs : List ℕ) (k n i : ℕ) → i < n → slice_get (take n (drop k bs)) i ≡ slice_get bs (k + i)
nth_part bs k n i h = taken_same n (drop k bs) i h ∙ nth_dropped k bs i

-- parts of strings that agree agree
parts_same : (bs cs : List ℕ) (k n m : ℕ) → length (take n (drop k bs)) ≡ n → length (take n (drop k cs)) ≡ n → Same bs cs (k + m) → Same (take n (drop k bs)) (take n (drop k cs)) m
parts_same bs cs k n m hb hc same i l = go (cases_lt i n)
  where
    go : (i < n) ⊎ (n ≤ i) → slice_get (take n (drop k cs)) i ≡ slice_get (take n (drop k bs)) i
    go (inl h) = nth_part cs k n i h ∙ same (k + i) (omega arith) ∙ sym (nth_part bs k n i h)
    go (inr h) = slice_get_past (take n (drop k cs)) i (omega arith) ∙ sym (slice_get_past (take n (drop k bs)) i (omega arith))

-- the bytes up to the place decide
end_decided : {X : Type 0} (read : List ℕ → ℕ → Reading X) → FromFront read → (xs ys : List ℕ) (place : ℕ) → length ys ≡ length xs → to_the_end (length xs) (read xs 0) ≡ bad place → Same xs ys (place + 1) → to_the_end (length ys) (read ys 0) ≡ bad place
end_decided {X} read F xs ys place sized e same = go (read xs 0) refl e
  where
    go : (r : Reading X) → read xs 0 ≡ r → to_the_end (length xs) r ≡ bad place → to_the_end (length ys) (read ys 0) ≡ bad place
    go (bad p) is h =
        let here : place + 1 ≡ p + 1 = cc in
        ap (to_the_end (length ys)) (F.settled xs ys 0 (subst (λ r. Same xs ys (looked r)) (sym is) (subst (Same xs ys) here same)) ∙ is) ∙ h
    go (good x end) is h = test (eqb end (length xs)) refl h
      where
        test : (b : Bool) → eqb end (length xs) ≡ b → cond b (good x end) (bad end) ≡ bad place → to_the_end (length ys) (read ys 0) ≡ bad place
        test true f h = let z : ◌≡◌ {A = ℕ} 0 1 = cc in absurd (omega arith)
        test false f h =
            let here : end ≡ place = cc in
            ap (to_the_end (length ys)) (F.settled xs ys 0 (subst (λ r. Same xs ys (looked r)) (sym is) (fewer xs ys end (place + 1) (omega arith) same)) ∙ is)
            ∙ cond-false _ _ _ (ap (eqb end) sized ∙ f) ∙ h

module _ {X : Type 0} (read : List ℕ → ℕ → Reading X) (F : FromFront read) where
  whole : List ℕ → Reading X
  whole part = to_the_end (length part) (read part 0)

  placed : (part : List ℕ) (place : ℕ) → whole part ≡ bad place → place ≤ length part
  unfolding whole
  placed part place e = end_placed (length part) (read part 0) place (F.inside part 0 zero-le) e

  judged_end : (k end : ℕ) (r : Reading X) → judged_to (expression_judged k end r) ≡ Some end
  judged_end k end (good x j) = refl
  judged_end k end (bad place) = refl

  judged_place : (k n : ℕ) (part : List ℕ) → length part ≡ n → (r : Reading X) → whole part ≡ r → (rule : Rule) (place end : ℕ) → expression_judged k (k + n) r ≡ wrong rule place end → (k ≤ place) × (place ≤ end)
  judged_place k n part sized (good x j) e rule place end h = fine_wrong x (k + n) rule place end h
  judged_place k n part sized (bad p) e rule place end h =
      let here : k + p ≡ place = cc in let there : k + n ≡ end = cc in let low : p ≤ length part = placed part p e in (omega arith, omega arith)

  judged_decided : (bs cs : List ℕ) (k n : ℕ) (part : List ℕ) → PartRead bs k n part → (r : Reading X) → whole part ≡ r → (rule : Rule) (place end : ℕ) → expression_judged k (k + n) r ≡ wrong rule place end → end ≤ length cs → Same bs cs (place + 1) → expression_body whole cs n k ≡ wrong rule place end
  unfolding whole
  judged_decided bs cs k n part p (good x j) e rule place end h room same = fine_wrong x (k + n) rule place end h
  judged_decided bs cs k n part p (bad q) e rule place end h room same =
      let here : k + q ≡ place = cc in let there : k + n ≡ end = cc in
      let reach : k + n ≤ length cs = omega arith in
      let sized : length (take n (drop k cs)) ≡ n = length-take-le n (drop k cs) (omega (arith, length-drop k cs)) in
      let sized' : length (take n (drop k bs)) ≡ n = sym (ap length p.is) ∙ p.sized in
      let upto : place + 1 ≡ k + (q + 1) = omega arith in
      let alike : Same part (take n (drop k cs)) (q + 1) = subst (λ l. Same l (take n (drop k cs)) (q + 1)) (sym p.is) (parts_same bs cs k n (q + 1) sized' sized (subst (Same bs cs) upto same)) in
      ap (expression_of whole k (k + n)) (part_there cs k n reach)
      ∙ ap (expression_judged k (k + n)) (end_decided read F part (take n (drop k cs)) q (sized ∙ sym p.sized) e alike)
      ∙ h

  front_body : (n : ℕ) → Front (λ bs k. expression_body whole bs n k)
  front_body n =
      front_found (λ bs k. part_at bs k n) n (part_found n) (λ k o. expression_of whole k (k + n) o) (λ k. refl) (λ k part. judged_end k (k + n) (whole part))
      (λ bs k part rule place end e h. judged_place k n part (part_read bs k n part e).sized (whole part) refl rule place end h)
      (λ bs cs k part rule place end e h other room same. judged_decided bs cs k n part (part_read bs k n part e) (whole part) refl rule place end h room same)

  front_expression : Front (expression_item (λ part. to_the_end (length part) (read part 0)))
  unfolding whole
  front_expression = front_then (byte_item WrongExpression (between 1 64)) (λ n bs k. expression_body whole bs n k) (front_byte WrongExpression (between 1 64)) front_body

front_truth : (s : Seen) → Front (expression_item (whole_truth 8 s))
front_truth s = front_expression (read_truth 8 s) (truth_front 8 s)

front_number : (s : Seen) → Front (expression_item (whole_number 8 s))
front_number s = front_expression (read_number 8 s) (number_front 8 s)

-- ---- parts

front_many : {X : Type 0} (read : List ℕ → ℕ → Step X) → Front read → (n : ℕ) → Front (many read n)
unfolding many
front_many read F zero = front_done []
front_many read F (suc n) = front_then read (λ x bs next. and_then (many read n bs next) (λ xs end. fine (x ∷ xs) end)) F (λ x. front_then (many read n) (λ xs bs end. fine (x ∷ xs) end) (front_many read F n) (λ xs. front_done (x ∷ xs)))

front_variable : (lowest : ℕ) → Front (read_variable lowest)
unfolding read_variable
front_variable lowest =
    front_then (byte_item WrongVariable (between lowest 31)) _ (front_byte WrongVariable (between lowest 31)) (λ name.
    front_then (byte_item WrongVariable kind_of) _ (front_byte WrongVariable kind_of) (λ kind.
    front_then (byte_item WrongVariable (between 1 255)) _ (front_byte WrongVariable (between 1 255)) (λ top.
    front_done (record { name = name; kind = kind; top = top }))))

front_variables : (lowest n : ℕ) → Front (read_variables lowest n)
unfolding read_variables
front_variables lowest zero = front_done []
front_variables lowest (suc n) =
    front_then (read_variable lowest) (λ v bs k. and_then (read_variables (v.name + 1) n bs k) (λ vs end. fine (v ∷ vs) end)) (front_variable lowest) (λ v.
    front_then (read_variables (v.name + 1) n) (λ vs bs end. fine (v ∷ vs) end) (front_variables (v.name + 1) n) (λ vs. front_done (v ∷ vs)))

front_choice : (s : Seen) (count : ℕ) → Front (read_choice s count)
unfolding read_choice
front_choice s count =
    front_then (expression_item (whole_truth 8 s)) _ (front_truth s) (λ guard.
    front_then (many (expression_item (whole_number 8 s)) count) _ (front_many (expression_item (whole_number 8 s)) (front_number s) count) (λ gives.
    front_done (record { guard = guard; gives = gives })))

front_atom : (vs : List TableVariable) → Front (read_atom vs)
unfolding read_atom
front_atom vs =
    front_then (set_item (names_own vs)) _ (front_set (names_own vs)) (λ controls.
    front_then (set_item (names_variables vs)) _ (front_set (names_variables vs)) (λ reads.
    front_then (set_item (names_variables vs)) _ (front_set (names_variables vs)) (λ awaits.
    front_then (byte_item WrongAtom (between 1 (most_choices Initial))) _ (front_byte WrongAtom (between 1 (most_choices Initial))) (λ initials.
    front_then (byte_item WrongAtom (between 1 (most_choices Update))) _ (front_byte WrongAtom (between 1 (most_choices Update))) (λ updates.
    front_then (many (read_choice (seen_in Initial reads awaits) (size controls)) initials) _ (front_many (read_choice (seen_in Initial reads awaits) (size controls)) (front_choice (seen_in Initial reads awaits) (size controls)) initials) (λ initial.
    front_then (many (read_choice (seen_in Update reads awaits) (size controls)) updates) _ (front_many (read_choice (seen_in Update reads awaits) (size controls)) (front_choice (seen_in Update reads awaits) (size controls)) updates) (λ update.
    front_done (record { controls = controls; reads = reads; awaits = awaits; initial = initial; update = update }))))))))

front_table : Front read_table
unfolding read_table
front_table =
    front_then (byte_item WrongVariable (between 0 32)) _ (front_byte WrongVariable (between 0 32)) (λ count.
    front_then (read_variables 0 count) _ (front_variables 0 count) (λ variables.
    front_then (byte_item WrongAtom (between 0 16)) _ (front_byte WrongAtom (between 0 16)) (λ count.
    front_then (many (read_atom variables) count) _ (front_many (read_atom variables) (front_atom variables) count) (λ atoms.
    front_done (record { variables = variables; atoms = atoms })))))

-- ---- openings

pub opened_within : (bs : List ℕ) → length bs ≤ 4096 → opening_of bs ≡ at_end (length bs) (read_table bs 0)
opened_within bs h = cond-false _ _ _ (le-ltb 4096 (length bs) h)

opened_beyond : (bs : List ℕ) → 4096 < length bs → opening_of bs ≡ breaks TooManyBytes 0
opened_beyond bs h = cond-true _ _ _ (lt-ltb 4096 (length bs) h)

opened_refused : {P : Type 0} (t : TableSyntax) (rule : Rule) (place : ℕ) → opens_as t ≡ breaks rule place → P
opened_refused t rule place e = let z : ◌≡◌ {A = ℕ} 0 1 = cc in absurd (omega arith)

same_rule : (m n : Rule) (p q : ℕ) → breaks m p ≡ breaks n q → m ≡ n
same_rule m n p q e = cc

same_place : (m n : Rule) (p q : ℕ) → breaks m p ≡ breaks n q → p ≡ q
same_place m n p q e = cc

-- how a refusal comes about
data Cause (bs : List ℕ) (rule : Rule) (place : ℕ) : Type 0 where
  long : 4096 < length bs → rule ≡ TooManyBytes → Cause bs rule place
  lacking : length bs ≤ 4096 → read_table bs 0 ≡ short → rule ≡ BytesMissing → place ≡ length bs → Cause bs rule place
  at_fault : length bs ≤ 4096 → (end : ℕ) → read_table bs 0 ≡ wrong rule place end → judges_items rule ≡ true → Cause bs rule place
  more : length bs ≤ 4096 → (t : TableSyntax) → read_table bs 0 ≡ fine t place → (place ≡ length bs → ⊥) → rule ≡ BytesLeftOver → Cause bs rule place

cause : (bs : List ℕ) (rule : Rule) (place : ℕ) → opening_of bs ≡ breaks rule place → Cause bs rule place
cause bs rule place e = go (cases_lt 4096 (length bs))
  where
    by : (r : Step TableSyntax) → read_table bs 0 ≡ r → OfItems r → length bs ≤ 4096 → at_end (length bs) r ≡ breaks rule place → Cause bs rule place
    by short is n h e = lacking h is (sym (same_rule BytesMissing rule (length bs) place e)) (sym (same_place BytesMissing rule (length bs) place e))
    by (wrong m p end) is n h e =
        let a : m ≡ rule = same_rule m rule p place e in let b : p ≡ place = same_place m rule p place e in
        at_fault h end (is ∙ ap₂ (λ x y. wrong x y end) a b) (subst (λ x. judges_items x ≡ true) a n)
    by (fine t end) is n h e = test (eqb end (length bs)) refl e
      where
        test : (b : Bool) → eqb end (length bs) ≡ b → cond b (opens_as t) (breaks BytesLeftOver end) ≡ breaks rule place → Cause bs rule place
        test true f e = opened_refused t rule place e
        test false f e =
            let a : end ≡ place = same_place BytesLeftOver rule end place e in
            more h t (is ∙ ap (fine t) a) (λ all. let z : ◌≡◌ {A = ℕ} 0 1 = cc (f, eq-eqb end (length bs) (a ∙ all)) in omega arith) (sym (same_rule BytesLeftOver rule end place e))

    go : (4096 < length bs) ⊎ (length bs ≤ 4096) → Cause bs rule place
    go (inl h) = long h (sym (same_rule TooManyBytes rule 0 place (sym (opened_beyond bs h) ∙ e)))
    go (inr h) = by (read_table bs 0) refl (of_items_table bs 0) h (sym (opened_within bs h) ∙ e)

-- no two rules have the same number
another : {P : Type 0} {m n : Rule} → (rule_number m ≡ rule_number n → ⊥) → m ≡ n → P
another other e = absurd (other (ap rule_number e))

not_judged : {P : Type 0} {rule : Rule} (other : Rule) → rule ≡ other → judges_items other ≡ false → judges_items rule ≡ true → P
not_judged other same none judged = absurd (false≢true (sym none ∙ sym (ap judges_items same) ∙ judged))

cut_opened : (bs : List ℕ) (n : ℕ) → length bs ≤ 4096 → n ≤ length bs → Before n (judged_to (read_table bs 0)) → opening_of (take n bs) ≡ breaks BytesMissing n
cut_opened bs n h l before =
    let sized : length (take n bs) ≡ n = length-take-le n bs l in
    opened_within (take n bs) (omega arith)
    ∙ ap (at_end (length (take n bs))) (front_table.cut bs (take n bs) 0 n (omega arith) before (taken_same n bs) (taken_ends n bs))
    ∙ ap (breaks BytesMissing) sized

long_by : (bs : List ℕ) (place : ℕ) → Cause bs TooManyBytes place → 4096 < length bs
long_by bs place (long h n) = h
long_by bs place (lacking h r n p) = another (λ e. omega (arith, e)) n
long_by bs place (at_fault h end r judged) = absurd (false≢true judged)
long_by bs place (more h t r p n) = another (λ e. omega (arith, e)) n

missing_by : (bs : List ℕ) (place : ℕ) → Cause bs BytesMissing place → (place ≡ length bs) × ((n : ℕ) → n ≤ place → opening_of (take n bs) ≡ breaks BytesMissing n)
missing_by bs place (long h n) = another (λ e. omega (arith, e)) n
missing_by bs place (lacking h r n p) = (p, λ m l. cut_opened bs m h (omega arith) (subst (Before m) (sym (ap judged_to r)) tt))
missing_by bs place (at_fault h end r judged) = absurd (false≢true judged)
missing_by bs place (more h t r p n) = another (λ e. omega (arith, e)) n

judged_by : (bs : List ℕ) (rule : Rule) (place : ℕ) → judges_items rule ≡ true → Cause bs rule place → FirstFault bs rule place
judged_by bs rule place judged (long h n) = not_judged TooManyBytes n refl judged
judged_by bs rule place judged (lacking h r n p) = not_judged BytesMissing n refl judged
judged_by bs rule place judged (at_fault h end r _) =
    let to : judged_to (read_table bs 0) ≡ Some end = ap judged_to r in
    let inside : end ≤ length bs = front_table.inside bs 0 end (omega arith) to in
    record {
      upto = end;
      place_within = (front_table.placed bs 0 rule place end r).1;
      upto_within = inside;
      same = λ cs few same. opened_within cs few ∙ ap (at_end (length cs)) (front_table.settled bs cs 0 end to same ∙ r);
      cut = λ n l. cut_opened bs n h (omega arith) (subst (Before n) (sym to) l);
      decided = λ other cs few room same. opened_within cs few ∙ ap (at_end (length cs)) (front_table.decided bs cs 0 rule place end r other room same);
    }
judged_by bs rule place judged (more h t r p n) = not_judged BytesLeftOver n refl judged

left_by : (bs : List ℕ) (place : ℕ) → Cause bs BytesLeftOver place → LeftOver bs place
left_by bs place (long h n) = another (λ e. omega (arith, e)) n
left_by bs place (lacking h r n p) = another (λ e. omega (arith, e)) n
left_by bs place (at_fault h end r judged) = absurd (false≢true judged)
left_by bs place (more h t r p n) =
    let to : judged_to (read_table bs 0) ≡ Some place = ap judged_to r in
    let inside : place ≤ length bs = front_table.inside bs 0 place (omega arith) to in
    let sized : length (take place bs) ≡ place = length-take-le place bs inside in
    record {
      within = omega arith;
      table = t;
      whole =
          opened_within (take place bs) (omega arith)
          ∙ ap (at_end (length (take place bs))) (front_table.settled bs (take place bs) 0 place to (taken_same place bs) ∙ r)
          ∙ cond-true _ _ _ (eq-eqb place (length (take place bs)) (sym sized));
    }

in_six : (rule : Rule) → (1 ≤ rule_number rule) × (rule_number rule ≤ 6)
in_six TooManyBytes = (lit≤ tt, lit≤ tt)
in_six BytesMissing = (lit≤ tt, lit≤ tt)
in_six WrongVariable = (lit≤ tt, lit≤ tt)
in_six WrongAtom = (lit≤ tt, lit≤ tt)
in_six WrongExpression = (lit≤ tt, lit≤ tt)
in_six BytesLeftOver = (lit≤ tt, lit≤ tt)

pub faults_are_the_first : FaultsAreTheFirst
faults_are_the_first =
    record {
      numbers = λ bs rule place e. in_six rule;
      too_long = opened_beyond;
      too_long_only = λ bs place e. long_by bs place (cause bs TooManyBytes place e);
      missing = λ bs place e. missing_by bs place (cause bs BytesMissing place e);
      judged = λ bs rule place judged e. judged_by bs rule place judged (cause bs rule place e);
      left_over = λ bs place e. left_by bs place (cause bs BytesLeftOver place e);
    }
