-- What reading an expression gives is right, its value lies in a small range and depends only on what the expression
-- sees.
use Rattle.std.specs.Prelude.{◌≡◌, ℕ, zero, suc, ◌+◌, ◌*◌, ◌<◌, ◌≤◌, max, Bool, true, false, cond, not, ◌&&◌, ◌||◌, ltb, List, [], ◌∷◌, ◌++◌, length, ℤ, pos, negsuc, ◌+ℤ◌, ◌-ℤ◌, ◌≤ℤ◌, Some, None, Option, ◌==◌, int_lt, nat_le, nat_lt, refl}
use Rattle.std.proofs.Common.{sym, ap, ap₂, subst, ◌∙◌, arith}
use borrow.Author.Differences.{up, down, ints}
use Rattle.std.proofs.lemmas.List.{length-append}
use Rattle.std.proofs.lemmas.Bool.{and_from, and_parts, eqb-true, ltb-true, lt-ltb, leb-true, le-leb}
use Rattle.std.specs.List.{slice_get}
use Rattle.model.specs.Meanings.{Valuation, AreBytes}
use Rattle.language.specs.Expressions.{Agree, Number, constant, old_value, new_value, sum, difference, Truth, equal, less, negation, conjunction, disjunction, always, number_bytes, truth_bytes, number_levels, truth_levels, number_value, truth_value, eqZ, Seen, number_sees, truth_sees, number_right, truth_right, as_byte, byte_at, Reading, good, bad, after, judged, good_byte, read_byte, one, two, NumberOperation, constant_follows, old_name_follows, new_name_follows, plus, minus, number_operator, TruthOperation, equals, less_than, not_follows, and_follows, or_follows, is_true, truth_operator, as_constant, as_name, number_operands, read_number, truth_operands, read_truth}

-- these bytes stand at place k
abbrev pub Stands : List ℕ → ℕ → List ℕ → Type 0
Stands bs k [] = Unit {0}
Stands bs k (x ∷ xs) = (byte_at bs k ≡ Some x) × Stands bs (k + 1) xs

pub stands_append : (bs : List ℕ) (k j : ℕ) (xs ys : List ℕ) → j ≡ k + length xs → Stands bs k xs → Stands bs j ys → Stands bs k (xs ++ ys)
stands_append bs k j [] ys e h g = let same : j ≡ k = omega arith in subst (λ i. Stands bs i ys) same g
stands_append bs k j (x ∷ xs) ys e h g = (h.0, stands_append bs (k + 1) j xs ys (omega arith) h.1 g)

pub stands_left : (bs : List ℕ) (k : ℕ) (xs ys : List ℕ) → Stands bs k (xs ++ ys) → Stands bs k xs
stands_left bs k [] ys h = tt
stands_left bs k (x ∷ xs) ys h = (h.0, stands_left bs (k + 1) xs ys h.1)

pub stands_right : (bs : List ℕ) (k j : ℕ) (xs ys : List ℕ) → j ≡ k + length xs → Stands bs k (xs ++ ys) → Stands bs j ys
stands_right bs k j [] ys e h = let same : k ≡ j = omega arith in subst (λ i. Stands bs i ys) same h
stands_right bs k j (x ∷ xs) ys e h = stands_right bs (k + 1) j xs ys (omega arith) h.1

pub none_some : {X P : Type 0} (x : X) → None ≡ Some x → P
none_some x e = let z : ◌≡◌ {A = ℕ} 0 1 = cc in absurd (omega arith)

pub bad_good : {X P : Type 0} (p : ℕ) (x : X) (end : ℕ) → bad p ≡ good x end → P
bad_good p x end e = let z : ◌≡◌ {A = ℕ} 0 1 = cc in absurd (omega arith)

pub byte_small : (o : Option ℕ) (b : ℕ) → as_byte o ≡ Some b → b < 256
byte_small None b e = none_some b e
byte_small (Some c) b e = go (nat_lt c 256) refl e
  where
    go : (t : Bool) → nat_lt c 256 ≡ t → cond t (Some c) None ≡ Some b → b < 256
    go true t e = let same : c ≡ b = cc in subst (λ x. x < 256) same (ltb-true c 256 t)
    go false t e = none_some b e

pub byte_is : (o : Option ℕ) (b : ℕ) → as_byte o ≡ Some b → o ≡ Some b
byte_is None b e = e
byte_is (Some c) b e = go (nat_lt c 256) e
  where
    go : (t : Bool) → cond t (Some c) None ≡ Some b → Some c ≡ Some b
    go true e = e
    go false e = none_some b e

pub nth_inside : {X : Type 0} (xs : List X) (i : ℕ) (x : X) → slice_get xs i ≡ Some x → i < length xs
nth_inside [] i x e = none_some x e
nth_inside (y ∷ xs) zero x e = omega arith
nth_inside (y ∷ xs) (suc i) x e = omega (arith, nth_inside xs i x e)

-- the first of two cases
either : {O : Type 0} (P : Type 0) (t : Bool) (x o : O) (rest : Option O) → (t ≡ true → x ≡ o → P) → (rest ≡ Some o → P) → cond t (Some x) rest ≡ Some o → P
either P true x o rest f g e = let same : x ≡ o = cc in f refl same
either P false x o rest f g e = g e

abbrev number_code : NumberOperation → ℕ
number_code constant_follows = 0
number_code old_name_follows = 1
number_code new_name_follows = 2
number_code plus = 3
number_code minus = 4

number_operator_is : (b : ℕ) (o : NumberOperation) → number_operator b ≡ Some o → b ≡ number_code o
number_operator_is b o =
    let is : (c : ℕ) (x : NumberOperation) → c ≡ number_code x → (b == c) ≡ true → x ≡ o → b ≡ number_code o = λ c x e t same. eqb-true b c t ∙ e ∙ ap number_code same in
    let P : Type 0 = b ≡ number_code o in
    either P (b == 0) constant_follows o _ (is 0 constant_follows refl)
    (either P (b == 1) old_name_follows o _ (is 1 old_name_follows refl)
    (either P (b == 2) new_name_follows o _ (is 2 new_name_follows refl)
    (either P (b == 3) plus o _ (is 3 plus refl)
    (either P (b == 4) minus o _ (is 4 minus refl) (none_some o)))))

abbrev truth_code : TruthOperation → ℕ
truth_code equals = 16
truth_code less_than = 17
truth_code not_follows = 18
truth_code and_follows = 19
truth_code or_follows = 20
truth_code is_true = 21

truth_operator_is : (b : ℕ) (o : TruthOperation) → truth_operator b ≡ Some o → b ≡ truth_code o
truth_operator_is b o =
    let is : (c : ℕ) (x : TruthOperation) → c ≡ truth_code x → (b == c) ≡ true → x ≡ o → b ≡ truth_code o = λ c x e t same. eqb-true b c t ∙ e ∙ ap truth_code same in
    let P : Type 0 = b ≡ truth_code o in
    either P (b == 16) equals o _ (is 16 equals refl)
    (either P (b == 17) less_than o _ (is 17 less_than refl)
    (either P (b == 18) not_follows o _ (is 18 not_follows refl)
    (either P (b == 19) and_follows o _ (is 19 and_follows refl)
    (either P (b == 20) or_follows o _ (is 20 or_follows refl)
    (either P (b == 21) is_true o _ (is 21 is_true refl) (none_some o))))))

-- a byte that was read well
pub record ByteRead {X : Type 0} (judge : ℕ → Option X) (bs : List ℕ) (k : ℕ) (x : X) (end : ℕ) : Type 0 where
  pub byte : ℕ
  pub here : byte_at bs k ≡ Some byte
  pub means : judge byte ≡ Some x
  pub ends : end ≡ k + 1

pub byte_read : {X : Type 0} (judge : ℕ → Option X) (bs : List ℕ) (k : ℕ) (x : X) (end : ℕ) → read_byte judge bs k ≡ good x end → ByteRead judge bs k x end
byte_read {X} judge bs k x end e = go (byte_at bs k) refl e
  where
    then : (b : ℕ) → byte_at bs k ≡ Some b → (o : Option X) → judge b ≡ o → good_byte o k ≡ good x end → ByteRead judge bs k x end
    then b h None g e = bad_good k x end e
    then b h (Some y) g e =
        let same : y ≡ x = cc in let ends : k + 1 ≡ end = cc in
        record { byte = b; here = h; means = g ∙ ap Some same; ends = sym ends }

    go : (o : Option ℕ) → byte_at bs k ≡ o → good_byte (judged judge o) k ≡ good x end → ByteRead judge bs k x end
    go None h e = bad_good k x end e
    go (Some b) h e = then b h (judge b) refl e

-- what was read first, and where the rest begins
pub record AfterRead {X Y : Type 0} (r : Reading X) (next : X → ℕ → Reading Y) (y : Y) (end : ℕ) : Type 0 where
  pub first : X
  pub place : ℕ
  pub first_read : r ≡ good first place
  pub rest_read : next first place ≡ good y end

pub after_read : {X Y : Type 0} (r : Reading X) (next : X → ℕ → Reading Y) (y : Y) (end : ℕ) → after r next ≡ good y end → AfterRead r next y end
after_read (bad p) next y end e = bad_good p y end e
after_read (good x place) next y end e = record { first = x; place = place; first_read = refl; rest_read = e }

-- What was read from place k up to `end` is written so, and passes the test.
pub record ReadAs (bs : List ℕ) (k : ℕ) (xs : List ℕ) (right : Bool) (end : ℕ) : Type 0 where
  pub stands : Stands bs k xs
  pub ends : end ≡ k + length xs
  pub passes : right ≡ true

pub record TwoRead {X Y : Type 0} (make : X → X → Y) (operand : ℕ → Reading X) (k : ℕ) (y : Y) (end : ℕ) : Type 0 where
  pub first : X
  pub next : ℕ
  pub second : X
  pub first_read : operand k ≡ good first next
  pub second_read : operand next ≡ good second end
  pub made : make first second ≡ y

pub record OneRead {X Y : Type 0} (make : X → Y) (operand : ℕ → Reading X) (k : ℕ) (y : Y) (end : ℕ) : Type 0 where
  pub only : X
  pub only_read : operand k ≡ good only end
  pub made : make only ≡ y

pub one_read : {X Y : Type 0} (make : X → Y) (operand : ℕ → Reading X) (k : ℕ) (y : Y) (end : ℕ) → one make operand k ≡ good y end → OneRead make operand k y end
one_read make operand k y end e =
    let r = after_read (operand k) (λ a end. good (make a) end) y end e in
    let last = r.rest_read in
    let same : make r.first ≡ y = cc last in let ends : r.place ≡ end = cc last in
    record { only = r.first; only_read = r.first_read ∙ ap (good r.first) ends; made = same }

pub two_read : {X Y : Type 0} (make : X → X → Y) (operand : ℕ → Reading X) (k : ℕ) (y : Y) (end : ℕ) → two make operand k ≡ good y end → TwoRead make operand k y end
two_read make operand k y end e =
    let r = after_read (operand k) (λ a. one (make a) operand) y end e in
    let q = one_read (make r.first) operand r.place y end r.rest_read in
    record { first = r.first; next = r.place; second = q.only; first_read = r.first_read; second_read = q.only_read; made = q.made }

pub right_two : (la lb levels : ℕ) (x y : Bool) → (nat_le la levels && x) ≡ true → (nat_le lb levels && y) ≡ true → (nat_le (suc (max la lb)) (suc levels) && (x && y)) ≡ true
right_two la lb levels x y h g =
    let p = and_parts (nat_le la levels) x h in let q = and_parts (nat_le lb levels) y g in
    let under : suc (max la lb) ≤ suc levels = omega (arith, leb-true la levels p.0, leb-true lb levels q.0) in
    and_from _ _ (le-leb _ _ under) (and_from x y p.1 q.1)

pub right_one : (l levels : ℕ) (x : Bool) → (nat_le l levels && x) ≡ true → (nat_le (suc l) (suc levels) && x) ≡ true
right_one l levels x h =
    let p = and_parts (nat_le l levels) x h in
    and_from _ _ (le-leb (suc l) (suc levels) (omega (arith, leb-true l levels p.0))) p.1

two_as : (bs : List ℕ) (k code : ℕ) (xs ys : List ℕ) (la lb levels : ℕ) (x y : Bool) (next end : ℕ) → byte_at bs k ≡ Some code → ReadAs bs (k + 1) xs (nat_le la levels && x) next → ReadAs bs next ys (nat_le lb levels && y) end → ReadAs bs k (code ∷ (xs ++ ys)) (nat_le (suc (max la lb)) (suc levels) && (x && y)) end
two_as bs k code xs ys la lb levels x y next end here first second =
    record {
      stands = (here, stands_append bs (k + 1) next xs ys first.ends first.stands second.stands);
      ends = omega (arith, first.ends, second.ends, length-append xs ys);
      passes = right_two la lb levels x y first.passes second.passes;
    }

one_as : (bs : List ℕ) (k code : ℕ) (xs : List ℕ) (l levels : ℕ) (x : Bool) (end : ℕ) → byte_at bs k ≡ Some code → ReadAs bs (k + 1) xs (nat_le l levels && x) end → ReadAs bs k (code ∷ xs) (nat_le (suc l) (suc levels) && x) end
one_as bs k code xs l levels x end here only =
    record { stands = (here, only.stands); ends = omega (arith, only.ends); passes = right_one l levels x only.passes }

leaf_right : (levels : ℕ) (x : Bool) → x ≡ true → (nat_le 1 (suc levels) && x) ≡ true
leaf_right levels x h = and_from _ _ (le-leb 1 (suc levels) (omega arith)) h

leaf_as : (bs : List ℕ) (k code v levels : ℕ) (x : Bool) → byte_at bs k ≡ Some code → byte_at bs (k + 1) ≡ Some v → x ≡ true → ReadAs bs k (code ∷ v ∷ []) (nat_le 1 (suc levels) && x) (k + 1 + 1)
leaf_as bs k code v levels x here there passes = record { stands = (here, (there, tt)); ends = omega arith; passes = leaf_right levels x passes }

-- whatever number is read is right, and stands there as it is written
pub number_read : (levels : ℕ) (s : Seen) (bs : List ℕ) (k : ℕ) (e : Number) (end : ℕ) → read_number levels s bs k ≡ good e end → ReadAs bs k (number_bytes e) (number_right levels s e) end
unfolding read_number
number_read zero s bs k e end h = bad_good k e end h
number_read (suc levels) s bs k e end h =
    let r = after_read (read_byte number_operator bs k) (number_operands s bs (read_number levels s bs)) e end h in
    let b = byte_read number_operator bs k r.first r.place r.first_read in
    go r.first (b.here ∙ ap Some (number_operator_is b.byte r.first b.means)) (subst (λ j. number_operands s bs (read_number levels s bs) r.first j ≡ good e end) b.ends r.rest_read) (number_read levels s bs)
  where
    Result : Number → ℕ → Type 0
    Result e end = ReadAs bs k (number_bytes e) (number_right (suc levels) s e) end

    Deeper : Type 0
    Deeper = (k : ℕ) (e : Number) (end : ℕ) → read_number levels s bs k ≡ good e end → ReadAs bs k (number_bytes e) (number_right levels s e) end

    leaf : (code : ℕ) (make : ℕ → Number) (test : ℕ → Bool) → ((n : ℕ) → number_bytes (make n) ≡ code ∷ n ∷ []) → ((n : ℕ) → number_right (suc levels) s (make n) ≡ (nat_le 1 (suc levels) && test n)) → byte_at bs k ≡ Some code → (v end : ℕ) → byte_at bs (k + 1) ≡ Some v → test v ≡ true → make v ≡ e → end ≡ k + 1 + 1 → Result e end
    leaf code make test bytes right here v end there passes same ends =
        subst (λ x. Result x end) same (subst (Result (make v)) (sym ends) (rw (bytes v, right v) (leaf_as bs k code v levels (test v) here there passes)))

    name : (code : ℕ) (make : ℕ → Number) (seen : ℕ → Bool) → ((n : ℕ) → number_bytes (make n) ≡ code ∷ n ∷ []) → ((n : ℕ) → number_right (suc levels) s (make n) ≡ (nat_le 1 (suc levels) && (nat_lt n 256 && seen n))) → byte_at bs k ≡ Some code → read_byte (as_name make seen) bs (k + 1) ≡ good e end → Result e end
    name code make seen bytes right here h =
        let b = byte_read (as_name make seen) bs (k + 1) e end h in
        let v = b.byte in
        let small : ltb v 256 ≡ true = lt-ltb v 256 (byte_small (slice_get bs (k + 1)) v b.here) in
        either (Result e end) (seen v) (make v) e None
        (λ t same. leaf code make (λ n. nat_lt n 256 && seen n) bytes right here v end b.here (and_from (nat_lt v 256) (seen v) small t) same b.ends) (none_some e) b.means

    both : (code : ℕ) (make : Number → Number → Number) → ((a b : Number) → number_bytes (make a b) ≡ code ∷ (number_bytes a ++ number_bytes b)) → ((a b : Number) → number_right (suc levels) s (make a b) ≡ (nat_le (suc (max (number_levels a) (number_levels b))) (suc levels) && (number_sees s a && number_sees s b))) → byte_at bs k ≡ Some code → two make (read_number levels s bs) (k + 1) ≡ good e end → Deeper → Result e end
    both code make bytes right here h deeper =
        let r = two_read make (read_number levels s bs) (k + 1) e end h in
        subst (λ x. Result x end) r.made (rw (bytes r.first r.second, right r.first r.second) (two_as bs k code _ _ (number_levels r.first) (number_levels r.second) levels (number_sees s r.first) (number_sees s r.second) r.next end here (deeper (k + 1) r.first r.next r.first_read) (deeper r.next r.second end r.second_read)))

    go : (o : NumberOperation) → byte_at bs k ≡ Some (number_code o) → number_operands s bs (read_number levels s bs) o (k + 1) ≡ good e end → Deeper → Result e end
    go constant_follows here h deeper =
        let b = byte_read as_constant bs (k + 1) e end h in
        let v = b.byte in let means = b.means in
        let same : constant v ≡ e = cc means in
        leaf 0 constant (λ n. ltb n 256) (λ n. refl) (λ n. refl) here v end b.here (lt-ltb v 256 (byte_small (slice_get bs (k + 1)) v b.here)) same b.ends
    go old_name_follows here h deeper = name 1 old_value s.old (λ n. refl) (λ n. refl) here h
    go new_name_follows here h deeper = name 2 new_value s.new (λ n. refl) (λ n. refl) here h
    go plus here h deeper = both 3 sum (λ a b. refl) (λ a b. refl) here h deeper
    go minus here h deeper = both 4 difference (λ a b. refl) (λ a b. refl) here h deeper

pub truth_read : (levels : ℕ) (s : Seen) (bs : List ℕ) (k : ℕ) (p : Truth) (end : ℕ) → read_truth levels s bs k ≡ good p end → ReadAs bs k (truth_bytes p) (truth_right levels s p) end
unfolding read_truth
truth_read zero s bs k p end h = bad_good k p end h
truth_read (suc levels) s bs k p end h =
    let r = after_read (read_byte truth_operator bs k) (truth_operands (read_number levels s bs) (read_truth levels s bs)) p end h in
    let b = byte_read truth_operator bs k r.first r.place r.first_read in
    go r.first (b.here ∙ ap Some (truth_operator_is b.byte r.first b.means)) (subst (λ j. truth_operands (read_number levels s bs) (read_truth levels s bs) r.first j ≡ good p end) b.ends r.rest_read) (truth_read levels s bs)
  where
    Result : Truth → Type 0
    Result p = ReadAs bs k (truth_bytes p) (truth_right (suc levels) s p) end

    Deeper : Type 0
    Deeper = (k : ℕ) (p : Truth) (end : ℕ) → read_truth levels s bs k ≡ good p end → ReadAs bs k (truth_bytes p) (truth_right levels s p) end

    numbers : (code : ℕ) (make : Number → Number → Truth) → ((a b : Number) → truth_bytes (make a b) ≡ code ∷ (number_bytes a ++ number_bytes b)) → ((a b : Number) → truth_right (suc levels) s (make a b) ≡ (nat_le (suc (max (number_levels a) (number_levels b))) (suc levels) && (number_sees s a && number_sees s b))) → byte_at bs k ≡ Some code → two make (read_number levels s bs) (k + 1) ≡ good p end → Result p
    numbers code make bytes right here h =
        let r = two_read make (read_number levels s bs) (k + 1) p end h in
        subst Result r.made (rw (bytes r.first r.second, right r.first r.second) (two_as bs k code _ _ (number_levels r.first) (number_levels r.second) levels (number_sees s r.first) (number_sees s r.second) r.next end here (number_read levels s bs (k + 1) r.first r.next r.first_read) (number_read levels s bs r.next r.second end r.second_read)))

    truths : (code : ℕ) (make : Truth → Truth → Truth) → ((a b : Truth) → truth_bytes (make a b) ≡ code ∷ (truth_bytes a ++ truth_bytes b)) → ((a b : Truth) → truth_right (suc levels) s (make a b) ≡ (nat_le (suc (max (truth_levels a) (truth_levels b))) (suc levels) && (truth_sees s a && truth_sees s b))) → byte_at bs k ≡ Some code → two make (read_truth levels s bs) (k + 1) ≡ good p end → Deeper → Result p
    truths code make bytes right here h deeper =
        let r = two_read make (read_truth levels s bs) (k + 1) p end h in
        subst Result r.made (rw (bytes r.first r.second, right r.first r.second) (two_as bs k code _ _ (truth_levels r.first) (truth_levels r.second) levels (truth_sees s r.first) (truth_sees s r.second) r.next end here (deeper (k + 1) r.first r.next r.first_read) (deeper r.next r.second end r.second_read)))

    go : (o : TruthOperation) → byte_at bs k ≡ Some (truth_code o) → truth_operands (read_number levels s bs) (read_truth levels s bs) o (k + 1) ≡ good p end → Deeper → Result p
    go equals here h deeper = numbers 16 equal (λ a b. refl) (λ a b. refl) here h
    go less_than here h deeper = numbers 17 less (λ a b. refl) (λ a b. refl) here h
    go not_follows here h deeper =
        let r = one_read negation (read_truth levels s bs) (k + 1) p end h in
        subst Result r.made (one_as bs k 18 _ (truth_levels r.only) levels (truth_sees s r.only) end here (deeper (k + 1) r.only end r.only_read))
    go and_follows here h deeper = truths 19 conjunction (λ a b. refl) (λ a b. refl) here h deeper
    go or_follows here h deeper = truths 20 disjunction (λ a b. refl) (λ a b. refl) here h deeper
    go is_true here h deeper =
        let same : always ≡ p = cc in let ends : k + 1 ≡ end = cc in
        subst Result same (subst (λ i. ReadAs bs k (21 ∷ []) (truth_right (suc levels) s always) i) ends (record { stands = (here, tt); ends = refl; passes = leaf_right levels true refl }))

-- how many constants and names a number holds
abbrev pub leaves : Number → ℕ
leaves (constant v) = 1
leaves (old_value n) = 1
leaves (new_value n) = 1
leaves (sum a b) = leaves a + leaves b
leaves (difference a b) = leaves a + leaves b

pub number_length : (e : Number) → length (number_bytes e) + 1 ≡ 3 * leaves e
number_length (constant v) = refl
number_length (old_value n) = refl
number_length (new_value n) = refl
number_length (sum a b) = omega (arith, number_length a, number_length b, length-append (number_bytes a) (number_bytes b))
number_length (difference a b) = omega (arith, number_length a, number_length b, length-append (number_bytes a) (number_bytes b))

-- each leaf is worth at most 255, and one of them is never taken away
pub record Bounded (e : Number) (z : ℤ) : Type 0 where
  pub high : up z ≤ down z + 255 * leaves e
  pub low : down z + 255 ≤ up z + 255 * leaves e

pub number_bounded : (s : Seen) (e : Number) (old new : Valuation) → number_sees s e ≡ true → AreBytes old → AreBytes new → Bounded e (number_value e old new)
number_bounded s (constant v) old new h p q = let small : v < 256 = ltb-true v 256 h in record { high = omega arith; low = omega arith }
number_bounded s (old_value n) old new h p q = let small : old n ≤ 255 = p n in record { high = omega arith; low = omega arith }
number_bounded s (new_value n) old new h p q = let small : new n ≤ 255 = q n in record { high = omega arith; low = omega arith }
number_bounded s (sum a b) old new h p q =
    let both = and_parts (number_sees s a) (number_sees s b) h in
    let first = number_bounded s a old new both.0 p q in let second = number_bounded s b old new both.1 p q in
    record { high = omega (arith, ints, first, second); low = omega (arith, ints, first, second) }
number_bounded s (difference a b) old new h p q =
    let both = and_parts (number_sees s a) (number_sees s b) h in
    let first = number_bounded s a old new both.0 p q in let second = number_bounded s b old new both.1 p q in
    record { high = omega (arith, ints, first, second); low = omega (arith, ints, first, second) }

pub number_low : (s : Seen) (e : Number) (old new : Valuation) → number_sees s e ≡ true → AreBytes old → AreBytes new → length (number_bytes e) ≤ 64 → negsuc 5099 ≤ℤ number_value e old new
number_low s e old new h p q short =
    let b = number_bounded s e old new h p q in omega (arith, ints, b.high, b.low, number_length e)

pub number_high : (s : Seen) (e : Number) (old new : Valuation) → number_sees s e ≡ true → AreBytes old → AreBytes new → length (number_bytes e) ≤ 64 → number_value e old new ≤ℤ pos 5355
number_high s e old new h p q short =
    let b = number_bounded s e old new h p q in omega (arith, ints, b.high, b.low, number_length e)

module _ (s : Seen) (old new old' new' : Valuation) (alike : Agree s old new old' new') where
  pub number_by_sight : (e : Number) → number_sees s e ≡ true → number_value e old new ≡ number_value e old' new'
  number_by_sight (constant v) h = refl
  number_by_sight (old_value n) h = ap pos (alike.old_same n (and_parts (nat_lt n 256) (s.old n) h).1)
  number_by_sight (new_value n) h = ap pos (alike.new_same n (and_parts (nat_lt n 256) (s.new n) h).1)
  number_by_sight (sum a b) h =
      let both = and_parts (number_sees s a) (number_sees s b) h in ap₂ (λ x y. x +ℤ y) (number_by_sight a both.0) (number_by_sight b both.1)
  number_by_sight (difference a b) h =
      let both = and_parts (number_sees s a) (number_sees s b) h in ap₂ (λ x y. x -ℤ y) (number_by_sight a both.0) (number_by_sight b both.1)

  pub truth_by_sight : (p : Truth) → truth_sees s p ≡ true → truth_value p old new ≡ truth_value p old' new'
  truth_by_sight (equal a b) h =
      let both = and_parts (number_sees s a) (number_sees s b) h in ap₂ eqZ (number_by_sight a both.0) (number_by_sight b both.1)
  truth_by_sight (less a b) h =
      let both = and_parts (number_sees s a) (number_sees s b) h in ap₂ int_lt (number_by_sight a both.0) (number_by_sight b both.1)
  truth_by_sight (negation p) h = ap not (truth_by_sight p h)
  truth_by_sight (conjunction p q) h =
      let both = and_parts (truth_sees s p) (truth_sees s q) h in ap₂ (λ x y. x && y) (truth_by_sight p both.0) (truth_by_sight q both.1)
  truth_by_sight (disjunction p q) h =
      let both = and_parts (truth_sees s p) (truth_sees s q) h in ap₂ (λ x y. x || y) (truth_by_sight p both.0) (truth_by_sight q both.1)
  truth_by_sight always h = refl
