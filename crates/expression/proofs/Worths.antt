-- What expressions are worth, by their operators.
use Rattle.std.proofs.Common.{◌≡◌, ℕ, suc, ◌+◌, ◌*◌, ◌^◌, ◌≤◌, max, Bool, true, false, eqb, leb, List, ℤ, pos, negsuc, ◌+ℤ◌, ◌-ℤ◌, Some, None, Option, sym, refl, ap, ◌∙◌, subst, ap₂, pow-suc, arith, lit≤, pow_mono, w16, SFits, to_z, of_z}
use lib.Signed.{lt_z}
use borrow.Author.Differences.{up, down, ints}
use Rattle.std.proofs.lemmas.Int.{to_z-of_z}
use Rattle.std.proofs.lemmas.Bool.{and_parts, leb-true, eqb-true, eqb-false, eq-eqb, ne_eqb}
use Rattle.language.specs.laws.Expressions.{number_read, leaves, number_bounded}
use Rattle.language.specs.Expressions.{Number, constant, old_value, new_value, sum, difference, number_levels, eqZ, number_sees, byte_at, Reading, good, bad, after, judged, good_byte, read_byte, as_constant, as_name, one, two, read_number}
use Rattle.model.specs.Meanings.{AreBytes}
use Rattle.model.specs.States.{value}
use Rattle.expression.specs.Evaluation.{everything, valued, number_worth, pair, pair_worth, one_byte, itself, byte_worth, name_worth}

-- one byte
pub constant_worth : (old new bs : List ℕ) (k : ℕ) → byte_worth bs k ≡ valued (number_worth old new) (read_byte as_constant bs k)
constant_worth old new bs k = go (byte_at bs k)
  where
    go : (o : Option ℕ) → one_byte itself k o ≡ valued (number_worth old new) (good_byte (judged as_constant o) k)
    go None = refl
    go (Some b) = refl

pub old_worth : (old new bs : List ℕ) (k : ℕ) → name_worth old bs k ≡ valued (number_worth old new) (read_byte (as_name old_value everything.old) bs k)
old_worth old new bs k = go (byte_at bs k)
  where
    go : (o : Option ℕ) → one_byte (value old) k o ≡ valued (number_worth old new) (good_byte (judged (as_name old_value everything.old) o) k)
    go None = refl
    go (Some b) = refl

pub new_worth : (old new bs : List ℕ) (k : ℕ) → name_worth new bs k ≡ valued (number_worth old new) (read_byte (as_name new_value everything.new) bs k)
new_worth old new bs k = go (byte_at bs k)
  where
    go : (o : Option ℕ) → one_byte (value new) k o ≡ valued (number_worth old new) (good_byte (judged (as_name new_value everything.new) o) k)
    go None = refl
    go (Some b) = refl

pub some_none : {A P : Type 0} (x : A) → Some x ≡ None → P
some_none x e = let z : ◌≡◌ {A = ℕ} 0 1 = cc in absurd (omega arith)

-- the parts of equal pairs
pub same_value : {V : Type 0} (v w : V) (i j : ℕ) → ◌≡◌ {A = Option (V × ℕ)} (Some (v, i)) (Some (w, j)) → v ≡ w
same_value {V} v w i j e = let p : ◌≡◌ {A = V × ℕ} (v, i) (w, j) = cc in ap (λ x. x.0) p

pub same_end : {V : Type 0} (v w : V) (i j : ℕ) → ◌≡◌ {A = Option (V × ℕ)} (Some (v, i)) (Some (w, j)) → i ≡ j
same_end {V} v w i j e = let p : ◌≡◌ {A = V × ℕ} (v, i) (w, j) = cc in ap (λ x. x.1) p

-- one operand: f tells what it is worth, g what they make, h how the one comes from the other
module _ {X Y V W : Type 0} (f : X → V) (g : Y → W) (make : X → Y) (h : V → W) (law : (x : X) → g (make x) ≡ h (f x)) (operand : ℕ → Reading X) where
  pub one_none : (k : ℕ) → None ≡ valued f (operand k) → None ≡ valued g (one make operand k)
  one_none k e = go (operand k) e
    where
      go : (r : Reading X) → None ≡ valued f r → None ≡ valued g (after r (λ a end. good (make a) end))
      go (bad place) e = refl
      go (good x end) e = some_none (f x, end) (sym e)

  pub one_worth : (k : ℕ) (v : V) (end : ℕ) → Some (v, end) ≡ valued f (operand k) → Some (h v, end) ≡ valued g (one make operand k)
  one_worth k v end e = go (operand k) e
    where
      go : (r : Reading X) → Some (v, end) ≡ valued f r → Some (h v, end) ≡ valued g (after r (λ a end. good (make a) end))
      go (bad place) e = some_none (v, end) e
      go (good x j) e =
          ap₂ (λ a b. Some (a, b)) (ap h (same_value v (f x) end j e) ∙ sym (law x)) (same_end v (f x) end j e)

-- the two of a pair, each where it was read
pub pair_parts : {X V : Type 0} (f : X → V) (operand : ℕ → Reading X) (k : ℕ) (v w : V) (end : ℕ) → Some ((v, w), end) ≡ valued (pair_worth f) (two pair operand k) → (next : ℕ) × (Some (v, next) ≡ valued f (operand k)) × (Some (w, end) ≡ valued f (operand next))
pair_parts {X} {V} f operand k v w end e = go (operand k) refl e
  where
    then : (x : X) (j : ℕ) → operand k ≡ good x j → (r : Reading X) → operand j ≡ r → Some ((v, w), end) ≡ valued (pair_worth f) (after r (λ y end. good (pair x y) end)) → (next : ℕ) × (Some (v, next) ≡ valued f (operand k)) × (Some (w, end) ≡ valued f (operand next))
    then x j h (bad place) g e = some_none ((v, w), end) e
    then x j h (good y i) g e =
        let both = same_value (v, w) (f x, f y) end i e in
        (j, ap (λ a. Some (a, j)) (ap (λ p. p.0) both) ∙ sym (ap (valued f) h), ap₂ (λ a b. Some (a, b)) (ap (λ p. p.1) both) (same_end (v, w) (f x, f y) end i e) ∙ sym (ap (valued f) g))

    go : (r : Reading X) → operand k ≡ r → Some ((v, w), end) ≡ valued (pair_worth f) (after r (λ a. one (pair a) operand)) → (next : ℕ) × (Some (v, next) ≡ valued f (operand k)) × (Some (w, end) ≡ valued f (operand next))
    go (bad place) h e = some_none ((v, w), end) e
    go (good x j) h e = then x j h (operand j) refl e

-- two operands that were read as a pair: g tells what is made of them, h how it comes from what they are worth
module _ {X Y V W : Type 0} (f : X → V) (g : Y → W) (make : X → X → Y) (h : V → V → W) (law : (x y : X) → g (make x y) ≡ h (f x) (f y)) (operand : ℕ → Reading X) (k : ℕ) where
  pub two_none : None ≡ valued (pair_worth f) (two pair operand k) → None ≡ valued g (two make operand k)
  two_none e = go (operand k) e
    where
      then : (x : X) (r : Reading X) → None ≡ valued (pair_worth f) (after r (λ a end. good (pair x a) end)) → None ≡ valued g (after r (λ a end. good (make x a) end))
      then x (bad place) e = refl
      then x (good y end) e = some_none (pair_worth f (x, y), end) (sym e)

      go : (r : Reading X) → None ≡ valued (pair_worth f) (after r (λ a. one (pair a) operand)) → None ≡ valued g (after r (λ a. one (make a) operand))
      go (bad place) e = refl
      go (good x j) e = then x (operand j) e

  pub two_worth : (v w : V) (end : ℕ) → Some ((v, w), end) ≡ valued (pair_worth f) (two pair operand k) → Some (h v w, end) ≡ valued g (two make operand k)
  two_worth v w end e = go (operand k) e
    where
      then : (x : X) (r : Reading X) → Some ((v, w), end) ≡ valued (pair_worth f) (after r (λ y end. good (pair x y) end)) → Some (h v w, end) ≡ valued g (after r (λ y end. good (make x y) end))
      then x (bad place) e = some_none ((v, w), end) e
      then x (good y j) e =
          let both = same_value (v, w) (pair_worth f (x, y)) end j e in
          ap₂ (λ t j. Some (t, j)) (ap₂ h (ap (λ p. p.0) both) (ap (λ p. p.1) both) ∙ sym (law x y)) (same_end (v, w) (pair_worth f (x, y)) end j e)

      go : (r : Reading X) → Some ((v, w), end) ≡ valued (pair_worth f) (after r (λ a. one (pair a) operand)) → Some (h v w, end) ≡ valued g (after r (λ a. one (make a) operand))
      go (bad place) e = some_none ((v, w), end) e
      go (good x j) e = then x (operand j) e

-- each level doubles how many constants and names a number can hold
doubled : (la lb x y : ℕ) → 2 * x ≤ 2 ^ la → 2 * y ≤ 2 ^ lb → 2 * (x + y) ≤ 2 ^ suc (max la lb)
doubled la lb x y p q =
    let left : la ≤ max la lb = omega arith in let right : lb ≤ max la lb = omega arith in
    omega (arith, pow-suc 2 (max la lb), pow_mono left, pow_mono right)

leaves_few : (e : Number) → 2 * leaves e ≤ 2 ^ number_levels e
leaves_few (constant v) = lit≤ tt
leaves_few (old_value n) = lit≤ tt
leaves_few (new_value n) = lit≤ tt
leaves_few (sum a b) = doubled (number_levels a) (number_levels b) (leaves a) (leaves b) (leaves_few a) (leaves_few b)
leaves_few (difference a b) = doubled (number_levels a) (number_levels b) (leaves a) (leaves b) (leaves_few a) (leaves_few b)

-- a number of seven levels is at most 64 · 255, so two of them can be added or subtracted in 16 bits
pub record Room (z : ℤ) : Type 0 where
  pub high : up z ≤ down z + 16320
  pub low : down z ≤ up z + 16320

pub room : (l : ℕ) (bs old new : List ℕ) (k : ℕ) (z : ℤ) (end : ℕ) → l ≤ 7 → AreBytes (value old) → AreBytes (value new) → Some (z, end) ≡ valued (number_worth old new) (read_number l everything bs k) → Room z
room l bs old new k z end few p q e = go (read_number l everything bs k) refl e
  where
    go : (r : Reading Number) → read_number l everything bs k ≡ r → Some (z, end) ≡ valued (number_worth old new) r → Room z
    go (bad place) h e = some_none (z, end) e
    go (good x j) h e =
        let same = same_value z (number_worth old new x) end j e in
        let parts = and_parts (leb (number_levels x) l) (number_sees everything x) (number_read l everything bs k x j h).passes in
        let under : number_levels x ≤ 7 = omega (arith, leb-true (number_levels x) l parts.0) in
        let held = number_bounded everything x (value old) (value new) parts.1 p q in
        let most : leaves x ≤ 64 = omega (arith, leaves_few x, pow_mono under) in
        subst Room (sym same) (record { high = omega (arith, held.high, held.low); low = omega (arith, held.high, held.low) })

-- of both numbers of a pair
pub rooms : (l : ℕ) (bs old new : List ℕ) (k : ℕ) (a b : ℤ) (end : ℕ) → l ≤ 7 → AreBytes (value old) → AreBytes (value new) → Some ((a, b), end) ≡ valued (pair_worth (number_worth old new)) (two pair (read_number l everything bs) k) → Room a × Room b
rooms l bs old new k a b end few p q e =
    let parts = pair_parts (number_worth old new) (read_number l everything bs) k a b end e in
    (room l bs old new k a parts.0 few p q parts.1, room l bs old new parts.0 b end few p q parts.2)

-- numbers of 16 bits, as they are computed
pub room_fits : (z : ℤ) → Room z → SFits w16 z
room_fits (pos n) r = record { sfits = omega (arith, r.high, r.low) }
room_fits (negsuc n) r = record { sfits = omega (arith, r.high, r.low) }

small : (z : ℤ) → up z ≤ down z + 32640 → down z ≤ up z + 32640 → SFits w16 z
small (pos n) p q = record { sfits = omega (arith, p, q) }
small (negsuc n) p q = record { sfits = omega (arith, p, q) }

pub sum_fits : (a b : ℤ) → Room a → Room b → SFits w16 (to_z w16 (of_z w16 a) +ℤ to_z w16 (of_z w16 b))
sum_fits a b p q = let f = room_fits a p in let g = room_fits b q in rw (to_z-of_z w16 a f, to_z-of_z w16 b g) (small (a +ℤ b) (omega (arith, ints, p.high, q.high)) (omega (arith, ints, p.low, q.low)))

pub difference_fits : (a b : ℤ) → Room a → Room b → SFits w16 (to_z w16 (of_z w16 a) -ℤ to_z w16 (of_z w16 b))
difference_fits a b p q = let f = room_fits a p in let g = room_fits b q in rw (to_z-of_z w16 a f, to_z-of_z w16 b g) (small (a -ℤ b) (omega (arith, ints, p.high, q.low)) (omega (arith, ints, p.low, q.high)))

pub sum_is : (a b : ℤ) → Room a → Room b → to_z w16 (of_z w16 (to_z w16 (of_z w16 a) +ℤ to_z w16 (of_z w16 b))) ≡ a +ℤ b
sum_is a b p q = to_z-of_z w16 _ (sum_fits a b p q) ∙ ap₂ (λ x y. x +ℤ y) (to_z-of_z w16 a (room_fits a p)) (to_z-of_z w16 b (room_fits b q))

pub difference_is : (a b : ℤ) → Room a → Room b → to_z w16 (of_z w16 (to_z w16 (of_z w16 a) -ℤ to_z w16 (of_z w16 b))) ≡ a -ℤ b
difference_is a b p q = to_z-of_z w16 _ (difference_fits a b p q) ∙ ap₂ (λ x y. x -ℤ y) (to_z-of_z w16 a (room_fits a p)) (to_z-of_z w16 b (room_fits b q))

pub equal_is : (a b : ℤ) → SFits w16 a → SFits w16 b → eqb (of_z w16 a) (of_z w16 b) ≡ eqZ a b
equal_is (pos a) (pos b) p q = refl
equal_is (pos a) (negsuc b) p q = ne_eqb _ _ (λ e. omega (arith, p.sfits, q.sfits, e))
equal_is (negsuc a) (pos b) p q = ne_eqb _ _ (λ e. omega (arith, p.sfits, q.sfits, e))
equal_is (negsuc a) (negsuc b) p q = same (eqb a b) refl
  where
    same : (t : Bool) → eqb a b ≡ t → eqb (of_z w16 (negsuc a)) (of_z w16 (negsuc b)) ≡ t
    same true e = ap (λ n. eqb (of_z w16 (negsuc n)) (of_z w16 (negsuc b))) (eqb-true a b e) ∙ eq-eqb _ _ refl
    same false e = ne_eqb _ _ (λ h. eqb-false a b e (omega (arith, p.sfits, q.sfits, h)))

pub less_is : (a b : ℤ) → SFits w16 a → SFits w16 b → lt_z (to_z w16 (of_z w16 a)) (to_z w16 (of_z w16 b)) ≡ lt_z a b
less_is a b p q = ap₂ lt_z (to_z-of_z w16 a p) (to_z-of_z w16 b q)
