-- What the tests on states tell, and what passes them.
use Rattle.std.proofs.Common.{◌≡◌, ℕ, ◌<◌, ◌≤◌, Bool, true, false, eqb, leb, List, length, ℤ, pos, negsuc, sym, refl, ap, subst, ⊎_elim, arith}
use Rattle.std.proofs.lemmas.List.{get_or_past}
use Rattle.std.proofs.lemmas.Bool.{and_from, and_parts, eq-eqb, eqb-true, leb-true, le-leb, both_ways, cases_lt}
use Rattle.model.specs.Meanings.{Valuation, OutlineFacts, Meaning}
use Rattle.model.specs.States.{value, is_state, is_value, takes, yields}
use Rattle.model.specs.Tests.{every, some, implies}
use Rattle.model.specs.declared.Round.{Round}
use Rattle.model.proofs.Bounded.{every_decides, some_decides}

pub implies_parts : (p q : Bool) → implies p q ≡ true → p ≡ true → q ≡ true
implies_parts true q h e = h
implies_parts false q h e = absurd (both_ways false refl e)

pub implies_from : (p q : Bool) → (p ≡ true → q ≡ true) → implies p q ≡ true
implies_from true q f = f refl
implies_from false q f = refl

pub is_value_parts : (z : ℤ) (v : ℕ) → is_value z v ≡ true → z ≡ pos v
is_value_parts (pos x) v h = ap pos (eqb-true x v h)
is_value_parts (negsuc x) v h = absurd (both_ways false refl h)

pub is_value_from : (z : ℤ) (v : ℕ) → z ≡ pos v → is_value z v ≡ true
is_value_from z v e = subst (λ y. is_value y v ≡ true) (sym e) (eq-eqb v v refl)

-- a state of a module
pub record StateOf (o : OutlineFacts) (s : List ℕ) : Type 0 where
  pub long : length s ≡ 32
  pub within : (n : ℕ) → value s n ≤ o.top n

pub state_parts : (o : OutlineFacts) (s : List ℕ) → is_state o s ≡ true → StateOf o s
state_parts o s h =
    let both = and_parts (eqb (length s) 32) (every (λ n. leb (value s n) (o.top n)) 32) h in
    let long : length s ≡ 32 = eqb-true (length s) 32 both.0 in
    let all : (n : ℕ) → n < 32 → leb (value s n) (o.top n) ≡ true = (every_decides (λ n. leb (value s n) (o.top n)) 32).0 both.1 in
    record {
      long = long;
      within = λ n. ⊎_elim (λ b. leb-true (value s n) (o.top n) (all n b)) (λ b. subst (λ v. v ≤ o.top n) (sym (get_or_past s n 0 (omega arith))) (omega arith)) (cases_lt n 32);
    }

pub state_from : (o : OutlineFacts) (s : List ℕ) → length s ≡ 32 → ((n : ℕ) → n < 32 → value s n ≤ o.top n) → is_state o s ≡ true
state_from o s long within =
    and_from (eqb (length s) 32) (every (λ n. leb (value s n) (o.top n)) 32) (eq-eqb (length s) 32 long)
    ((every_decides (λ n. leb (value s n) (o.top n)) 32).1 (λ n b. le-leb (value s n) (o.top n) (within n b)))

-- a choice that leads from old values to new ones
pub record Taken (m : Meaning) (r : Round) (a k : ℕ) (old new : Valuation) : Type 0 where
  pub opened : m.acts.opens r a k old new ≡ true
  pub given : (n : ℕ) → n < 32 → m.outline.controls a n ≡ true → m.acts.gives r a k n old new ≡ pos (new n)

module _ (m : Meaning) (r : Round) where
  module _ (a k : ℕ) (old new : Valuation) where
    agrees : ℕ → Bool
    agrees n = implies (m.outline.controls a n) (is_value (m.acts.gives r a k n old new) (new n))

    pub takes_parts : takes m r a k old new ≡ true → Taken m r a k old new
    unfolding agrees
    takes_parts h =
        let both = and_parts (m.acts.opens r a k old new) (every agrees 32) h in
        record {
          opened = both.0;
          given = λ n b c. is_value_parts _ _ (implies_parts (m.outline.controls a n) _ ((every_decides agrees 32).0 both.1 n b) c);
        }

    pub takes_from : Taken m r a k old new → takes m r a k old new ≡ true
    unfolding agrees
    takes_from t =
        and_from (m.acts.opens r a k old new) (every agrees 32) t.opened
        ((every_decides agrees 32).1 (λ n b. implies_from (m.outline.controls a n) _ (λ c. is_value_from _ _ (t.given n b c))))

  module _ (s t : List ℕ) where
    leads : ℕ → Bool
    leads a = some (λ k. takes m r a k (value s) (value t)) (m.acts.choices r a)

    -- each atom has a choice that leads from s to t
    abbrev pub AllTake : Type 0
    AllTake = (a : ℕ) → a < m.outline.atoms → (k : ℕ) × (k < m.acts.choices r a) × (takes m r a k (value s) (value t) ≡ true)

    pub yields_parts : yields m r s t ≡ true → (is_state m.outline t ≡ true) × AllTake
    unfolding leads
    yields_parts h =
        let both = and_parts (is_state m.outline t) (every leads m.outline.atoms) h in
        (both.0, λ a b. (some_decides (λ k. takes m r a k (value s) (value t)) (m.acts.choices r a)).0 ((every_decides leads m.outline.atoms).0 both.1 a b))

    pub yields_from : is_state m.outline t ≡ true → AllTake → yields m r s t ≡ true
    unfolding leads
    yields_from h all =
        and_from (is_state m.outline t) (every leads m.outline.atoms) h
        ((every_decides leads m.outline.atoms).1 (λ a b. (some_decides (λ k. takes m r a k (value s) (value t)) (m.acts.choices r a)).1 (all a b)))
