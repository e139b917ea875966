-- Gates work as their atoms' choices have it.
use Rattle.std.proofs.Common.{◌≡◌, ℕ, zero, suc, ◌<◌, ◌≤◌, true, false, ◌⊎◌, List, [], ◌∷◌, ◌++◌, sym, refl, inl, inr, ⊎_elim, arith}
use Rattle.std.proofs.ByRecursion.{All-append}
use Rattle.std.proofs.lemmas.Bool.{both_ways}
use Rattle.std.proofs.lemmas.Bool.Decides.{nat_tests}
use Rattle.std.specs.List.{flat_map, AllByRecursion as All}
use Rattle.model.specs.Meanings.{Valuation}
use Rattle.model.specs.declared.Round.{Round}
use Rattle.model.specs.declared.Round.TheVariants.{Initial, Update}
use Rattle.gates.specs.Behaviour.{Works, Negates, Conjoins, Shows, Stores, WasStored}
use Rattle.gates.specs.Choices.{choice_count, opens_of, gives_of}
use Rattle.gates.specs.Gates.{parts_of, target}
use Rattle.gates.specs.declared.gate.Gate.{Gate}
use Rattle.gates.specs.declared.gate.Gate.TheVariants.{Not, And, Latch}
use Rattle.gates.specs.declared.gate.Part.{Part}
use Rattle.gates.specs.declared.gate.Part.TheVariants.{Inverter, Conjunction, LatchOutput, LatchStore}

-- some choice of the part leads from old values to new ones
pub record Chosen (r : Round) (old new : Valuation) (p : Part) : Type 0 where
  pub choice : ℕ
  pub there : choice < choice_count r p
  pub opens : opens_of r p choice new ≡ true
  pub gives : gives_of r p choice old ≡ new (target p)

-- every value is 0 or 1
abbrev pub Bits : Valuation → Type 0
Bits v = (n : ℕ) → v n ≤ 1

bit : (v : Valuation) → Bits v → (n : ℕ) → (v n ≡ 0) ⊎ (v n ≡ 1)
bit v h n = go (v n) (h n)
  where
    go : (x : ℕ) → x ≤ 1 → (x ≡ 0) ⊎ (x ≡ 1)
    go zero h = inl refl
    go (suc x) h = inr (omega arith)

all_parts : {X : Type 0} (P : X → Type 0) (xs ys : List X) → All P (xs ++ ys) → All P xs × All P ys
all_parts P [] ys h = (tt, h)
all_parts P (x ∷ xs) ys h = let rest = all_parts P xs ys h.1 in ((h.0, rest.0), rest.1)

module _ (r : Round) (old new : Valuation) (bits : Bits new) where
  negates : (a out : ℕ) → Chosen r old new (Inverter a out) → Negates new a out
  negates a out c = go c.choice c.opens c.gives
    where
      go : (k : ℕ) → opens_of r (Inverter a out) k new ≡ true → gives_of r (Inverter a out) k old ≡ new out → Negates new a out
      go zero o g = record { when_off = λ h. sym g; when_on = λ h. grind (arith, nat_tests) }
      go (suc zero) o g = record { when_off = λ h. grind (arith, nat_tests); when_on = λ h. sym g }
      go (suc (suc k)) o g = absurd (both_ways false refl o)

  inverted : (a out : ℕ) → Negates new a out → Chosen r old new (Inverter a out)
  inverted a out h =
      ⊎_elim (λ e. record { choice = 0; there = omega arith; opens = grind (arith, nat_tests); gives = sym (h.when_off e) })
      (λ e. record { choice = 1; there = omega arith; opens = grind (arith, nat_tests); gives = sym (h.when_on e) }) (bit new bits a)

  conjoins : (a b out : ℕ) → Chosen r old new (Conjunction a b out) → Conjoins new a b out
  conjoins a b out c = go c.choice c.opens c.gives
    where
      go : (k : ℕ) → opens_of r (Conjunction a b out) k new ≡ true → gives_of r (Conjunction a b out) k old ≡ new out → Conjoins new a b out
      go zero o g = record { both_on = λ h k. grind (arith, nat_tests); first_off = λ h. sym g; second_off = λ h. sym g }
      go (suc zero) o g = record { both_on = λ h k. grind (arith, nat_tests); first_off = λ h. sym g; second_off = λ h. sym g }
      go (suc (suc zero)) o g = record { both_on = λ h k. sym g; first_off = λ h. grind (arith, nat_tests); second_off = λ h. grind (arith, nat_tests) }
      go (suc (suc (suc k))) o g = absurd (both_ways false refl o)

  conjoined : (a b out : ℕ) → Conjoins new a b out → Chosen r old new (Conjunction a b out)
  conjoined a b out h =
      ⊎_elim (λ e. record { choice = 0; there = omega arith; opens = grind (arith, nat_tests); gives = sym (h.first_off e) })
      (λ e. ⊎_elim (λ f. record { choice = 1; there = omega arith; opens = grind (arith, nat_tests); gives = sym (h.second_off f) })
      (λ f. record { choice = 2; there = omega arith; opens = grind (arith, nat_tests); gives = sym (h.both_on e f) }) (bit new bits b)) (bit new bits a)

module _ (old new : Valuation) (bits : Bits new) where
  shows : (r : Round) (out own : ℕ) → Chosen r old new (LatchOutput out own) → Shows r old new out own
  shows Initial out own c = tt
  shows Update out own c = go c.choice c.opens c.gives
    where
      go : (k : ℕ) → opens_of Update (LatchOutput out own) k new ≡ true → gives_of Update (LatchOutput out own) k old ≡ new out → Shows Update old new out own
      go zero o g = sym g
      go (suc k) o g = absurd (both_ways false refl o)

  shown : (r : Round) (out own : ℕ) → Shows r old new out own → Chosen r old new (LatchOutput out own)
  shown Initial out own h =
      ⊎_elim (λ e. record { choice = 0; there = omega arith; opens = refl; gives = sym e }) (λ e. record { choice = 1; there = omega arith; opens = refl; gives = sym e }) (bit new bits out)
  shown Update out own h = record { choice = 0; there = omega arith; opens = refl; gives = sym h }

  stores : (r : Round) (set reset own : ℕ) → Chosen r old new (LatchStore set reset own) → Stores r old new set reset own
  stores Initial set reset own c = go c.choice c.opens c.gives
    where
      go : (k : ℕ) → opens_of Initial (LatchStore set reset own) k new ≡ true → gives_of Initial (LatchStore set reset own) k old ≡ new own → Stores Initial old new set reset own
      go zero o g = record { set_only = λ h k. sym g; reset_only = λ h k. grind (arith, nat_tests); neither = λ h k. grind (arith, nat_tests) }
      go (suc zero) o g = record { set_only = λ h k. grind (arith, nat_tests); reset_only = λ h k. sym g; neither = λ h k. sym g }
      go (suc (suc zero)) o g = record { set_only = λ h k. grind (arith, nat_tests); reset_only = λ h k. grind (arith, nat_tests); neither = λ h k. sym g }
      go (suc (suc (suc k))) o g = absurd (both_ways false refl o)
  stores Update set reset own c = go c.choice c.opens c.gives
    where
      go : (k : ℕ) → opens_of Update (LatchStore set reset own) k new ≡ true → gives_of Update (LatchStore set reset own) k old ≡ new own → Stores Update old new set reset own
      go zero o g = record { set_only = λ h k. sym g; reset_only = λ h k. grind (arith, nat_tests); neither = λ h k. grind (arith, nat_tests) }
      go (suc zero) o g = record { set_only = λ h k. grind (arith, nat_tests); reset_only = λ h k. sym g; neither = λ h k. grind (arith, nat_tests) }
      go (suc (suc zero)) o g = record { set_only = λ h k. grind (arith, nat_tests); reset_only = λ h k. grind (arith, nat_tests); neither = λ h k. sym g }
      go (suc (suc (suc k))) o g = absurd (both_ways false refl o)

  chosen_store : (r : Round) (set reset own : ℕ) → Stores r old new set reset own → Chosen r old new (LatchStore set reset own)
  chosen_store r set reset own h = go r h (bit new bits set) (bit new bits reset) (bit new bits own)
    where
      setting : (q : Round) → new set ≡ 1 → new own ≡ 1 → Chosen q old new (LatchStore set reset own)
      setting Initial e f = record { choice = 0; there = omega arith; opens = grind (arith, nat_tests); gives = sym f }
      setting Update e f = record { choice = 0; there = omega arith; opens = grind (arith, nat_tests); gives = sym f }

      resetting : (q : Round) → new reset ≡ 1 → new own ≡ 0 → Chosen q old new (LatchStore set reset own)
      resetting Initial e f = record { choice = 1; there = omega arith; opens = grind (arith, nat_tests); gives = sym f }
      resetting Update e f = record { choice = 1; there = omega arith; opens = grind (arith, nat_tests); gives = sym f }

      holding : (q : Round) → new set ≡ 0 → new reset ≡ 0 → WasStored q old own (new own) → Chosen q old new (LatchStore set reset own)
      holding Initial e f s = record { choice = 2; there = omega arith; opens = grind (arith, nat_tests); gives = sym s }
      holding Update e f s = record { choice = 2; there = omega arith; opens = grind (arith, nat_tests); gives = sym s }

      go : (q : Round) → Stores q old new set reset own → (new set ≡ 0) ⊎ (new set ≡ 1) → (new reset ≡ 0) ⊎ (new reset ≡ 1) → (new own ≡ 0) ⊎ (new own ≡ 1) → Chosen q old new (LatchStore set reset own)
      go q s (inl e) (inl f) o = holding q e f (s.neither e f)
      go q s (inl e) (inr f) o = resetting q f (s.reset_only e f)
      go q s (inr e) (inl f) o = setting q e (s.set_only e f)
      go q s (inr e) (inr f) (inl o) = resetting q f o
      go q s (inr e) (inr f) (inr o) = setting q e o

  pub works : (r : Round) (g : Gate) → All (Chosen r old new) (parts_of g) → Works r old new g
  works r (Not a out) h = negates r old new bits a out h.0
  works r (And a b out) h = conjoins r old new bits a b out h.0
  works r (Latch set reset out own) h = (shows r out own h.0, stores r set reset own h.1.0)

  pub worked : (r : Round) (g : Gate) → Works r old new g → All (Chosen r old new) (parts_of g)
  worked r (Not a out) h = (inverted r old new bits a out h, tt)
  worked r (And a b out) h = (conjoined r old new bits a b out h, tt)
  worked r (Latch set reset out own) h = (shown r out own h.0, (chosen_store r set reset own h.1, tt))

  -- of all gates, and of all their parts
  pub all_work : (r : Round) (gs : List Gate) → All (Chosen r old new) (flat_map parts_of gs) → All (Works r old new) gs
  all_work r [] h = tt
  all_work r (g ∷ gs) h =
      let two = all_parts (Chosen r old new) (parts_of g) (flat_map parts_of gs) h in
      (works r g two.0, all_work r gs two.1)

  pub all_worked : (r : Round) (gs : List Gate) → All (Works r old new) gs → All (Chosen r old new) (flat_map parts_of gs)
  all_worked r [] h = tt
  all_worked r (g ∷ gs) h = All-append (Chosen r old new) (parts_of g) (flat_map parts_of gs) (worked r g h.0) (all_worked r gs h.1)
