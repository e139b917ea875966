-- Atoms that await each other through others, one step at a time.
use Rattle.std.proofs.Common.{◌≡◌, ℕ, zero, suc, ◌+◌, ◌<◌, ◌≤◌, Bool, true, false, ◌&&◌, ◌||◌, ltb, sym, refl, ap, ◌∙◌, ap₂, ⊎_elim, add-one, arith}
use Rattle.std.proofs.Math.Bool.{or-false}
use Rattle.std.proofs.lemmas.Bool.{and_left, and_right, lt-ltb, le-ltb, cases_lt}
use Rattle.model.specs.Meanings.{OutlineFacts}
use Rattle.model.specs.Tests.{some}
use Rattle.units.specs.Sealing.{awaits_atom, awaits_through, circular}
use Rattle.composition.proofs.Tests.{some_same}
use Rattle.sealing.specs.Awaits.{steps_to, leads_to, reaches}

pub some_never : (n : ℕ) → some (λ _. false) n ≡ false
unfolding some
some_never zero = refl
some_never (suc n) = some_never n

pub and_given : (x y : Bool) → x ≡ true → (x && y) ≡ y
and_given x y e = ap (λ v. v && y) e

module _ (awaits : ℕ → ℕ → Bool) (atoms goal : ℕ) where
  -- those that await the goal through at most so many others, and are atoms
  abbrev pub behind : ℕ → ℕ → Bool
  behind others a = ltb a atoms && reaches awaits atoms others a goal

  pub behind_none : (none : ℕ → Bool) → ((a : ℕ) → none a ≡ false) → (a : ℕ) → (ltb a atoms && leads_to awaits atoms none goal a) ≡ behind 0 a
  unfolding reaches
  behind_none none h a =
      ap (λ v. ltb a atoms && (awaits a goal || v)) (some_same (steps_to awaits none a) (λ _. false) atoms (λ k _. and_right (awaits a k) (none k) (h k)) ∙ some_never atoms)
      ∙ ap (λ v. ltb a atoms && v) (or-false (awaits a goal))

  pub behind_more : (others : ℕ) (before : ℕ → Bool) → ((a : ℕ) → before a ≡ behind others a) → (a : ℕ) → (ltb a atoms && leads_to awaits atoms before goal a) ≡ behind (others + 1) a
  unfolding reaches
  behind_more others before h a =
      rw add-one (ap (λ v. ltb a atoms && (awaits a goal || v)) (some_same (steps_to awaits before a) (λ c. awaits a c && reaches awaits atoms others c goal) atoms (λ k l. ap (λ v. awaits a k && v) (h k ∙ and_given (ltb k atoms) (reaches awaits atoms others k goal) (lt-ltb k atoms l)))))

-- a table that is right on the atoms tells rightly who awaits whom through others
pub through_same : (o : OutlineFacts) (awaits : ℕ → ℕ → Bool) → ((a b : ℕ) → a < o.atoms → b < o.atoms → awaits a b ≡ awaits_atom o a b) →
    (others a b : ℕ) → a < o.atoms → b < o.atoms → reaches awaits o.atoms others a b ≡ awaits_through o others a b
unfolding reaches awaits_through
through_same o awaits h zero a b l m = h a b l m
through_same o awaits h (suc others) a b l m =
    ap₂ ◌||◌ (h a b l m)
    (some_same (λ c. awaits a c && reaches awaits o.atoms others c b) (λ c. awaits_atom o a c && awaits_through o others c b) o.atoms (λ c k. ap₂ ◌&&◌ (h a c l k) (through_same o awaits h others c b k m)))

-- no set of atoms lacks a number for an atom
pub gathered : (n : ℕ) → n ≤ 16 → (a : ℕ) (b : Bool) → (ltb a 16 && (ltb a n && b)) ≡ (ltb a n && b)
gathered n few a b = ⊎_elim (λ h. and_given (ltb a 16) (ltb a n && b) (lt-ltb a 16 (omega arith))) (λ h. and_right (ltb a 16) (ltb a n && b) (none h) ∙ sym (none h)) (cases_lt a n)
  where
    none : n ≤ a → (ltb a n && b) ≡ false
    none h = and_left (ltb a n) b (le-ltb a n h)

-- so it tells which atoms are circular
pub circular_by : (o : OutlineFacts) (awaits : ℕ → ℕ → Bool) → ((a b : ℕ) → a < 16 → b < 16 → awaits a b ≡ awaits_atom o a b) → o.atoms ≤ 16 →
    (n : ℕ) → n ≡ o.atoms → (a : ℕ) → a < n → (ltb a n && reaches awaits n n a a) ≡ circular o a
circular_by o awaits h few n e a l =
    and_given (ltb a n) (reaches awaits n n a a) (lt-ltb a n l)
    ∙ ap (λ k. reaches awaits k k a a) e
    ∙ through_same o awaits (λ x y p q. h x y (omega arith) (omega arith)) o.atoms a a (omega arith) (omega arith)
