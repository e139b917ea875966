-- What the choices of an atom lead to.
use Rattle.std.proofs.Common.{◌≡◌, ℕ, ◌<◌, ◌≤◌, true, ℤ, pos, negsuc, sym, ap, ◌∙◌, arith}
use Rattle.model.specs.Meanings.{Valuation, Alike, Meaning}
use Rattle.model.specs.declared.Round.{Round}
use Rattle.model.specs.declared.Round.TheVariants.{Initial, Update}
use Rattle.model.proofs.States.{Taken}
use Rattle.reactive.specs.Modules.{as_value, choices_of, Leads}

value_back : (z : ℤ) (v : ℕ) → v ≤ 255 → as_value z ≡ v → z ≡ pos v
value_back (pos x) v h e = ap pos e
value_back (negsuc x) v h e = absurd (omega arith)

initial_not_update : Initial ≡ Update → ⊥
initial_not_update e = let z : ◌≡◌ {A = ℕ} 0 1 = cc in omega arith

module _ (m : Meaning) where
  -- an initialization round sees no old values
  pub alike_initially : (a : ℕ) (old new old' new' : Valuation) → ((n : ℕ) → m.outline.awaits a n ≡ true → new n ≡ new' n) → Alike m.outline Initial a old new old' new'
  alike_initially a old new old' new' h = record { awaited = h; read = λ e. absurd (initial_not_update e) }

  module _ (r : Round) (a : ℕ) where
    -- the values that an atom's choices lead from and to, as a relation
    abbrev pub Leading : Valuation → Valuation → Valuation → Type 0
    Leading = Leads (choices_of m.acts a r) (m.outline.controls a)

    pub leading_concerned : (old new t old' new' t' : Valuation) → Alike m.outline r a old new old' new' → ((n : ℕ) → m.outline.controls a n ≡ true → t n ≡ t' n) →
        Leading old new t → Leading old' new' t'
    leading_concerned old new t old' new' t' alike same l =
        record {
          choice = l.choice;
          there = l.there;
          opened = sym (m.choice_laws.opens_by_sight r a l.choice old new old' new' alike) ∙ l.opened;
          given = λ n c. ap as_value (sym (m.choice_laws.gives_by_sight r a l.choice n old new old' new' alike)) ∙ l.given n c ∙ same n c;
        }

    pub leading_from_taken : (k : ℕ) (old new : Valuation) → k < m.acts.choices r a → Taken m r a k old new → Leading old new new
    leading_from_taken k old new h t =
        record {
          choice = k;
          there = h;
          opened = t.opened;
          given = λ n c. ap as_value (t.given n (m.outline_laws.names n (m.outline_laws.controls_known a n c).1) c);
        }

    pub taken_from_leading : (old new : Valuation) → ((n : ℕ) → m.outline.controls a n ≡ true → new n ≤ 255) → (l : Leading old new new) → Taken m r a l.choice old new
    taken_from_leading old new low l = record { opened = l.opened; given = λ n b c. value_back _ (new n) (low n c) (l.given n c) }
