-- Outlines that fit each other, in any order.
use Rattle.std.proofs.Common.{◌≡◌, ℕ, true, false, not, ◌&&◌, eqb, ◌⊎◌, is_some, None, sym, refl, ap, ◌∙◌, inl, inr, arith}
use Rattle.std.proofs.lemmas.Bool.{true≢false, and_from, and_cases, and_left, and_right, cases_Bool, cond_both, cond-true, eqb-true, eq-eqb, not-false, not_from_true, or_from, or_parts}
use Rattle.model.specs.Meanings.{OutlineFacts, Meaning}
use Rattle.composition.proofs.Clashes.{clash_flip, clash_regroup, clash_none}
use Rattle.composition.proofs.Faults.{no_fault}
use Rattle.composition.proofs.Tests.{lowest_absent}
use Rattle.composition.specs.Allowed.{Fits}
use Rattle.composition.specs.laws.Faults.{none_from, Joins}
use Rattle.composition.specs.Faults.{clash, clashes, differs, fault_of_joined}
use Rattle.composition.specs.laws.Outlines.{joined_some_left, joined_some_right, joined_some_rest}
use Rattle.composition.specs.Outlines.{joined_kind, joined_tables}

pub fits : (l r : Meaning) → Joins l.outline r.outline → Fits l.outline r.outline
fits l r h =
    record {
      apart = λ n. clear n (cases_Bool (is_some (l.outline.kind n)));
      level = λ n p q. go n p q (and_cases _ _ (lowest_absent (differs l.outline r.outline) 32 h.no_difference n (l.outline_laws.names n p)));
      room = h.room;
    }
  where
    clear : (n : ℕ) → (is_some (l.outline.kind n) ≡ true) ⊎ (is_some (l.outline.kind n) ≡ false) → clash (l.outline.kind n) (r.outline.kind n) ≡ false
    clear n (inl e) = lowest_absent (clashes l.outline r.outline) 32 h.no_clash n (l.outline_laws.names n e)
    clear n (inr e) = ap (λ k. clash k (r.outline.kind n)) (none_from (l.outline.kind n) e) ∙ clash_none (r.outline.kind n)

    go : (n : ℕ) → is_some (l.outline.kind n) ≡ true → is_some (r.outline.kind n) ≡ true →
        ((is_some (l.outline.kind n) && is_some (r.outline.kind n)) ≡ false) ⊎ (not (eqb (l.outline.top n) (r.outline.top n)) ≡ false) → l.outline.top n ≡ r.outline.top n
    go n p q (inl e) = absurd (true≢false (sym (and_from (is_some (l.outline.kind n)) (is_some (r.outline.kind n)) p q) ∙ e))
    go n p q (inr e) = eqb-true (l.outline.top n) (r.outline.top n) (not-false (eqb (l.outline.top n) (r.outline.top n)) e)

pub join_sound : (l r : OutlineFacts) → l.fault ≡ None → r.fault ≡ None → Fits l r → fault_of_joined l r ≡ None
join_sound l r p q h = no_fault l r p q (λ n _. h.apart n) (λ n _. go n (cases_Bool (is_some (l.kind n))) (cases_Bool (is_some (r.kind n)))) h.room
  where
    go : (n : ℕ) → (is_some (l.kind n) ≡ true) ⊎ (is_some (l.kind n) ≡ false) → (is_some (r.kind n) ≡ true) ⊎ (is_some (r.kind n) ≡ false) → differs l r n ≡ false
    go n (inl e) (inl f) = and_right (is_some (l.kind n) && is_some (r.kind n)) (not (eqb (l.top n) (r.top n))) (not_from_true (eqb (l.top n) (r.top n)) (eq-eqb (l.top n) (r.top n) (h.level n e f)))
    go n (inl e) (inr f) = and_left (is_some (l.kind n) && is_some (r.kind n)) (not (eqb (l.top n) (r.top n))) (and_right (is_some (l.kind n)) (is_some (r.kind n)) f)
    go n (inr e) f = and_left (is_some (l.kind n) && is_some (r.kind n)) (not (eqb (l.top n) (r.top n))) (and_left (is_some (l.kind n)) (is_some (r.kind n)) e)

pub fits_flip : (l r : OutlineFacts) → Fits l r → Fits r l
fits_flip l r h =
    record {
      apart = λ n. clash_flip (r.kind n) (l.kind n) ∙ h.apart n;
      level = λ n p q. sym (h.level n q p);
      room = omega (arith, h.room);
    }

-- the join has the top of each part's name
module _ (l r : OutlineFacts) (h : Fits l r) (n : ℕ) where
  pub top_left : is_some (l.kind n) ≡ true → (joined_tables l r).top n ≡ l.top n
  top_left e = cond-true (is_some (l.kind n)) (l.top n) (r.top n) e

  pub top_right : is_some (r.kind n) ≡ true → (joined_tables l r).top n ≡ r.top n
  top_right e = cond_both (is_some (l.kind n)) (l.top n) (r.top n) (λ t. t ≡ r.top n) (λ f. h.level n f e) (λ f. refl)

-- three that fit in one grouping fit in the other
module _ (l m r : OutlineFacts) where
  pub fits_regroup : Fits l m → Fits (joined_tables l m) r → Fits m r × Fits l (joined_tables m r)
  fits_regroup p q = (
    record { apart = λ n. (clear n).0; level = λ n e f. sym (top_right l m p n e) ∙ q.level n (joined_some_right (l.kind n) (m.kind n) e) f; room = omega (arith, q.room) },
    record {
      apart = λ n. (clear n).1;
      level = λ n e f.
          cond_both (is_some (m.kind n)) (m.top n) (r.top n) (λ t. l.top n ≡ t) (λ g. p.level n e g)
          (λ g. sym (top_left l m p n e) ∙ q.level n (joined_some_left (l.kind n) (m.kind n) e) (joined_some_rest (m.kind n) (r.kind n) f g));
      room = omega (arith, q.room);
    },
  )
    where
      clear : (n : ℕ) → (clash (m.kind n) (r.kind n) ≡ false) × (clash (l.kind n) (joined_kind (m.kind n) (r.kind n)) ≡ false)
      clear n =
          or_parts (clash (m.kind n) (r.kind n)) (clash (l.kind n) (joined_kind (m.kind n) (r.kind n)))
          (sym (clash_regroup (l.kind n) (m.kind n) (r.kind n)) ∙ or_from (clash (l.kind n) (m.kind n)) (clash (joined_kind (l.kind n) (m.kind n)) (r.kind n)) (p.apart n) (q.apart n))

  pub fits_regroup_back : Fits m r → Fits l (joined_tables m r) → Fits l m × Fits (joined_tables l m) r
  fits_regroup_back p q = (
    record { apart = λ n. (clear n).0; level = λ n e f. q.level n e (joined_some_left (m.kind n) (r.kind n) f) ∙ top_left m r p n f; room = omega (arith, q.room) },
    record {
      apart = λ n. (clear n).1;
      level = λ n e f.
          cond_both (is_some (l.kind n)) (l.top n) (m.top n) (λ t. t ≡ r.top n)
          (λ g. q.level n g (joined_some_right (m.kind n) (r.kind n) f) ∙ top_right m r p n f)
          (λ g. p.level n (joined_some_rest (l.kind n) (m.kind n) e g) f);
      room = omega (arith, q.room);
    },
  )
    where
      clear : (n : ℕ) → (clash (l.kind n) (m.kind n) ≡ false) × (clash (joined_kind (l.kind n) (m.kind n)) (r.kind n) ≡ false)
      clear n =
          or_parts (clash (l.kind n) (m.kind n)) (clash (joined_kind (l.kind n) (m.kind n)) (r.kind n))
          (clash_regroup (l.kind n) (m.kind n) (r.kind n) ∙ or_from (clash (m.kind n) (r.kind n)) (clash (l.kind n) (joined_kind (m.kind n) (r.kind n))) (p.apart n) (q.apart n))
