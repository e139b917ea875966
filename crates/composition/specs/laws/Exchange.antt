-- The exchange of two names undoes itself.
use Rattle.std.specs.Prelude.{◌≡◌, ℕ, ◌<◌, cond, ◌⊎◌, ◌==◌, ◌≢◌, refl}
use Rattle.std.proofs.Common.{inl, inr, sym, subst, ◌∙◌}
use Rattle.std.proofs.lemmas.Bool.{cases_eq, cond-true, cond-false, eq-eqb, ne_eqb}
use Rattle.model.specs.Exchange.{exchange}

module _ (a b : ℕ) where
  pub exchange_old : exchange a b a ≡ b
  exchange_old = cond-true (a == a) b (cond (a == b) a a) (eq-eqb a a refl)

  pub exchange_new : exchange a b b ≡ a
  exchange_new = go (cases_eq b a)
    where
      go : (b ≡ a) ⊎ (b ≢ a) → exchange a b b ≡ a
      go (inl e) = cond-true (b == a) b (cond (b == b) a b) (eq-eqb b a e) ∙ e
      go (inr e) = cond-false (b == a) b (cond (b == b) a b) (ne_eqb b a e) ∙ cond-true (b == b) a b (eq-eqb b b refl)

  pub exchange_other : (n : ℕ) → (n ≢ a) → (n ≢ b) → exchange a b n ≡ n
  exchange_other n p q = cond-false (n == a) b (cond (n == b) a n) (ne_eqb n a p) ∙ cond-false (n == b) a n (ne_eqb n b q)

  -- what holds of the two names exchanged and of each other one as it is holds of each name exchanged
  pub exchange_both : (P : ℕ → ℕ → Type 0) → P a b → P b a → ((n : ℕ) → (n ≢ a) → (n ≢ b) → P n n) → (n : ℕ) → P n (exchange a b n)
  exchange_both P old new other n = go (cases_eq n a) (cases_eq n b)
    where
      go : (n ≡ a) ⊎ (n ≢ a) → (n ≡ b) ⊎ (n ≢ b) → P n (exchange a b n)
      go (inl e) x = subst (λ k. P k (exchange a b k)) (sym e) (subst (P a) (sym exchange_old) old)
      go (inr d) (inl e) = subst (λ k. P k (exchange a b k)) (sym e) (subst (P b) (sym exchange_new) new)
      go (inr d) (inr e) = subst (P n) (sym (exchange_other n d e)) (other n d e)

pub exchange_twice : (a b n : ℕ) → exchange a b (exchange a b n) ≡ n
exchange_twice a b = exchange_both a b (λ n k. exchange a b k ≡ n) (exchange_new a b) (exchange_old a b) (exchange_other a b)

pub exchange_flip : (a b n : ℕ) → exchange b a n ≡ exchange a b n
exchange_flip a b = exchange_both a b (λ n k. exchange b a n ≡ k) (exchange_new b a) (exchange_old b a) (λ n d e. exchange_other b a n e d)

pub exchange_within : (m a b n : ℕ) → a < m → b < m → n < m → exchange a b n < m
exchange_within m a b n p q h = exchange_both a b (λ n k. n < m → k < m) (λ _. q) (λ _. p) (λ _ _ _ l. l) n h

pub exchange_from : (m a b n : ℕ) → a < m → b < m → exchange a b n < m → n < m
exchange_from m a b n p q h = subst (λ k. k < m) (exchange_twice a b n) (exchange_within m a b (exchange a b n) p q h)
