-- Sets of names in which two are exchanged.
use Rattle.std.proofs.Common.{◌≡◌, ℕ, ◌<◌, ◌≤◌, false, ◌&&◌, ltb, ◌⊎◌, sym, ap, ◌∙◌, inl, inr, arith}
use Rattle.std.proofs.lemmas.List.{get_or_past}
use Rattle.std.proofs.lemmas.Bool.{lt-ltb, le-ltb, cases_lt}
use Rattle.model.specs.Exchange.{exchange}
use Rattle.composition.specs.laws.Exchange.{exchange_other}
use Rattle.model.specs.Sets.{has}
use Rattle.model.specs.Sets.{NameSet}

-- no set has more than the 32 names, whichever two of them are exchanged
pub gathered_all : (names : NameSet) (a b : ℕ) → a < 32 → b < 32 → (n : ℕ) → (ltb n 32 && has names (exchange a b n)) ≡ has names (exchange a b n)
gathered_all names a b p q n = go (cases_lt n 32)
  where
    go : (n < 32) ⊎ (32 ≤ n) → (ltb n 32 && has names (exchange a b n)) ≡ has names (exchange a b n)
    go (inl h) = ap (λ t. t && has names (exchange a b n)) (lt-ltb n 32 h)
    go (inr h) = ap (λ t. t && has names (exchange a b n)) (le-ltb n 32 h) ∙ sym (ap (has names) (exchange_other a b n (λ e. omega arith) (λ e. omega arith)) ∙ get_or_past names.marks n false (omega (arith, names.full)))
