-- Limits and counts of things of which there are so many.
use Rattle.std.proofs.Common.{◌≡◌, ℕ, ◌≤◌, ◌↔◌, sym, ◌∙◌, arith}
use Rattle.theory.proofs.Members.{pigeonhole, count_unique}
use Rattle.reactive.specs.Counts.{AtMost, Many}

module _ {A : Type 0} {P : A → Type 0} {n : ℕ} (many : Many P n) where
  -- no more than k, where they are no more
  pub at_most : (k : ℕ) → n ≤ k → AtMost P k
  at_most k h xs d each = omega (arith, h, many.count, pigeonhole xs many.all d (λ x m. many.exactly.complete x (each x m)))

  pub at_most_back : (k : ℕ) → AtMost P k → n ≤ k
  at_most_back k h = omega (arith, many.count, h many.all many.distinct many.exactly.sound)

  -- only one number is their count
  pub many_unique : (k : ℕ) → Many P k → k ≡ n
  many_unique k other = sym other.count ∙ count_unique other.distinct many.distinct other.exactly many.exactly ∙ many.count

  -- what is had by the same things
  pub many_same : {Q : A → Type 0} → ((x : A) → P x ↔ Q x) → Many Q n
  many_same same =
      record {
        all = many.all;
        distinct = many.distinct;
        exactly = record { complete = λ x q. many.exactly.complete x ((same x).1 q); sound = λ x m. (same x).0 (many.exactly.sound x m) };
        count = many.count;
      }
