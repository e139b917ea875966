use Rattle.std.proofs.Common.{◌≡◌, ℕ, suc, Bool, true, false, ◌&&◌, refl, sym, ◌∙◌, arith}
use Rattle.model.specs.Tests.{every}
use Rattle.samples.proofs.asking.all_bytes.Goals as goal

every_more : (p : ℕ → Bool) (n : ℕ) → every p (suc n) ≡ (p n && every p n)
unfolding every
every_more p n = refl

both : (a b r : Bool) → a ≡ true → r ≡ b → r ≡ (a && b)
both a b r h e = rw h e

neither : (a b r : Bool) → r ≡ false → r ≡ a → r ≡ (a && b)
neither a b r h e = h ∙ rw (sym e ∙ h) refl

pub returns-then-test : goal.returns-then-test
returns-then-test g c = λ p h.
    both (p 255) (every p 255) _ (sym (h 255 _ (omega arith) c.test.ensures) ∙ c.if-test.true) (c.all_below.ensures p (λ k b l a. h k b (omega arith) a))
    ∙ sym (every_more p 255)

pub returns-else-test : goal.returns-else-test
returns-else-test g c = λ p h.
    neither (p 255) (every p 255) _ c.if-test.false (h 255 _ (omega arith) c.test.ensures)
    ∙ sym (every_more p 255)
