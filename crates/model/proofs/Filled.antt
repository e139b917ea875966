-- What an array is filled with by a closure that keeps what it captures.
use Rattle.std.proofs.Common.{◌≡◌, ℕ, zero, suc, ◌+◌, ◌<◌, ◌≤◌, List, get_or, sym, subst, ⊎_elim, arith}
use Rattle.std.proofs.lemmas.Bool.{cases_eq}
use Rattle.std.specs.Fn.{Called, Mut}
use Rattle.std.specs.Array.{IsFromFnResultFrom}

module _ {F B : Type 0} (g : Mut F (ℕ × Unit {0}) B) (stays : (f : F) (k : ℕ) (y : B) (f' : F) → Called g f (k, tt) y f' → f' ≡ f) where
  -- each element is what a call gives on the captures as they were at first
  pub filled : (f : F) (ys : List B) (i n : ℕ) → IsFromFnResultFrom g f ys i n → (k : ℕ) (e : B) → i ≤ k → k < i + n → (f' : F) × Called g f (k, tt) (get_or ys k e) f'
  filled f ys i zero h k e l m = absurd (omega arith)
  filled f ys i (suc n) (q, y, at, call, rest) k e l m = ⊎_elim here (λ other. subst (λ p. (f' : F) × Called g p (k, tt) (get_or ys k e) f') (stays f i y q call) (filled q ys (i + 1) n rest k e (omega arith) (omega arith))) (cases_eq i k)
    where
      here : i ≡ k → (f' : F) × Called g f (k, tt) (get_or ys k e) f'
      here same = subst (λ j. (f' : F) × Called g f (j, tt) (get_or ys j e) f') same (q, subst (λ x. Called g f (i, tt) x q) (sym (at.1 e)) call)
