-- What a search through a range leaves of the numbers that pass.
use Rattle.std.proofs.Common.{◌≡◌, ℕ, suc, ◌-◌, Bool, true, false, cond, List, [], ◌∷◌, Option, Some, None, filter, sym, ap, subst, ◌∙◌, arith}
use Rattle.std.proofs.iter.Yields.{nat_range_steps}
use Rattle.std.specs.Fn.{CalledAt, Mut}
use Rattle.std.specs.Iterator.{YieldsFirst, FindsItem}
use Rattle.std.specs.List.{FoldsTo, range_with_len}
use Rattle.std.specs.Option.{MatchOption}
use Rattle.std.specs.declared.ops.Range.{Range}
use denote.Ref.{Bor}

module _ (p : ℕ → Bool) where
  abbrev pub passing : Range ℕ → List ℕ
  passing s = filter p (range_with_len s.start (s.end - s.start))

  -- a step takes the first number, whether it passes or not
  stepped : (s t : Range ℕ) (x : ℕ) (b : Bool) → p x ≡ b → nat_range_steps s (Some x) t → passing s ≡ cond b (x ∷ passing t) (passing t)
  stepped s t x b is (ends, (more, first, on)) =
      let left = t.end - t.start in
      let long : s.end - s.start ≡ suc left = omega (arith, ends, more, on) in
      ap (λ n. filter p (range_with_len s.start n)) long
      ∙ ap (λ a. cond (p s.start) (s.start ∷ filter p (range_with_len a left)) (filter p (range_with_len a left))) (sym on)
      ∙ ap (λ y. cond (p y) (y ∷ passing t) (passing t)) (sym first)
      ∙ ap (λ c. cond c (x ∷ passing t) (passing t)) is

  module _ {F : Type 0} (g : Mut F (Bor ℕ × Unit {0}) Bool) (f : F) (answers : (x : ℕ) (b : Bool) (q : F) → CalledAt g f x b q → (q ≡ f) × (b ≡ p x)) where
    -- what is found is the first that passes, and those after it stay
    pub found : (s u : Range ℕ) (r : Option ℕ) → FindsItem nat_range_steps g s f r u → YieldsFirst passing s r u
    found s u None ([], j, (t, same, step), folds, passes) =
        let from = subst (λ v. nat_range_steps v None u) (sym same) step in
        let none : u.end - u.start ≡ 0 = omega (arith, from.0, from.1.0, from.1.1) in
        (ap (λ n. filter p (range_with_len s.start n)) from.1.0, ap (λ n. filter p (range_with_len u.start n)) none)
    found s u (Some x) ([], j, (t, same, step), folds, (h, call)) =
        stepped s u x true (sym (answers x true h (subst (λ v. CalledAt g v x true h) (sym folds) call)).1) (subst (λ v. nat_range_steps v (Some x) u) (sym same) step)
    found s u r (y ∷ ys, j, (t, (v, step, others), last), (q, call, folds), passes) =
        let kept = answers y false q call in
        subst (λ l. MatchOption r ((l ≡ []) × (passing u ≡ [])) (λ x. l ≡ x ∷ passing u)) (sym (stepped s v y false (sym kept.1) step))
        (found v u r (ys, j, (t, others, last), subst (λ k. FoldsTo (λ k x q. CalledAt g k x false q) k ys j) kept.0 folds, passes))
