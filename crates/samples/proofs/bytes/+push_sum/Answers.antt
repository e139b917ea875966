use Rattle.std.proofs.Common.{◌≡◌, ℕ, suc, List, [], ◌∷◌, ◌++◌, refl, append_assoc, rules, arith}
use Rattle.samples.specs.Bytes.{sum_form}
use Rattle.samples.proofs.bytes.+push_sum.Goals as goal

sum_more : (j k : ℕ) (old a b r : List ℕ)
    → k ≡ suc j
    → a ≡ old ++ 3 ∷ []
    → b ≡ a ++ sum_form j
    → r ≡ b ++ sum_form j
    → r ≡ old ++ sum_form k
unfolding sum_form
sum_more j k old a b r hk ha hb hr = rw hk (rw hr (rw hb (rw ha (simp append_assoc refl))))

pub returns-then-halvings-eq0 : goal.returns-then-halvings-eq0
unfolding sum_form
returns-then-halvings-eq0 k c = rw c.if-halvings-eq0.true (search rules)

pub returns : goal.returns
returns k c = sum_more _ _ _ _ _ _ (omega arith) c.in_ok-push.ensures.items c.in_ok-push_sum.ensures c.in_ok-push_sum-2.ensures
