-- A text cut at its first mark.
use Rattle.std.proofs.Common.{◌≡◌, ℕ, suc, ◌+◌, ◌<◌, Bool, true, false, cond, not, List, [], ◌∷◌, length, take, drop, refl, arith, ◌==◌}
use Rattle.std.specs.List.{before_first, after_first, position_or_len}
use Rattle.script.specs.States.{parts, put_first}

module _ (mark : ℕ) where
  abbrev is_mark : ℕ → Bool
  is_mark c = c == mark

  abbrev Cut : List ℕ → List (List ℕ) → ℕ → Type 0
  Cut text cut n = cut ≡ take n text ∷ parts mark (drop (n + 1) text)

  cut_at : (b : Bool) (c : ℕ) (text : List ℕ) (n : ℕ) → cond (not b) (1 + n) 0 < suc (length text) → (n < length text → Cut text (parts mark text) n) →
      Cut (c ∷ text) (cond b ([] ∷ parts mark text) (put_first c (parts mark text))) (cond (not b) (1 + n) 0)
  cut_at true c text n few later = refl
  cut_at false c text n few later =
      let one : 1 + n ≡ suc n = omega arith in
      let two : suc n + 1 ≡ suc (n + 1) = omega arith in
      rw (one, two, later (omega arith)) refl

  -- the first part stands before the first mark, and the others are those of what stands after it
  pub parts_cut : (text : List ℕ) → position_or_len is_mark text < length text → parts mark text ≡ before_first is_mark text ∷ parts mark (after_first is_mark text)
  unfolding parts
  parts_cut [] few = absurd (omega arith)
  parts_cut (c ∷ text) few = cut_at (c == mark) c text (position_or_len is_mark text) few (parts_cut text)

  one_at : (b : Bool) (c : ℕ) (text : List ℕ) (n : ℕ) → cond (not b) (1 + n) 0 ≡ suc (length text) → (n ≡ length text → parts mark text ≡ text ∷ []) →
      cond b ([] ∷ parts mark text) (put_first c (parts mark text)) ≡ (c ∷ text) ∷ []
  one_at true c text n all later = absurd (omega (arith, all))
  one_at false c text n all later = rw (later (omega (arith, all))) refl

  -- a text without a mark is one part
  pub parts_whole : (text : List ℕ) → position_or_len is_mark text ≡ length text → parts mark text ≡ text ∷ []
  unfolding parts
  parts_whole [] all = refl
  parts_whole (c ∷ text) all = one_at (c == mark) c text (position_or_len is_mark text) all (parts_whole text)
