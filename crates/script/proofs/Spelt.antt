-- States that are spelt one after the other.
use Rattle.std.proofs.Common.{◌≡◌, ℕ, ◌<◌, List, ◌++◌, Ok, Err, Result, refl, ap, sym, length, ◌==◌}
use Rattle.std.specs.List.{before_first, after_first, position_or_len}
use Rattle.std.proofs.lemmas.List.{append_assoc, append-nil}
use Rattle.script.specs.States.{parts, then, state_in_words, all_states}
use Rattle.script.specs.declared.mistake.Mistake.{Mistake}
use Rattle.script.proofs.Parts.{parts_cut, parts_whole}

-- the states of a text, after these bytes
abbrev pub after : List ℕ → List ℕ → Result (List ℕ) Mistake
after bytes text = then (all_states (parts 59 text)) (λ states. Ok (bytes ++ states))

one_more : (bytes : List ℕ) (r : Result (List ℕ) Mistake) (s : Result (List ℕ) Mistake) (state : List ℕ) → r ≡ Ok state →
    then (then r (λ state. then s (λ states. Ok (state ++ states)))) (λ states. Ok (bytes ++ states)) ≡ then s (λ states. Ok ((bytes ++ state) ++ states))
one_more bytes r (Ok states) state is = rw is (ap Ok (sym (append_assoc bytes state states)))
one_more bytes r (Err e) state is = rw is refl

none_more : (bytes : List ℕ) (r s : Result (List ℕ) Mistake) (e : Mistake) → r ≡ Err e → then (then r (λ state. then s (λ states. Ok (state ++ states)))) (λ states. Ok (bytes ++ states)) ≡ Err e
none_more bytes r s e is = rw is refl

module _ (bytes text : List ℕ) (cut : position_or_len (λ c. c == 59) text < length text) where
  pub first_state : (state : List ℕ) → state_in_words (before_first (λ c. c == 59) text) ≡ Ok state → after bytes text ≡ after (bytes ++ state) (after_first (λ c. c == 59) text)
  unfolding all_states
  first_state state is = rw (parts_cut 59 text cut) (one_more bytes _ _ state is)

  pub first_wrong : (e : Mistake) → state_in_words (before_first (λ c. c == 59) text) ≡ Err e → after bytes text ≡ Err e
  unfolding all_states
  first_wrong e is = rw (parts_cut 59 text cut) (none_more bytes _ _ e is)

module _ (bytes text : List ℕ) (whole : position_or_len (λ c. c == 59) text ≡ length text) where
  pub last_state : (state : List ℕ) → state_in_words text ≡ Ok state → after bytes text ≡ Ok (bytes ++ state)
  unfolding all_states
  last_state state is = rw (parts_whole 59 text whole, is, append-nil state) refl

  pub last_wrong : (e : Mistake) → state_in_words text ≡ Err e → after bytes text ≡ Err e
  unfolding all_states
  last_wrong e is = rw (parts_whole 59 text whole, is) refl
