-- One byte of a written expression whose names are exchanged, and the whole.
use Rattle.std.proofs.Common.{◌≡◌, ℕ, ◌+◌, ◌<◌, List, [], ◌∷◌, ◌++◌, length, get_or, take, drop, set, sym, ap, ◌∙◌, ap₂, arith}
use Rattle.std.proofs.lemmas.List.{append-nil, append_assoc, take_all, drop_all, take_more_set, drop-set-lt, drop_more}
use Rattle.language.proofs.Renaming.{renaming_exchanges_names}
use Rattle.language.specs.Expressions.{number_bytes, truth_bytes, number_renamed, truth_renamed, Next as Coming, operator, following, bytes_renamed}
use Rattle.model.specs.Exchange.{exchange}
use Rattle.expression.specs.Renaming.{next_of, NamesExchanged}
use Rattle.expression.specs.declared.renaming.Next.{Next}
use Rattle.expression.specs.declared.renaming.Next.TheVariants.{Operator, Constant, Name}

module _ (a b : ℕ) (s t : List ℕ) (i : ℕ) (inside : i < length s) where
  -- the byte at place i becomes y
  moved : (here then : Coming) (y : ℕ) → t ≡ set s i y → bytes_renamed a b here (get_or s i 0 ∷ drop (i + 1) s) ≡ y ∷ bytes_renamed a b then (drop (i + 1) s) → take (i + 1) t ++ bytes_renamed a b then (drop (i + 1) t) ≡ take i s ++ bytes_renamed a b here (drop i s)
  moved here then y is law =
      let left : take (i + 1) t ≡ take i s ++ (y ∷ []) = ap (take (i + 1)) is ∙ take_more_set s i y inside in
      let right : drop (i + 1) t ≡ drop (i + 1) s = ap (drop (i + 1)) is ∙ drop-set-lt (i + 1) s i y (omega arith) in
      ap₂ (λ l r. l ++ bytes_renamed a b then r) left right
      ∙ append_assoc (take i s) (y ∷ []) (bytes_renamed a b then (drop (i + 1) s))
      ∙ ap (λ l. take i s ++ l) (sym law ∙ ap (bytes_renamed a b here) (sym (drop_more s i 0 inside)))

  pub at_operator : (here then : Next) → here ≡ Operator → next_of then ≡ following (get_or s i 0) → t ≡ set s i (get_or s i 0) → take (i + 1) t ++ bytes_renamed a b (next_of then) (drop (i + 1) t) ≡ take i s ++ bytes_renamed a b (next_of here) (drop i s)
  at_operator here then h g is =
      moved (next_of here) (next_of then) (get_or s i 0) is
      (ap (λ n. bytes_renamed a b (next_of n) (get_or s i 0 ∷ drop (i + 1) s)) h ∙ ap (λ n. get_or s i 0 ∷ bytes_renamed a b n (drop (i + 1) s)) (sym g))

  pub at_constant : (here then : Next) → here ≡ Constant → then ≡ Operator → t ≡ set s i (get_or s i 0) → take (i + 1) t ++ bytes_renamed a b (next_of then) (drop (i + 1) t) ≡ take i s ++ bytes_renamed a b (next_of here) (drop i s)
  at_constant here then h g is =
      moved (next_of here) (next_of then) (get_or s i 0) is
      (ap (λ n. bytes_renamed a b (next_of n) (get_or s i 0 ∷ drop (i + 1) s)) h ∙ ap (λ n. get_or s i 0 ∷ bytes_renamed a b (next_of n) (drop (i + 1) s)) (sym g))

  pub at_name : (here then : Next) (y : ℕ) → here ≡ Name → then ≡ Operator → y ≡ exchange a b (get_or s i 0) → t ≡ set s i y → take (i + 1) t ++ bytes_renamed a b (next_of then) (drop (i + 1) t) ≡ take i s ++ bytes_renamed a b (next_of here) (drop i s)
  at_name here then y h g e is =
      moved (next_of here) (next_of then) y is
      (ap (λ n. bytes_renamed a b (next_of n) (get_or s i 0 ∷ drop (i + 1) s)) h ∙ ap₂ (λ y n. y ∷ bytes_renamed a b (next_of n) (drop (i + 1) s)) (sym e) (sym g))

-- at the end nothing is left
pub all_done : (a b : ℕ) (s whole : List ℕ) (i : ℕ) (next : Coming) → length s ≡ i → take i s ++ bytes_renamed a b next (drop i s) ≡ whole → s ≡ whole
all_done a b s whole i next h e =
    sym (ap₂ (λ l r. l ++ bytes_renamed a b next r) (take_all i s (omega arith)) (drop_all i s (omega arith)) ∙ append-nil s) ∙ e

pub names_exchanged : (a b : ℕ) (before after : List ℕ) → after ≡ bytes_renamed a b operator before → NamesExchanged a b before after
names_exchanged a b before after is =
    record {
      numbers = λ e h.
          is ∙ ap (bytes_renamed a b operator) (h ∙ sym (append-nil (number_bytes e))) ∙ renaming_exchanges_names.number_forms a b e [] ∙ append-nil (number_bytes (number_renamed a b e));
      truths = λ p h.
          is ∙ ap (bytes_renamed a b operator) (h ∙ sym (append-nil (truth_bytes p))) ∙ renaming_exchanges_names.truth_forms a b p [] ∙ append-nil (truth_bytes (truth_renamed a b p));
    }
