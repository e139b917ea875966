use Rattle.std.proofs.Common.{List, ℕ, [], ◌∷◌, vec_items, sym, subst, Bor, Result, Ok, Err, Vec, IfOk}
use Rattle.std.proofs.lemmas.Iterator.{IsCollectResult}
use Rattle.std.specs.Char.{is_not_whitespace}
use Rattle.std.specs.Iterator.{Yields}
use Rattle.std.specs.Str.{NoCharPasses}
use Rattle.std.specs.Str.Iter.{split_whitespace_rest, split_whitespace_steps}
use Rattle.std.specs.declared.str.SplitWhitespace.{SplitWhitespace}
use Rattle.script.specs.Words.{Words}
use Rattle.script.proofs.command.words_of.Goals as goal

given : (ws : List (Bor (List ℕ))) (s t : SplitWhitespace) → Yields split_whitespace_steps s ws t → NoCharPasses is_not_whitespace (split_whitespace_rest t) → Words (split_whitespace_rest s) ws
given [] s t is blank = subst (λ u. NoCharPasses is_not_whitespace (split_whitespace_rest u)) (sym is) blank
given (w ∷ ws) s t (next, cut, more) blank =
    (_, record { gap = cut.0; cut = cut.1; some = cut.2; blank = cut.3; solid = cut.4; ends = cut.5 }, given ws next t more blank)

collected : {Z E : Type 0} (s : SplitWhitespace) (r : Result (Vec (Bor (List ℕ)) Z) E) → IsCollectResult split_whitespace_steps s r → IfOk r (λ v. Words (split_whitespace_rest s) (vec_items v))
collected s (Ok v) (ws, ends, is) = subst (Words (split_whitespace_rest s)) (sym is.0) (given ws s ends.0 ends.1 (ends.2 tt).1.1)
collected s (Err e) none = tt

pub returns : goal.returns
returns c = rw (← c.split_whitespace.ensures.rest) (collected _ _ c.collect.ensures.ran)
