use Rattle.std.proofs.Common.{◌≡◌, length, sym, ◌∙◌, arith}
use Rattle.std.proofs.lemmas.Bool.{eqb-true, eqb-false}
use Rattle.unit.proofs.Judged.{chunks_are_states, ne_pos, right_size}
use Rattle.unit.proofs.listing.states_in.Goals as goal

pub returns : goal.returns
returns c =
    let bs = c.args.bytes.now in
    let cut = c.as_chunks.ensures in
    let none : length c.as_chunks.result.1.now ≡ 0 = eqb-true _ _ (sym c.is_empty.ensures ∙ c.if-not-is_empty.false) in
    let some = eqb-false (length c.as_chunks.result.0.now) 0 (sym c.is_empty-else-not-is_empty.ensures ∙ c.if-is_empty.false) in (
      right_size bs (sym cut.back_len ∙ none) (λ e. some (cut.front_len ∙ e)) (omega (arith, cut.front_len, c.if-states-gt2048.false)),
      cut.front ∙ chunks_are_states bs,
      ne_pos (length c.as_chunks.result.0.now) some,
      c.if-states-gt2048.false,
    )
