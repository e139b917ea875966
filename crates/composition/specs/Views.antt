-- A state of a whole as its part sees it, and a state under other names.
use Rattle.std.specs.Prelude.{ℕ, cond, List, map, is_some}
use Rattle.std.specs.List.{range_with_len}
use Rattle.model.specs.Meanings.{Valuation, OutlineFacts}
use Rattle.model.specs.States.{value}
use Rattle.model.specs.Exchange.{exchange}

-- the values of the 32 names
unfoldable pub as_state : Valuation → List ℕ
as_state v = map v (range_with_len 0 32)

-- the values of the part's variables, 0 at any other name
abbrev pub projected : OutlineFacts → List ℕ → List ℕ
projected o s = as_state (λ n. cond (is_some (o.kind n)) (value s n) 0)

-- the values of the two names exchanged
abbrev pub exchanged : ℕ → ℕ → List ℕ → List ℕ
exchanged a b s = as_state (λ n. value s (exchange a b n))
