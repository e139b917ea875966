-- What stands behind the atoms that are placed.
use Rattle.std.proofs.Common.{ℕ, ◌+◌, ◌≤◌, List, replicate, set, ◌∙◌, ⊎_elim, arith, get_or-set_other}
use Rattle.std.proofs.lemmas.Bool.{cases_lt}
use Rattle.std.proofs.lemmas.List.{get_or-replicate, get_or_past}
use Rattle.sealing.specs.Orders.{ZerosFrom}

pub zeros_blank : ZerosFrom 0 (replicate 16 0)
zeros_blank i l = ⊎_elim (λ few. get_or-replicate 16 i 0 0 few) (λ past. get_or_past (replicate 16 0) i 0 past) (cases_lt i 16)

pub zeros_more : (order : List ℕ) (n a : ℕ) → ZerosFrom n order → ZerosFrom (n + 1) (set order n a)
zeros_more order n a zeros i l = get_or-set_other order n i a 0 (λ e. omega (arith, e, l)) ∙ zeros i (omega (arith, l))

pub zeros_past : (order : List ℕ) (n m : ℕ) → n ≤ m → ZerosFrom n order → ZerosFrom m order
zeros_past order n m more zeros i l = zeros i (omega (arith, more, l))
