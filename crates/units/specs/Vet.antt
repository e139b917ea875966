-- The boot entry: a table, a claim and states, to one number.
use Rattle.std.specs.Prelude.{ℕ, List}
use Rattle.language.specs.Meanings.{table_meaning}
use Rattle.units.specs.Refusals.{refusal_fault}
use Rattle.units.specs.Units.{Answer, done, refused, seal, claim, certify}

abbrev pub first_refusal : Answer ℕ → Answer ℕ → ℕ
first_refusal (refused r) a = (refusal_fault r).number
first_refusal (done x) (refused r) = (refusal_fault r).number
first_refusal (done x) (done y) = 0

-- The table is opened and sealed, the claim made and certified by the states; the answer is the number of the first
-- refusal, the unit's verdict among them, or 0.
abbrev pub vet : List ℕ → List ℕ → List ℕ → ℕ
vet table says states =
    let claimed = claim (seal (table_meaning table) 0) says in
    first_refusal claimed.answer (certify claimed.unit 0 states).answer
