-- The claims that a table of them stands for, and what it ends as where one of them is lent.
use Rattle.std.specs.Prelude.{◌≡◌, ℕ, ◌≤◌, List, map, Option, MatchOption, slice_get, Some, None}
use Rattle.std.specs.Borrow.{Fml, LendsIf, MutBor}
use Rattle.arrayvec.specs.ArrayVec.{array_vec_len, with_item}
use Rattle.language.specs.Expressions.{Truth, Reading, good, bad}
use Rattle.model.specs.Rows.{row_items}
use Rattle.unit.specs.Truths.{truth_of}
use Rattle.unit.specs.contracts.claims.Claim as claim
use Rattle.unit.specs.contracts.claims.Claims as claims
use Rattle.unit.specs.declared.claims.Claim.{Claim}
use Rattle.unit.specs.declared.claims.Claims.{Claims}
use Rattle.unit.specs.declared.claims.Mark.{Mark}
use Rattle.unit.specs.declared.claims.Mark.TheVariants.{Open, Held, Broken}
use Rattle.units.specs.Units.{open_mark, held, broken}
use Rattle.units.specs.Units as units

abbrev pub mark_of : Mark → units.Mark
mark_of Open = open_mark
mark_of Held = held
mark_of Broken = broken

-- a claim says what its bytes are
abbrev pub claim_of : Claim → units.Claim
claim_of c = record { says = truth_of (row_items c.bytes) c.right; mark = mark_of c.mark }

-- the claim that was read, before any evidence; none where something is wrong
abbrev pub claim_made : Reading Truth → Option units.Claim
claim_made (good p end) = Some (record { says = p; mark = open_mark })
claim_made (bad place) = None

abbrev pub claims_of : Claims → List units.Claim
claims_of cs = map claim_of cs.table.items

-- the claims as they were written
abbrev pub written_claims : Claims → List (List ℕ)
written_claims cs = map (λ c. row_items c.bytes) cs.table.items

-- the claims with another one under this number
abbrev pub with_claim : Claims → ℕ → Claim → Claims
with_claim cs number c = record { table = with_item cs.table number c }

-- The claim with this number is lent: once the loan ends, it is as the borrower left it, and the others are as they were. Where
-- there is none, all are as they were.
abbrev pub LendsClaim : MutBor Claims → ℕ → Option (MutBor Claim) → Fml
LendsClaim cs number r = LendsIf claims.the_row claim.the_row cs r (with_claim cs.now number) cs.now

-- what is lent is the claim with this number, and nothing where there is none
abbrev pub ClaimLent : Claims → ℕ → Option (MutBor Claim) → Type 0
ClaimLent cs number r = MatchOption r (array_vec_len cs.table ≤ number) (λ c. slice_get cs.table.items number ≡ Some c.now)
